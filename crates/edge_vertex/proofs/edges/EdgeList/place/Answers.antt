use Rattle.std.proofs.Common.{rules, ◌≡◌, length, Bool, sym, ◌∙◌, arith}
use Rattle.std.specs.List.{position_or_len}
use Rattle.std.proofs.lemmas.List.{length-map}
use Rattle.grid_split.specs.contracts.split.EdgePartialEq.TheImpl.{eq-value}
use Rattle.grid_split.specs.declared.split.Edge.{Edge}
use denote.Param.{number}
use Rattle.iso_model.specs.Bipolar.{place_in}
use Rattle.edge_vertex.specs.EdgeValue.{edge_of, edges_of}
use Rattle.edge_vertex.proofs.EdgePlaces.{edge_place, found_place, no_place, place_most}
use Rattle.edge_vertex.proofs.edges.EdgeList.place.Goals as goal

pub returns-in-Some : goal.returns-in-Some
returns-in-Some g c =
    let E : Edge g.row.D → Bool = (eq-value (number g.row.D)).it c.args.edge.now in
    let at : position_or_len E c.self.inside.edges.keys ≡ place_in (edges_of c.self.inside.edges.keys) (edge_of c.args.edge.now) =
    edge_place E c.args.edge.now c.self.inside.edges.keys (λ y h. search rules) (λ y h. search rules) in
    let found = found_place (position_or_len E c.self.inside.edges.keys) (length c.self.inside.edges.keys) c.in-Some.place (sym c.in-Some.ensures.index) in
    rw (← c.self.view_is) (found.0 ∙ at, omega (arith, found.1, length-map c.self.inside.edges.keys (edge_of {D = g.row.D})))

pub returns-in-None : goal.returns-in-None
returns-in-None g c =
    let E : Edge g.row.D → Bool = (eq-value (number g.row.D)).it c.args.edge.now in
    let at : position_or_len E c.self.inside.edges.keys ≡ place_in (edges_of c.self.inside.edges.keys) (edge_of c.args.edge.now) =
    edge_place E c.args.edge.now c.self.inside.edges.keys (λ y h. search rules) (λ y h. search rules) in
    let none =
    no_place (position_or_len E c.self.inside.edges.keys) (length c.self.inside.edges.keys) (place_most E c.self.inside.edges.keys)
    (sym c.in-None.ensures.index) in
    rw (← c.self.view_is) (sym at ∙ none ∙ sym (length-map c.self.inside.edges.keys (edge_of {D = g.row.D})))
