use Rattle.std.proofs.Common.{◌≡◌, ℕ, ◌+◌, ◌*◌, true, length, sym, ap, ◌∙◌}
use Rattle.iso_model.specs.Splits as Splits
use Rattle.iso_model.specs.Bipolar.{is_bipolar_in}
use Rattle.edge_vertex.specs.EdgeValue.{edge_of, edges_of, Adds, IsBipolarAt}
use Rattle.edge_vertex.proofs.Added.{at_bipolar, not_bipolar}
use Rattle.lists.proofs.Results.{OnOk-weaker}
use Rattle.edge_vertex.proofs.found.add_if.Goals as goal

pub returns-then-is_bipolar : goal.returns-then-is_bipolar
returns-then-is_bipolar g c = λ s iso number axes is.
    let cell : ℕ = number * g.C.Split.PER_CUBE + c.args.rank in
    let so : is_bipolar_in g.C.Cell.KIND (length s.sizes) c.args.label c.args.edge ≡ true =
    ap (λ (n : ℕ). is_bipolar_in g.C.Cell.KIND n c.args.label c.args.edge) axes ∙ sym c.is_bipolar.ensures ∙ c.if-is_bipolar.true in
    let e : Splits.Edge = Splits.edge g.C.Cell.KIND s.sizes cell c.args.edge in
    let low : c.edge.result.low ≡ e.low = c.edge.ensures.low s iso number axes is in
    let high : c.edge.result.high ≡ e.high = c.edge.ensures.high s iso number axes is in
    let same : edge_of c.edge.result ≡ e = λ i. record { low = low i; high = high i } in
    OnOk-weaker c.add.result (Adds (λ x. edge_of c.edge.result ≡ x) (edges_of c.args.edges.now.keys) (edges_of c.add.new.edges.keys))
    (Adds (IsBipolarAt g.C.Cell.KIND s.sizes cell c.args.label c.args.edge) (edges_of c.args.edges.now.keys) (edges_of c.add.new.edges.keys))
    (λ a.
    at_bipolar g.C.Cell.KIND s.sizes cell c.args.label c.args.edge (edge_of c.edge.result) (edges_of c.args.edges.now.keys)
    (edges_of c.add.new.edges.keys) so same a)
    c.add.ensures

pub returns : goal.returns
returns g c = λ s iso number axes is.
    not_bipolar g.C.Cell.KIND s.sizes (number * g.C.Split.PER_CUBE + c.args.rank) c.args.label c.args.edge (edges_of c.args.edges.now.keys)
    (ap (λ (n : ℕ). is_bipolar_in g.C.Cell.KIND n c.args.label c.args.edge) axes ∙ sym c.is_bipolar.ensures ∙ c.if-is_bipolar.false)
