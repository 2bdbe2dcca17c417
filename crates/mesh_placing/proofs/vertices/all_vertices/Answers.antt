use Rattle.std.proofs.Common.{rules, ◌≡◌, ◌<◌, ◌++◌, List, [], ◌∷◌, length, true, get_or, ℤ, w64, to_z, of_z, sym, ap, ◌∙◌, subst, arith}
use Rattle.std.specs.Prelude.{is_ok, if◌then◌else◌}
use Rattle.std.proofs.lemmas.Int.{to_z-of_z}
use Rattle.std.proofs.lemmas.Option.{get_or_from_slice_get}
use Rattle.iso_model.specs.Splits.{Edge}
use Rattle.edge_vertex.specs.EdgeValue.{edge_of}
use Rattle.mesh_placing.specs.Placing.{IsCrossed, vertex_on}
use Rattle.mesh_placing.proofs.FilledLists.{map-take_more}
use Rattle.mesh_placing.proofs.vertices.all_vertices.Goals as goal

pub vertex_on-vertex-requires : goal.vertex_on-vertex-requires
vertex_on-vertex-requires g c =
    let iso : to_z w64 (of_z w64 c.args.iso) ≡ c.args.iso = to_z-of_z w64 c.args.iso c.ranges.iso in
    let inside : c.loop-number.number < length c.args.edges.now =
    omega (arith, c.loop-number-test.true, c.len-number-end.ensures, c.loop-number.auto.number-end) in
    let at : IsCrossed c.args.grid.now c.args.iso (get_or c.args.edges.now c.loop-number.number (edge_of c.edge.result)) =
    c.requires.crossed c.loop-number.number (edge_of c.edge.result) inside in
    let same : get_or c.args.edges.now c.loop-number.number (edge_of c.edge.result) ≡ edge_of c.edge.result =
    get_or_from_slice_get c.args.edges.now c.loop-number.number (edge_of c.edge.result) (edge_of c.edge.result) c.edge.ensures in
    let crossed : IsCrossed c.args.grid.now (to_z w64 (of_z w64 c.args.iso)) (edge_of c.edge.result) =
    subst (λ (z : ℤ). IsCrossed c.args.grid.now z (edge_of c.edge.result)) (sym iso) (subst (IsCrossed c.args.grid.now c.args.iso) same at) in
    search (rules, crossed)

pub loop-number-preserved : goal.loop-number-preserved
loop-number-preserved g c =
    let f : Edge → List ℤ = vertex_on c.args.grid.now (to_z w64 (of_z w64 c.args.iso)) in
    let inside : c.loop-number.number < length c.args.edges.now =
    omega (arith, c.loop-number-test.true, c.len-number-end.ensures, c.loop-number.auto.number-end) in
    let ok : is_ok c.push.result ≡ true = search rules in
    let pushed : c.push.new.self.items ≡ c.loop-number.vertices.items ++ c.vertex_on-vertex.result ∷ [] =
    c.push.ensures.items ∙ ap (λ b. if b then c.loop-number.vertices.items ++ c.vertex_on-vertex.result ∷ [] else c.loop-number.vertices.items) ok in
    let same : get_or c.args.edges.now c.loop-number.number (edge_of c.edge.result) ≡ edge_of c.edge.result =
    get_or_from_slice_get c.args.edges.now c.loop-number.number (edge_of c.edge.result) (edge_of c.edge.result) c.edge.ensures in
    let item : c.vertex_on-vertex.result ≡ f (get_or c.args.edges.now c.loop-number.number (edge_of c.edge.result)) =
    c.vertex_on-vertex.ensures ∙ ap f (sym same) in
    let next : c.push.new.self.items ≡ c.loop-number.vertices.items ++ f (get_or c.args.edges.now c.loop-number.number (edge_of c.edge.result)) ∷ [] =
    pushed ∙ ap (λ (x : List ℤ). c.loop-number.vertices.items ++ x ∷ []) item in
    map-take_more f c.args.edges.now c.loop-number.number (edge_of c.edge.result) [] c.loop-number.vertices.items c.push.new.self.items inside
    c.loop-number.invariant next
