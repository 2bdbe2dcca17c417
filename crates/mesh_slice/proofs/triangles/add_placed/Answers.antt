use Rattle.std.proofs.Common.{rules, ◌≡◌, ℕ, ◌++◌, List, [], ◌∷◌, true, ap, ◌∙◌}
use Rattle.std.specs.Prelude.{slice_index, is_ok, if◌then◌else◌}
use Rattle.iso_model.specs.Placed.{placed_tuple}
use Rattle.mesh_slice.proofs.GrowingLists.{mapped_more}
use Rattle.mesh_slice.proofs.triangles.add_placed.Goals as goal

pub loop-tuple-preserved : goal.loop-tuple-preserved
loop-tuple-preserved c =
    let f : List ℕ → List ℕ = placed_tuple c.args.odd (λ e. slice_index c.args.places.now e) in
    let ok : is_ok c.push.result ≡ true = search rules in
    let pushed : c.push.new.self.items ≡ c.loop-tuple.triangles.items ++ c.placed.result ∷ [] =
    c.push.ensures.items ∙ ap (λ b. if b then c.loop-tuple.triangles.items ++ c.placed.result ∷ [] else c.loop-tuple.triangles.items) ok in
    mapped_more f c.args.tuples.now c.loop-tuple.tuple-index [] c.args.triangles.now.items c.loop-tuple.triangles.items c.push.new.self.items
    c.loop-tuple-test.true c.loop-tuple.invariant (pushed ∙ ap (λ (x : List ℕ). c.loop-tuple.triangles.items ++ x ∷ []) c.placed.ensures)
