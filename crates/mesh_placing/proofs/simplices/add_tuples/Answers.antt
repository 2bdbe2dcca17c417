use Rattle.std.proofs.Common.{rules, ◌≡◌, ℕ, ◌++◌, List, [], ◌∷◌, true, get_or, ap, ◌∙◌}
use Rattle.std.specs.Prelude.{slice_index, is_ok, if◌then◌else◌}
use Rattle.iso_model.specs.Placed.{placed_tuple}
use Rattle.mesh_placing.proofs.FilledLists.{map-take_more}
use Rattle.mesh_placing.proofs.simplices.add_tuples.Goals as goal

pub loop-tuple-preserved : goal.loop-tuple-preserved
loop-tuple-preserved g c =
    let f : List ℕ → List ℕ = placed_tuple c.args.odd (λ e. slice_index c.args.places.now e) in
    let ok : is_ok c.push.result ≡ true = search rules in
    let pushed : c.push.new.self.items ≡ c.loop-tuple.simplices.items ++ c.placed_tuple.result ∷ [] =
    c.push.ensures.items ∙ ap (λ b. if b then c.loop-tuple.simplices.items ++ c.placed_tuple.result ∷ [] else c.loop-tuple.simplices.items) ok in
    let item : c.placed_tuple.result ≡ f (get_or c.args.tuples.now c.loop-tuple.tuple-index c.tuple-item.result) =
    c.placed_tuple.ensures ∙ ap f c.tuple-item.is in
    let next :
    c.push.new.self.items ≡ c.loop-tuple.simplices.items ++ f (get_or c.args.tuples.now c.loop-tuple.tuple-index c.tuple-item.result) ∷ [] =
    pushed ∙ ap (λ (x : List ℕ). c.loop-tuple.simplices.items ++ x ∷ []) item in
    map-take_more f c.args.tuples.now c.loop-tuple.tuple-index c.tuple-item.result c.args.simplices.now.items c.loop-tuple.simplices.items c.push.new.self.items
    c.loop-tuple-test.true c.loop-tuple.invariant next
