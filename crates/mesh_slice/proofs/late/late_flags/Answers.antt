use Rattle.std.proofs.Common.{rules, ◌≡◌, ◌++◌, Bool, List, [], ◌∷◌, true, ℤ, w64, to_z, of_z, ap, ◌∙◌}
use Rattle.std.specs.Prelude.{is_ok, if◌then◌else◌}
use Rattle.cut_laws.specs.Cuts.{is_late_position}
use Rattle.mesh_slice.proofs.GrowingLists.{mapped_more}
use Rattle.mesh_slice.proofs.late.late_flags.Goals as goal

pub loop-position-preserved : goal.loop-position-preserved
loop-position-preserved c =
    let f : List ℤ → Bool = is_late_position (to_z w64 (of_z w64 c.args.time)) in
    let ok : is_ok c.push.result ≡ true = search rules in
    let pushed : c.push.new.self.items ≡ c.loop-position.late.items ++ c.is_late.result ∷ [] =
    c.push.ensures.items ∙ ap (λ b. if b then c.loop-position.late.items ++ c.is_late.result ∷ [] else c.loop-position.late.items) ok in
    mapped_more f c.args.vertices.now c.loop-position.position-index [] [] c.loop-position.late.items c.push.new.self.items
    c.loop-position-test.true c.loop-position.invariant (pushed ∙ ap (λ (b : Bool). c.loop-position.late.items ++ b ∷ []) c.is_late.ensures)
