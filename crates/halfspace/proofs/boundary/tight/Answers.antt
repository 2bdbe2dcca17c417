-- One more point: its bit is set where its slack is 0.
use Rattle.std.proofs.Common.{◌≡◌, ◌<◌, ◌∙◌, ℕ, ℤ, List, [], pos, slice_index_or, ap, sym, arith}
use Rattle.iso_model.specs.Turns.{slack, same_int}
use Rattle.halfspace.proofs.TightNumbers.{same_int-false, number_with, number_without}
use Rattle.halfspace.proofs.SlackLaws.{zero_bits, zero_bits_not}
use Rattle.halfspace.proofs.boundary.tight.Goals as goal
use Rattle.halfspace.proofs.boundary.tight.Goals.{then-slack-eq0, else-slack-eq0}
use Rattle.lists.proofs.Contained.{any_default}
use Rattle.iso_model.proofs.PointLaws.{is-same_int}

pub loop-i-preserved : goal.loop-i-preserved
loop-i-preserved g c =
    let p =
    λ (k : ℕ).
    same_int (slack (record { normal = c.args.half.now.normal; bound = c.args.half.now.bound }) (slice_index_or c.args.points.now k []))
    (pos 0) in
    let few : c.loop-i.i < 64 = omega arith in
    let here : c.slack.result
    ≡ slack (record { normal = c.args.half.now.normal; bound = c.args.half.now.bound }) (slice_index_or c.args.points.now c.loop-i.i []) =
    c.slack.ensures ∙ ap (λ (x : List ℤ). slack (record { normal = c.args.half.now.normal; bound = c.args.half.now.bound }) x)
    (c.index-points-i.is ∙ any_default c.args.points.now c.loop-i.i c.index-points-i.result [] (omega arith)) in
    elim c.if-slack-eq0.branch [
      | then-slack-eq0 w ↦
          w.set-is
          ∙ number_with p c.loop-i.i c.loop-i.set few c.loop-i.invariant
          (is-same_int _ (pos 0) (sym here ∙ zero_bits c.slack.result c.slack.type_inv w.if-slack-eq0.true))
      | else-slack-eq0 w ↦
          w.set-is
          ∙ number_without p c.loop-i.i c.loop-i.set c.loop-i.invariant
          (same_int-false _ (pos 0) (λ e. zero_bits_not c.slack.result w.if-slack-eq0.false (here ∙ e)))
    ]
