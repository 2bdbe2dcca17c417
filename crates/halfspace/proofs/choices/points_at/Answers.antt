-- All places are filled.
use Rattle.std.proofs.Common.{arith}
use Rattle.halfspace.proofs.Bases.{members_from}
use Rattle.halfspace.proofs.choices.points_at.Goals as goal

pub returns : goal.returns
returns g c = members_from c.args.points.now c.args.choice.now c.loop-i.chosen (omega arith) (λ k h. c.loop-i.invariant.same k (omega arith))
