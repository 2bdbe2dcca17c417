use Rattle.std.proofs.Common.{arith}
use Rattle.polynomials.proofs.SmallLaws.{same_ints}
use Rattle.small_turn.proofs.as_row.Goals as goal

pub returns : goal.returns
returns g c = same_ints c.loop-i.out c.args.row.now (omega arith) (λ k p. c.loop-i.invariant.1 k (omega arith))
