use Rattle.std.proofs.Common.{◌≡◌, ◌*◌, ◌^◌, ◌+ℤ◌, drop}
use Rattle.iso_model.specs.Turns.{dot}
use Rattle.polynomials.specs.Small.{IsSmall}
use Rattle.small_turn.proofs.dot.Given as goal

-- what is summed up and what is still to come make the whole
abbrev pub invariant-loop-i : goal.invariant-loop-i
invariant-loop-i g l = (l.sum +ℤ dot (drop l.i l.xs) (drop l.i l.ys) ≡ dot l.xs l.ys) × IsSmall (l.i * 2 ^ 46) l.sum
