use Rattle.polynomials.specs.Small.{AreSmall}
use Rattle.hull_dd.proofs.spread.towards.Given as goal

abbrev pub invariant-loop-i : goal.invariant-loop-i
invariant-loop-i g l = AreSmall 64 l.row
