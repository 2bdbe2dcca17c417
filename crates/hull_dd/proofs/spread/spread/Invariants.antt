use Rattle.std.proofs.Common.{◌<◌, All, length}
use Rattle.polynomials.specs.Small.{AreSmall}
use Rattle.hull_dd.proofs.spread.spread.Given as goal

abbrev pub invariant-loop-i : goal.invariant-loop-i
invariant-loop-i g l = record {
  inside : All (λ i. i < length l.points) l.chosen;
  small : All (λ row. AreSmall 64 row) l.rows;
}
