use Rattle.std.proofs.Common.{All}
use Rattle.polynomials.specs.Small.{AreSmall}
use Rattle.hull_dd.proofs.spread.unit_rows.Given as goal

abbrev pub invariant-loop-i : goal.invariant-loop-i
invariant-loop-i g l = All (λ row. AreSmall 64 row) l.rows
