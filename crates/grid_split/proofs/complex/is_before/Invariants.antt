use Rattle.std.proofs.Common.{◌≡◌}
use Rattle.std.specs.Prelude.{take}
use Rattle.iso_model.specs.Points.{comes_first}
use Rattle.grid_split.proofs.complex.is_before.Given as goal

abbrev pub invariant-loop-axis : goal.invariant-loop-axis
invariant-loop-axis g l = l.before ≡ comes_first (take l.axis l.p) (take l.axis l.q)
