use Rattle.std.proofs.Common.{◌≡◌, ◌%◌, ◌==◌, take}
use Rattle.std.specs.List.{list_all}
use Rattle.layer_scan.proofs.cubes.joins_samples.Given as goal

abbrev pub invariant-loop-axis : goal.invariant-loop-axis
invariant-loop-axis g l = l.even ≡ list_all (λ c. c % 2 == 0) (take l.axis l.middle)
