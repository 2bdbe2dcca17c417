use Rattle.std.proofs.Common.{◌≡◌, ◌-◌, drop}
use Rattle.layer_scan.specs.CubeNumbers.{digits as digits_of}
use Rattle.layer_scan.proofs.cubes.digits.Given as goal

abbrev pub invariant-loop-back : goal.invariant-loop-back
invariant-loop-back g l = l.number ≡ digits_of l.base (drop (g.row.D - l.back) l.middle)
