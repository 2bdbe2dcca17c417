use Rattle.std.specs.Prelude.{take}
use Rattle.bit_rows.specs.Rows.{IsWordOf}
use Rattle.layer_scan.specs.Corners.{some_corner}
use Rattle.layer_scan.proofs.corners.CornerRows.some.Given as goal

abbrev pub invariant-loop-number : goal.invariant-loop-number
invariant-loop-number l = IsWordOf (some_corner l.self.lower.now l.self.upper.now (take l.number-index l.self.row.corners)) l.w l.some
