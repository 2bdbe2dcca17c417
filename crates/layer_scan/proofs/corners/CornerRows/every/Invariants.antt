use Rattle.std.specs.Prelude.{take}
use Rattle.bit_rows.specs.Rows.{IsWordOf}
use Rattle.layer_scan.specs.Corners.{every_corner}
use Rattle.layer_scan.proofs.corners.CornerRows.every.Given as goal

abbrev pub invariant-loop-number : goal.invariant-loop-number
invariant-loop-number l = IsWordOf (every_corner l.self.lower.now l.self.upper.now (take l.number-index l.self.row.corners)) l.w l.every
