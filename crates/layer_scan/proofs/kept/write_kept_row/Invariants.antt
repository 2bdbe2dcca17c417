use Rattle.std.specs.Prelude.{ℕ, ◌<◌, slice_index}
use Rattle.bit_rows.specs.Rows.{IsWordOf}
use Rattle.layer_scan.specs.Corners.{every_corner}
use Rattle.layer_scan.proofs.kept.write_kept_row.Given as goal

abbrev pub invariant-loop-w : goal.invariant-loop-w
invariant-loop-w l = (j : ℕ) → j < l.w
    → IsWordOf (every_corner l.corners.lower.now l.corners.upper.now l.corners.row.corners) j (slice_index l.kept j)
