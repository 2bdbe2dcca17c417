use Rattle.std.proofs.Common.{arith}
use Rattle.std.specs.Prelude.{List, length, ℕ, ◌≡◌}
use Rattle.grid_rows.specs.declared.planes.BitPlane.{BitPlane}
use Rattle.layer_scan.specs.Corners.{every_corner}
use Rattle.layer_scan.proofs.CornerBits.{every_past}
use Rattle.layer_scan.proofs.WordTests.{row_from_words}
use Rattle.layer_scan.proofs.kept.write_kept_row.Goals as goal

pub returns : goal.returns
returns c =
    let lower : BitPlane = c.args.corners.now.lower.now in
    let upper : BitPlane = c.args.corners.now.upper.now in
    let corners : List ℕ = c.args.corners.now.row.corners in
    let long : length c.loop-w.kept ≡ lower.words = omega arith in
    record {
      long = c.loop-w.auto.kept;
      bits = row_from_words (every_corner lower upper corners) c.loop-w.kept (λ j lt. c.loop-w.invariant j (omega (arith, lt)))
          (λ x h. every_past lower upper corners x c.requires.corners (omega (arith, h, long)));
    }
