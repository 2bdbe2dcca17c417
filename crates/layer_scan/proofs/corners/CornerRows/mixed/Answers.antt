use Rattle.std.proofs.Common.{rules}
use Rattle.std.specs.Prelude.{List, not, ℕ, ◌-◌, ◌<◌, ◌^◌}
use Rattle.grid_rows.specs.declared.planes.BitPlane.{BitPlane}
use Rattle.layer_scan.specs.Corners.{every_corner, some_corner}
use Rattle.layer_scan.proofs.WordTests.{and_words, not_word}
use Rattle.layer_scan.proofs.corners.CornerRows.mixed.Goals as goal

pub returns : goal.returns
returns c =
    let low : BitPlane = c.args.self.now.lower.now in
    let high : BitPlane = c.args.self.now.upper.now in
    let ns : List ℕ = c.args.self.now.row.corners in
    let fits : c.every.result < 2 ^ 64 = search rules in
    and_words (some_corner low high ns) (λ x. not (every_corner low high ns x)) c.args.w c.some.result (18446744073709551615 - c.every.result)
    c.some.ensures (not_word (every_corner low high ns) c.args.w c.every.result fits c.every.ensures)
