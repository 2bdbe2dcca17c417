use Rattle.std.proofs.Common.{◌≡◌, ℕ, ◌<◌, length, slice_index}
use Rattle.bit_rows.specs.Rows.{IsWordOf}
use Rattle.layer_mesh.specs.PointSigns.{corner_sign}
use Rattle.layer_mesh.proofs.signs.corner_words.Given as goal

abbrev pub invariant-loop-corner : goal.invariant-loop-corner
invariant-loop-corner g l =
    (length l.words ≡ 16) × ((k : ℕ) → k < l.corner → IsWordOf (corner_sign g.row.D l.rows k) l.w (slice_index l.words k))
