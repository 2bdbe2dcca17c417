use Rattle.std.proofs.Common.{◌≡◌, ℕ, ◌<◌, [], map, pos, slice_index_or, length}
use Rattle.iso_model.specs.Cells.{corner_point}
use Rattle.label_rules.proofs.cell_lists.corners_of.Given as goal

-- the corners so far
abbrev pub invariant-loop-corner : goal.invariant-loop-corner
invariant-loop-corner g l = record {
  all : length l.corners ≡ 16;
  same : (k : ℕ) → k < l.corner → slice_index_or l.corners k [] ≡ map pos (corner_point g.C.Cell.KIND g.row.D k);
}
