use Rattle.std.proofs.Common.{◌≡◌, ℕ, ◌<◌, [], map, pos, slice_index_or, length}
use Rattle.iso_model.specs.Cells.{edge_midpoint}
use Rattle.label_rules.proofs.cell_lists.midpoints_of.Given as goal

-- the midpoints so far
abbrev pub invariant-loop-edge : goal.invariant-loop-edge
invariant-loop-edge g l = record {
  all : length l.midpoints ≡ 32;
  same : (e : ℕ) → e < l.edge → slice_index_or l.midpoints e [] ≡ map pos (edge_midpoint g.C.Cell.KIND g.row.D e);
}
