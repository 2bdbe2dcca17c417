use Rattle.std.proofs.Common.{◌≡◌, ℕ, ◌<◌, [], map, pos, slice_index, slice_index_or, length}
use Rattle.iso_model.specs.Cells.{edge_midpoint}
use Rattle.label_rules.proofs.canonical.Figures.vertices.Given as goal

-- the midpoints so far
abbrev pub invariant-loop-place : goal.invariant-loop-place
invariant-loop-place g l = record {
  all : length l.midpoints ≡ g.row.D;
  same : (k : ℕ) → k < l.place → slice_index_or l.midpoints k [] ≡ map pos (edge_midpoint l.self g.row.D (slice_index l.tuple k));
}
