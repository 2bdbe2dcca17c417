use Rattle.std.proofs.Common.{◌≡◌, ℕ, ◌<◌, slice_index_or, length}
use Rattle.iso_model.specs.Cells.{edge_ends}
use Rattle.label_rules.proofs.cell_lists.ends_of.Given as goal

-- the ends so far
abbrev pub invariant-loop-edge : goal.invariant-loop-edge
invariant-loop-edge g l = record {
  all : length l.ends ≡ 32;
  same : (e : ℕ) → e < l.edge → slice_index_or l.ends e (0, 0) ≡ edge_ends g.C.Cell.KIND g.row.D e;
}
