use Rattle.std.proofs.Common.{◌≡◌, ℕ, ◌<◌, length, slice_index_or}
use Rattle.iso_model.specs.Cells.{edge_ends}
use Rattle.mesh_placing.proofs.tests.all_ends.Given as goal

abbrev pub invariant-loop-edge : goal.invariant-loop-edge
invariant-loop-edge g l = (length l.ends ≡ 32) × ((e : ℕ) → e < l.edge → slice_index_or l.ends e (0, 0) ≡ edge_ends g.C.Cell.KIND g.row.D e)
