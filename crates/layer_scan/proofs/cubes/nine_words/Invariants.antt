use Rattle.std.proofs.Common.{◌≡◌, ℕ, ◌<◌, length, slice_index, slice_index_or}
use Rattle.grid_rows.specs.Planes.{edge_row, no_edge}
use Rattle.layer_scan.proofs.cubes.nine_words.Given as goal

abbrev pub invariant-loop-k : goal.invariant-loop-k
invariant-loop-k l =
    (length l.words ≡ 9)
    × ((i : ℕ) → i < l.k → slice_index_or l.words i no_edge ≡ slice_index_or (edge_row l.plane (slice_index l.rows i)) l.w no_edge)
