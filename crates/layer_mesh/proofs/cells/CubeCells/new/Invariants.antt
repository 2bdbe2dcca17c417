use Rattle.std.proofs.Common.{◌≡◌, ℕ, ◌<◌, length, slice_index_or}
use Rattle.layer_mesh.specs.declared.cells.CubeCell.{CubeCell}
use Rattle.layer_mesh.specs.CubeCells.{IsCubeCell}
use Rattle.layer_mesh.proofs.cells.CubeCells.new.Given as goal

abbrev pub invariant-loop-rank : goal.invariant-loop-rank
invariant-loop-rank g l =
    (length l.cells ≡ 24) × ((r : ℕ) → r < l.rank → (none : CubeCell) → IsCubeCell g.C.Cell.KIND g.row.D r (slice_index_or l.cells r none))
