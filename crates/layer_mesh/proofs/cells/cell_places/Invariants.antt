use Rattle.std.proofs.Common.{◌≡◌, ℕ, ◌<◌, length, slice_index}
use Rattle.std.specs.Prelude.{All}
use Rattle.edge_middles.specs.HeldMiddles.{middle_from}
use Rattle.layer_scan.specs.CubeNumbers.{place_of}
use Rattle.layer_mesh.proofs.cells.cell_places.Given as goal

abbrev pub invariant-loop-edge : goal.invariant-loop-edge
invariant-loop-edge g l =
    (length l.places ≡ 32) × All (λ k. k < 81) l.places
    × ((e : ℕ) → e < l.edge → slice_index l.places e ≡ place_of (middle_from g.C.Cell.KIND g.row.D l.rank e))
