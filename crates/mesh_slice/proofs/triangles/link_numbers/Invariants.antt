use Rattle.std.proofs.Common.{◌≡◌, ℕ, ◌<◌, length, slice_index}
use Rattle.cut_laws.specs.Cuts.{number_in, edge_of}
use Rattle.mesh_slice.proofs.triangles.link_numbers.Given as goal

abbrev pub invariant-loop-edge : goal.invariant-loop-edge
invariant-loop-edge l =
    (length l.places ≡ 6) × ((e : ℕ) → e < l.edge → slice_index l.places e ≡ number_in l.links (edge_of l.corners e))
