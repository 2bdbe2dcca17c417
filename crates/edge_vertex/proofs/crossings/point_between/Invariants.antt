use Rattle.std.proofs.Common.{◌≡◌, ℕ, ◌<◌, length, pos, slice_index_or}
use Rattle.edge_vertex.specs.EdgeEnds.{coordinate_between}
use Rattle.edge_vertex.proofs.crossings.point_between.Given as goal

abbrev pub invariant-loop-axis : goal.invariant-loop-axis
invariant-loop-axis g l =
    (length l.place ≡ g.row.D) × ((i : ℕ) → i < l.axis → slice_index_or l.place i (pos 0) ≡ coordinate_between l.low l.high l.part l.way i)
