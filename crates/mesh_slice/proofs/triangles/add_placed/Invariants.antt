use Rattle.std.proofs.Common.{◌≡◌, ◌++◌, map, take, slice_index}
use Rattle.iso_model.specs.Placed.{placed_tuple}
use Rattle.mesh_slice.proofs.triangles.add_placed.Given as goal

abbrev pub invariant-loop-tuple : goal.invariant-loop-tuple
invariant-loop-tuple l = l.triangles.items ≡ l.initial.triangles.items ++ map (placed_tuple l.odd (λ e. slice_index l.places e)) (take l.tuple-index l.tuples)
