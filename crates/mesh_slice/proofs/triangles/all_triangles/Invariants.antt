use Rattle.std.proofs.Common.{◌≡◌, take}
use Rattle.std.specs.Prelude.{flat_map}
use Rattle.cut_laws.specs.Cuts.{triangles_in}
use Rattle.mesh_slice.specs.Slices.{late_by}
use Rattle.mesh_slice.proofs.triangles.all_triangles.Given as goal

abbrev pub invariant-loop-simplex : goal.invariant-loop-simplex
invariant-loop-simplex l = l.triangles.items ≡ flat_map (triangles_in (late_by l.late) l.links l.cut) (take l.simplex-index l.simplices)
