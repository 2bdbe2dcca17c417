use Rattle.std.proofs.Common.{◌*◌, ◌<◌, ◌≤◌, length, map, take}
use Rattle.mesh_laws.specs.FaceKeys.{padded, all_faces}
use Rattle.mesh_laws.specs.FaceGroups.{AreGroups}
use Rattle.mesh_laws.proofs.free.free_faces.Given as goal

abbrev pub invariant-loop-simplex : goal.invariant-loop-simplex
invariant-loop-simplex g l = record {
  some : 0 < length l.groups.items;
  groups : AreGroups l.groups.items (map padded (all_faces (take l.simplex-index l.simplices)));
  few : length (all_faces (take l.simplex-index l.simplices)) ≤ l.simplex-index * g.row.D;
}
