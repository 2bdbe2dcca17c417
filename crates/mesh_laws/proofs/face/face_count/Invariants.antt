use Rattle.std.proofs.Common.{◌≡◌, ◌≤◌, take}
use Rattle.iso_model.specs.Faces.{face_count}
use Rattle.mesh_laws.proofs.face.face_count.Given as goal

abbrev pub invariant-loop-simplex : goal.invariant-loop-simplex
invariant-loop-simplex g l = (l.count ≡ face_count (take l.simplex-index l.simplices) l.face) × (l.count ≤ l.simplex-index)
