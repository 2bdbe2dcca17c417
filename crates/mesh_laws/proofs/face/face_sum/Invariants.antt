use Rattle.std.proofs.Common.{◌≡◌, ◌≤◌, take, unsigned_abs}
use Rattle.iso_model.specs.Faces.{face_sum}
use Rattle.mesh_laws.proofs.face.face_sum.Given as goal

abbrev pub invariant-loop-simplex : goal.invariant-loop-simplex
invariant-loop-simplex g l = (l.sum ≡ face_sum (take l.simplex-index l.simplices) l.face) × (unsigned_abs l.sum ≤ l.simplex-index)
