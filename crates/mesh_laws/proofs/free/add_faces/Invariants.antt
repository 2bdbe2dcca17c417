use Rattle.std.proofs.Common.{map}
use Rattle.lists.specs.Orders.{numbers}
use Rattle.iso_model.specs.Faces.{face_without}
use Rattle.mesh_laws.specs.FaceKeys.{padded}
use Rattle.mesh_laws.specs.FaceGroups.{TakeFaces}
use Rattle.mesh_laws.proofs.free.add_faces.Given as goal

abbrev pub invariant-loop-place : goal.invariant-loop-place
invariant-loop-place g l = TakeFaces l.initial.groups l.groups (map (λ i. padded (face_without l.simplex i)) (numbers l.place))
