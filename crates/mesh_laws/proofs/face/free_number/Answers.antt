use Rattle.std.proofs.Common.{arith}
use Rattle.mesh_laws.proofs.FaceOf.{some_place_free}
use Rattle.mesh_laws.proofs.face.free_number.Goals as goal

pub unreachable-requires : goal.unreachable-requires
unreachable-requires g c = some_place_free c.args.face.now c.args.simplex.now c.loop-number.number-index c.requires (omega arith) c.loop-number.invariant
