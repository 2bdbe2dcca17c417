use Rattle.std.proofs.Common.{rules, sym, ◌∙◌, ◌+ℤ◌, FitsSigned, w64, to_z-of_z}
use Rattle.iso_model.specs.Faces.{sign_of_face}
use Rattle.mesh_laws.proofs.FaceOf.{total_more, size_more}
use Rattle.mesh_laws.proofs.face.face_sum.Goals as goal

pub loop-simplex-preserved : goal.loop-simplex-preserved
loop-simplex-preserved g c =
    let sign : FitsSigned w64 c.sign_of_face-sum.result = search rules in
    let all : FitsSigned w64 (c.loop-simplex.sum +ℤ c.sign_of_face-sum.result) = search rules in
    let before = sym c.loop-simplex.sum-is ∙ c.loop-simplex.invariant.0 in
    let step = total_more (sign_of_face c.args.face.now) c.args.simplices.now c.loop-simplex.simplex-index c.simplex-item.result
    c.loop-simplex-test.true c.simplex-item.is in (
      rw (to_z-of_z sign, c.loop-simplex.sum-is, to_z-of_z all) (cc (before, step, c.sign_of_face-sum.ensures.value)),
      rw (to_z-of_z sign, c.loop-simplex.sum-is, to_z-of_z all)
          (size_more c.loop-simplex.sum c.sign_of_face-sum.result c.loop-simplex.simplex-index
          (rw c.loop-simplex.sum-is at c.loop-simplex.invariant.1) c.sign_of_face-sum.ensures.size),
    )
