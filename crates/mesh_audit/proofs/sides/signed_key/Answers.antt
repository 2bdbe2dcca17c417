use Rattle.iso_model.specs.Faces.{face_without}
use Rattle.mesh_audit.proofs.SignedKeyLists.{sign_moved}
use Rattle.mesh_audit.proofs.sides.signed_key.Goals as goal

pub returns : goal.returns
returns g c =
    sign_moved c.face_key-key.result (face_without c.args.simplex.now c.args.place) c.rotate_left.new.self c.args.sign c.face_key-key.ensures
    c.rotate_left.ensures.after
