use Rattle.std.proofs.Common.{ap, rules, ◌∙◌, ◌+◌, ◌<◌, ◌≡◌, ◌%◌, length, ℕ}
use Rattle.iso_model.specs.Faces.{face_without}
use Rattle.mesh_audit.specs.SignedKeys.{sign_bit, signed_key}
use Rattle.mesh_audit.proofs.SignedKeyLists.{sign_found}
use Rattle.mesh_audit.proofs.sides.signed_face.Goals as goal

pub returns : goal.returns
returns g c =
    let w = c.args.simplex.now in
    let inside : c.args.place < length w = search rules in
    let found = sign_found w c.args.place c.requires.distinct inside in
    let bit : (c.args.parity + c.count_below.result % 2) % 2 ≡ sign_bit w c.args.place = rw (c.requires.parity, c.count_below.ensures) found in
    c.signed_key.ensures ∙ ap (λ (s : ℕ). signed_key s (face_without w c.args.place)) bit
