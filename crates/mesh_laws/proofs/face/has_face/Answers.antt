use Rattle.std.proofs.Common.{arith, sym, ◌∙◌, slice_index_or}
use Rattle.mesh_laws.proofs.FaceOf.{In-at, has_face_lacks, has_face_all, each_of_places}
use Rattle.lists.proofs.MemberLaws.{not_In_of_has}
use Rattle.lists.proofs.Ascending.{ascends_of}
use Rattle.mesh_laws.proofs.face.has_face.Goals as goal

pub returns-then-not-has : goal.returns-then-not-has
returns-then-not-has g c =
    let f = slice_index_or c.args.face.now c.loop-number.number-index 0 in
    sym
    (has_face_lacks c.args.face.now c.args.simplex.now f (In-at c.args.face.now c.loop-number.number-index c.loop-number-test.true)
    (not_In_of_has c.args.simplex.now f (sym c.if-not-has.ensures)))

pub returns : goal.returns
returns g c =
    let all = each_of_places c.args.face.now c.args.simplex.now c.loop-number.number-index (omega arith) c.loop-number.invariant in
    c.is_distinct.ensures ∙ sym (has_face_all c.args.face.now c.args.simplex.now (ascends_of c.args.face.now c.requires.ascending) (omega arith) all)
