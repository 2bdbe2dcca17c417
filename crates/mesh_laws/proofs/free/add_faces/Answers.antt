use Rattle.std.proofs.Common.{arith, subst, ap, sym, ◌∙◌, ◌≡◌, ◌++◌, ◌+◌, ◌∷◌, [], length, map, rules, List, ℕ}
use Rattle.std.proofs.lemmas.List.FromFn.{map-range_with_len_more}
use Rattle.lists.specs.Orders.{numbers}
use Rattle.iso_model.specs.Faces.{face_without}
use Rattle.mesh_laws.specs.FaceKeys.{padded}
use Rattle.mesh_laws.specs.FaceGroups.{TakeFaces}
use Rattle.mesh_laws.proofs.FaceKeyLists.{keys_all, few_faces}
use Rattle.mesh_laws.proofs.FaceGroupLaws.{none_taken, both_taken}
use Rattle.mesh_laws.proofs.free.add_faces.Goals as goal

pub loop-place-init : goal.loop-place-init
loop-place-init g c = none_taken c.args.groups.now

pub loop-place-preserved : goal.loop-place-preserved
loop-place-preserved g c =
    let w = c.args.simplex.now in
    let keys : ℕ → List (List ℕ) = λ n. map (λ i. padded (face_without w i)) (numbers n) in
    let more : keys c.loop-place.place ++ c.face_key.result ∷ [] ≡ keys (c.loop-place.place + 1) =
    ap (λ (k : List ℕ). keys c.loop-place.place ++ k ∷ []) c.face_key.ensures
    ∙ sym (map-range_with_len_more (λ i. padded (face_without w i)) 0 c.loop-place.place c.loop-place.place (omega arith)) in
    subst (TakeFaces c.args.groups.now c.add_face.new.groups) more
    (both_taken c.args.groups.now c.loop-place.groups c.add_face.new.groups (keys c.loop-place.place) (c.face_key.result ∷ []) c.loop-place.invariant
    c.in_ok-add_face.ensures)

pub returns-clause-taken : goal.returns-clause-taken
returns-clause-taken g c =
    let all : c.loop-place.place ≡ length c.args.simplex.now = search rules in
    subst (TakeFaces c.args.groups.now c.loop-place.groups) (keys_all c.args.simplex.now c.loop-place.place c.requires.distinct all) c.loop-place.invariant

pub returns-clause-few : goal.returns-clause-few
returns-clause-few g c = omega (arith, few_faces c.args.simplex.now, c.told-simplex)
