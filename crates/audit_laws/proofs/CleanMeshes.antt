-- On an isosurface with all its cells nothing is found.
use Rattle.std.specs.Prelude.{◌≡◌, ℕ, ◌<◌, ◌≤◌, Bool, true, false, not, ◌&&◌, ◌||◌, ◌==◌, nat_lt, pos, List, [], map, length, slice_index_or, Contains, All}
use Rattle.std.specs.List.{list_any}
use Rattle.std.proofs.Common.{refl, ap, sym, ◌∙◌, arith, subst}
use Rattle.std.proofs.lemmas.Bool.{le-ltb}
use Rattle.std.proofs.lemmas.List.Elements.{Contains-get_or}
use Rattle.std.proofs.lemmas.List.Folds.{list_any_none}
use Rattle.std.proofs.lemmas.List.{length-map}
use Rattle.lists.specs.Orders.{numbers, is_distinct}
use Rattle.lists.proofs.Contained.{below_contained}
use Rattle.lists.proofs.Tests.{equal_of, of_equal}
use Rattle.iso_model.specs.Values.{Volume}
use Rattle.iso_model.specs.Bipolar.{bipolar_edges}
use Rattle.iso_model.specs.Crossing.{vertex_of}
use Rattle.iso_model.specs.Faces.{Mesh, face_without, face_count, face_sum}
use Rattle.iso_model.specs.Boundary.{OnBoundary}
use Rattle.iso_model.specs.Isosurfaces.{IsIsosurface}
use Rattle.iso_model.specs.Links.{IsLinkedByWalks}
use Rattle.iso_model.specs.Surface.{IsClosed}
use Rattle.iso_model.specs.Turns.{same_int}
use Rattle.iso_model.specs.Walks.{walk, triangles_at}
use Rattle.mesh_audit.specs.Findings.{simplex_at, has_repeat, NoneRepeats, AllGlued, AllLinked, is_glued, is_wrong_at, has_wrong_face, has_wrong_link}
use Rattle.mesh_audit.specs.Findings.{is_trail_right}
use Rattle.audit_laws.specs.Clean.{IsClean}

none_repeats : (v : Volume) (ss : List (List ℕ)) → IsClosed v ss → NoneRepeats ss
none_repeats v ss closed = λ k h. let e : is_distinct (simplex_at ss k) ≡ true = (closed.distinct k [] h).1 in rw e refl

-- ---- faces

once_glued : (ss : List (List ℕ)) (face : List ℕ) → face_count ss face ≡ 1 → is_glued ss face ≡ true
once_glued ss face e = let t : (face_count ss face == 1) ≡ true = of_equal (face_count ss face) 1 e in rw t refl

twice_glued : (ss : List (List ℕ)) (face : List ℕ) → face_count ss face ≡ 2 → face_sum ss face ≡ pos 0 → is_glued ss face ≡ true
twice_glued ss face e f = rw (e, f) refl

glued_at : (v : Volume) (ss : List (List ℕ)) → IsClosed v ss → (w : List ℕ) (i : ℕ) → Contains ss w → i < length w → is_glued ss (face_without w i) ≡ true
glued_at v ss closed w i c h = go (is_glued ss (face_without w i)) refl
  where
    go : (b : Bool) → is_glued ss (face_without w i) ≡ b → is_glued ss (face_without w i) ≡ true
    go true e = e
    go false e =
        let off : ¬ OnBoundary v (face_without w i) = λ on. let t = once_glued ss (face_without w i) (closed.outside w i c h on) in (cc) in
        let two = closed.inside w i c h off in
        twice_glued ss (face_without w i) two.0 two.1

all_glued : (v : Volume) (ss : List (List ℕ)) → IsClosed v ss → AllGlued ss
all_glued v ss closed = λ k h.
    list_any_none (is_wrong_at ss k) (numbers (length (simplex_at ss k)))
    (λ j d l.
    let below = below_contained (length (simplex_at ss k)) _ (Contains-get_or (numbers (length (simplex_at ss k))) j d l) in
    ap not (glued_at v ss closed (simplex_at ss k) _ (Contains-get_or ss k [] h) below))

-- ---- links

right_trail : (closed whole : Bool) (n : ℕ) → whole ≡ true → (closed ≡ true → 3 ≤ n) → (whole && not (closed && nat_lt n 3)) ≡ true
right_trail true whole n w c = let t : nat_lt n 3 ≡ false = le-ltb n 3 (c refl) in rw (w, t) refl
right_trail false whole n w c = rw w refl

linked_at : (v : Volume) (ss : List (List ℕ)) (d k : ℕ) → (d ≡ 3 → IsLinkedByWalks v ss) → k < length (bipolar_edges v) → has_wrong_link d ss k ≡ false
linked_at v ss d k walks h = go (d == 3) refl
  where
    last : (b : Bool) → (b && not true) ≡ false
    last true = refl
    last false = refl

    go : (b : Bool) → (d == 3) ≡ b → (b && nat_lt 0 (length (triangles_at ss k)) && not (is_trail_right (walk ss k))) ≡ false
    go false e = refl
    go true e =
        let linked = walks (equal_of d 3 e) in
        let t : is_trail_right (walk ss k) ≡ true =
        right_trail (walk ss k).closed (walk ss k).whole (length (walk ss k).order) (linked.whole k h) (linked.three k h) in
        ap (λ (x : Bool). true && nat_lt 0 (length (triangles_at ss k)) && not x) t ∙ last (true && nat_lt 0 (length (triangles_at ss k)))

pub clean : (d : ℕ) (v : Volume) (m : Mesh) → IsIsosurface v m → (d ≡ 3 → IsLinkedByWalks v m.simplices) → IsClean d m
clean d v m surface walks =
    let many : length m.vertices ≡ length (bipolar_edges v) = ap length surface.vertices ∙ length-map (bipolar_edges v) (vertex_of v) in (
      none_repeats v m.simplices surface.closed,
      all_glued v m.simplices surface.closed,
      λ k h. linked_at v m.simplices d k walks (omega (arith, h, many)),
      refl,
    )
