-- Which tetrahedron of a mesh lies across a side of another one, where each side has count 1, or count 2 and sum 0.
use Rattle.std.proofs.Common.{◌≡◌, ◌≢◌, ℕ, zero, suc, ◌+◌, ◌<◌, Bool, true, false, List, [], ◌∷◌, length, Option, Some, None, refl, inl, inr, ap, sym, ◌∙◌, subst, arith}
use Rattle.std.proofs.Common.{ℤ, pos, ◌+ℤ◌}
use Rattle.std.specs.Prelude.{map, filter, find, count_by, flat_map, ◌↔◌, not, ◌&&◌, ◌==◌, ◌%◌, slice_index_or, if◌then◌else◌}
use Rattle.std.proofs.lemmas.Int.{ints}
use Rattle.std.proofs.lemmas.Bool.{and_parts, and_from}
use Rattle.std.proofs.lemmas.List.FromFn.{fill_by_all}
use Rattle.std.proofs.lemmas.List.Sums.{length-filter}
use Rattle.std.proofs.lemmas.Slice.Eq.{bytes_eq-Decides}
use Rattle.lists.specs.Orders.{numbers, inversions, is_odd, is_odd_order, same_list}
use Rattle.lists.specs.Members.{In, Distinct}
use Rattle.lists.proofs.Sorting.{bit, count-map}
use Rattle.lists.proofs.Counts.{not_there}
use Rattle.lists.proofs.DistinctLists.{Distinct-range, Distinct-filter}
use Rattle.lists.proofs.MemberLaws.{In_place, In-map, from_In-map, In-flat_map, from_In-flat_map, In-filter, from_filter, In-numbers, from_In-numbers, map-map}
use Rattle.lists.proofs.Tests.{test_differ, differ_test}
use Rattle.iso_model.specs.Turns.{total, signed}
use Rattle.iso_model.specs.Faces.{has_face, sign_of_face, face_count, face_sum}
use Rattle.mesh_laws.proofs.FaceOf.{face_place, sign_none}
use Rattle.volume_pieces.proofs.PiecesAcross.{find_some, find_only}
use Rattle.cut_laws.specs.Cuts.{IsGlued, AreGlued}
use Rattle.cut_laws.specs.CutSteps.{IsSimplex}
use Rattle.cut_faces.proofs.Sides.{side, has_side, side_found, side_fixed, sign_of_side}

-- ---- lists of one member, or of two

only_one : (ds : List ℕ) (c d : ℕ) → length ds ≡ 1 → In c ds → In d ds → c ≡ d
only_one [] c d l i j = absurd i
only_one (x ∷ []) c d l (inl p) (inl q) = p ∙ sym q
only_one (x ∷ []) c d l (inl p) (inr j) = absurd j
only_one (x ∷ []) c d l (inr i) j = absurd i
only_one (x ∷ y ∷ ds) c d l i j = absurd (omega (arith, l))

no_third : (ds : List ℕ) (c d k : ℕ) → length ds ≡ 2 → c ≢ d → In c ds → In d ds → In k ds → k ≢ c → k ≡ d
no_third [] c d k l n i j m o = absurd i
no_third (x ∷ []) c d k l n i j m o = absurd (omega (arith, l))
no_third (x ∷ y ∷ []) c d k l n (inl p) (inl q) m o = absurd (n (p ∙ sym q))
no_third (x ∷ y ∷ []) c d k l n (inl p) (inr (inl q)) (inl r) o = absurd (o (r ∙ sym p))
no_third (x ∷ y ∷ []) c d k l n (inl p) (inr (inl q)) (inr (inl r)) o = r ∙ sym q
no_third (x ∷ y ∷ []) c d k l n (inl p) (inr (inl q)) (inr (inr m)) o = absurd m
no_third (x ∷ y ∷ []) c d k l n (inl p) (inr (inr j)) m o = absurd j
no_third (x ∷ y ∷ []) c d k l n (inr (inl p)) (inl q) (inl r) o = r ∙ sym q
no_third (x ∷ y ∷ []) c d k l n (inr (inl p)) (inl q) (inr (inl r)) o = absurd (o (r ∙ sym p))
no_third (x ∷ y ∷ []) c d k l n (inr (inl p)) (inl q) (inr (inr m)) o = absurd m
no_third (x ∷ y ∷ []) c d k l n (inr (inl p)) (inr (inl q)) m o = absurd (n (p ∙ sym q))
no_third (x ∷ y ∷ []) c d k l n (inr (inl p)) (inr (inr j)) m o = absurd j
no_third (x ∷ y ∷ []) c d k l n (inr (inr i)) j m o = absurd i
no_third (x ∷ y ∷ z ∷ ds) c d k l n i j m o = absurd (omega (arith, l))

other_one : (ds : List ℕ) (c : ℕ) → Distinct ds → length ds ≡ 2 → In c ds → (d : ℕ) × In d ds × (c ≢ d)
other_one [] c u l i = absurd i
other_one (x ∷ []) c u l i = absurd (omega (arith, l))
other_one (x ∷ y ∷ ds) c u l (inl p) = (y, inr (inl refl), λ e. not_there x (y ∷ ds) u.0 (inl (sym p ∙ e)))
other_one (x ∷ y ∷ []) c u l (inr (inl p)) = (x, inl refl, λ e. not_there x (y ∷ []) u.0 (inl (sym e ∙ p)))
other_one (x ∷ y ∷ []) c u l (inr (inr i)) = absurd i
other_one (x ∷ y ∷ z ∷ ds) c u l (inr i) = absurd (omega (arith, l))

two_total : (g : ℕ → ℤ) (ds : List ℕ) (c d : ℕ) → length ds ≡ 2 → c ≢ d → In c ds → In d ds → total (map g ds) ≡ g c +ℤ g d
two_total g [] c d l n i j = absurd i
two_total g (x ∷ []) c d l n i j = absurd (omega (arith, l))
two_total g (x ∷ y ∷ []) c d l n (inl p) (inl q) = absurd (n (p ∙ sym q))
two_total g (x ∷ y ∷ []) c d l n (inl p) (inr (inl q)) = omega (arith, ints, ap g p, ap g q)
two_total g (x ∷ y ∷ []) c d l n (inl p) (inr (inr j)) = absurd j
two_total g (x ∷ y ∷ []) c d l n (inr (inl p)) (inl q) = omega (arith, ints, ap g p, ap g q)
two_total g (x ∷ y ∷ []) c d l n (inr (inl p)) (inr (inl q)) = absurd (n (p ∙ sym q))
two_total g (x ∷ y ∷ []) c d l n (inr (inl p)) (inr (inr j)) = absurd j
two_total g (x ∷ y ∷ []) c d l n (inr (inr i)) j = absurd i
two_total g (x ∷ y ∷ z ∷ ds) c d l n i j = absurd (omega (arith, l))

-- what adds nothing may be left out of a sum
kept_case : (g : ℕ → ℤ) (p : ℕ → Bool) (x : ℕ) (xs : List ℕ) → (p x ≡ false → g x ≡ pos 0) → total (map g (filter p xs)) ≡ total (map g xs)
    → (b : Bool) → p x ≡ b → total (map g (if b then x ∷ filter p xs else filter p xs)) ≡ g x +ℤ total (map g xs)
kept_case g p x xs zeros e true is = ap (λ (z : ℤ). g x +ℤ z) e
kept_case g p x xs zeros e false is = omega (arith, ints, e, zeros is)

kept_total : (g : ℕ → ℤ) (p : ℕ → Bool) (xs : List ℕ) → ((x : ℕ) → p x ≡ false → g x ≡ pos 0) → total (map g (filter p xs)) ≡ total (map g xs)
kept_total g p [] zeros = refl
kept_total g p (x ∷ xs) zeros = kept_case g p x xs (zeros x) (kept_total g p xs zeros) (p x) refl

-- ---- the simplices that have a face

abbrev pub simplex_at : List (List ℕ) → ℕ → List ℕ
simplex_at S c = slice_index_or S c []

abbrev pub side_at : List (List ℕ) → ℕ → ℕ → List ℕ
side_at S c f = side (simplex_at S c) f

abbrev havers : List (List ℕ) → List ℕ → List ℕ
havers S face = filter (λ d. has_face face (simplex_at S d)) (numbers (length S))

pub by_places : (S : List (List ℕ)) → S ≡ map (simplex_at S) (numbers (length S))
by_places S = fill_by_all (simplex_at S) S (length S) [] refl (λ k h. refl)

length-havers : (S : List (List ℕ)) (face : List ℕ) → length (havers S face) ≡ face_count S face
length-havers S face =
    length-filter (λ d. has_face face (simplex_at S d)) (numbers (length S))
    ∙ sym (count-map (has_face face) (simplex_at S) (numbers (length S)))
    ∙ ap (count_by (has_face face)) (sym (by_places S))

sum-havers : (S : List (List ℕ)) (face : List ℕ) → total (map (λ d. sign_of_face face (simplex_at S d)) (havers S face)) ≡ face_sum S face
sum-havers S face =
    kept_total (λ d. sign_of_face face (simplex_at S d)) (λ d. has_face face (simplex_at S d)) (numbers (length S)) (λ d. sign_none face (simplex_at S d))
    ∙ ap total (sym (map-map (simplex_at S) (sign_of_face face) (numbers (length S))))
    ∙ ap (λ (ws : List (List ℕ)). total (map (sign_of_face face) ws)) (sym (by_places S))

in-havers : (S : List (List ℕ)) (face : List ℕ) (d : ℕ) → d < length S → has_face face (simplex_at S d) ≡ true → In d (havers S face)
in-havers S face d h e = In-filter (λ k. has_face face (simplex_at S k)) (numbers (length S)) d (In-numbers (length S) d h) e

from-havers : (S : List (List ℕ)) (face : List ℕ) (d : ℕ) → In d (havers S face) → (d < length S) × (has_face face (simplex_at S d) ≡ true)
from-havers S face d i =
    let r = from_filter (λ k. has_face face (simplex_at S k)) (numbers (length S)) d i in
    (from_In-numbers (length S) d r.0, r.1)

-- ---- across a side

-- the simplices and their sides
abbrev pub all_sides : ℕ → List (ℕ × ℕ)
all_sides n = flat_map (λ d. map (λ g. (d, g)) (numbers 4)) (numbers n)

-- another simplex has this side
abbrev pub is_across : List (List ℕ) → ℕ → ℕ → ℕ × ℕ → Bool
is_across S c f dg = not (dg.0 == c) && same_list (side_at S dg.0 dg.1) (side_at S c f)

-- the other simplex with this side, and the corner that the side leaves out there
abbrev pub across : List (List ℕ) → ℕ → ℕ → Option (ℕ × ℕ)
across S c f = find (is_across S c f) (all_sides (length S))

pub record Across (S : List (List ℕ)) (c f d g : ℕ) : Type 0 where
  pub is_simplex : d < length S
  pub is_side : g < 4
  pub apart : c ≢ d
  pub same : side_at S d g ≡ side_at S c f

abbrev pair : ℕ → ℕ → ℕ × ℕ
pair d g = (d, g)

in_sides : (n d g : ℕ) → d < n → g < 4 → In (pair d g) (all_sides n)
in_sides n d g hd hg =
    In-flat_map (λ d. map (λ g. (d, g)) (numbers 4)) (numbers n) d (pair d g) (In-numbers n d hd) (In-map (pair d) (numbers 4) g (In-numbers 4 g hg))

from_sides : (n : ℕ) (dg : ℕ × ℕ) → In dg (all_sides n) → (dg.0 < n) × (dg.1 < 4)
from_sides n dg i =
    let d = from_In-flat_map (λ d. map (λ g. (d, g)) (numbers 4)) (numbers n) dg i in
    let g = from_In-map (pair d.0) (numbers 4) dg d.2 in (
      subst (λ (x : ℕ). x < n) (sym (ap (λ (p : ℕ × ℕ). p.0) g.2)) (from_In-numbers n d.0 d.1),
      subst (λ (x : ℕ). x < 4) (sym (ap (λ (p : ℕ × ℕ). p.1) g.2)) (from_In-numbers 4 g.0 g.1),
    )

from_test : (S : List (List ℕ)) (c f : ℕ) (dg : ℕ × ℕ) → In dg (all_sides (length S)) → is_across S c f dg ≡ true → Across S c f dg.0 dg.1
from_test S c f dg i t =
    let r = from_sides (length S) dg i in
    let parts = and_parts (not (dg.0 == c)) (same_list (side_at S dg.0 dg.1) (side_at S c f)) t in
    record {
      is_simplex = r.0;
      is_side = r.1;
      apart = λ e. differ_test dg.0 c parts.0 (sym e);
      same = (bytes_eq-Decides (side_at S dg.0 dg.1) (side_at S c f)).0 parts.1;
    }

to_test : (S : List (List ℕ)) (c f d g : ℕ) → Across S c f d g → is_across S c f (pair d g) ≡ true
to_test S c f d g a =
    and_from (not (d == c)) (same_list (side_at S d g) (side_at S c f)) (test_differ d c (λ e. a.apart (sym e)))
    ((bytes_eq-Decides (side_at S d g) (side_at S c f)).1 a.same)

pub from_across : (S : List (List ℕ)) (c f d g : ℕ) → across S c f ≡ Some (d, g) → Across S c f d g
from_across S c f d g e =
    let r = find_some (is_across S c f) (all_sides (length S)) (pair d g) e in
    from_test S c f (pair d g) r.0 r.1

-- seen from the other simplex
pub turned : (S : List (List ℕ)) (c f d g : ℕ) → c < length S → f < 4 → Across S c f d g → Across S d g c f
turned S c f d g hc hf a = record { is_simplex = hc; is_side = hf; apart = λ e. a.apart (sym e); same = sym a.same }

-- ---- signs

none_some : (x : ℕ × ℕ) → ◌≡◌ {A = Option (ℕ × ℕ)} None (Some x) → ⊥
none_some x e = absurd (cc)

bit_odd : (k : ℕ) → bit (is_odd k) ≡ k % 2
bit_odd k = go (k % 2) (omega arith)
  where
    go : (r : ℕ) → r < 2 → bit (r == 1) ≡ r
    go zero h = refl
    go (suc zero) h = refl
    go (suc (suc r)) h = absurd (omega (arith, h))

other_sign : (a b : Bool) → signed a (pos 1) +ℤ signed b (pos 1) ≡ pos 0 → bit a + bit b ≡ 1
other_sign true true e = absurd (cc)
other_sign true false e = refl
other_sign false true e = refl
other_sign false false e = absurd (cc)

-- ---- a mesh in which each face has count 1, or count 2 and sum 0

module _ (S : List (List ℕ)) (n : ℕ) (are : (w : List ℕ) → In w S → IsSimplex n w) (glued : AreGlued S) where
  pub simplex_is : (c : ℕ) → c < length S → IsSimplex n (simplex_at S c)
  simplex_is c h = are (simplex_at S c) (In_place S c h)

  side_glued : (c f : ℕ) → c < length S → f < 4 → IsGlued S (side_at S c f)
  side_glued c f hc hf =
      let r = face_place (side_at S c f) (simplex_at S c) (has_side n (simplex_at S c) (simplex_is c hc) f hf) in
      subst (IsGlued S) r.2 (glued c [] hc r.0 r.1)

  had : (c f : ℕ) → c < length S → f < 4 → In c (havers S (side_at S c f))
  had c f hc hf = in-havers S (side_at S c f) c hc (has_side n (simplex_at S c) (simplex_is c hc) f hf)

  had_across : (c f d g : ℕ) → Across S c f d g → In d (havers S (side_at S c f))
  had_across c f d g a = subst (λ (face : List ℕ). In d (havers S face)) a.same (had d g a.is_simplex a.is_side)

  -- where another simplex has the side, the side is had by two, with opposite signs
  two_have : (c f d g : ℕ) → c < length S → f < 4 → Across S c f d g
      → (length (havers S (side_at S c f)) ≡ 2) × (face_sum S (side_at S c f) ≡ pos 0)
  two_have c f d g hc hf a = elim (side_glued c f hc hf) as (λ _. (length (havers S (side_at S c f)) ≡ 2) × (face_sum S (side_at S c f) ≡ pos 0)) [
    | inl one ↦ absurd (a.apart (only_one (havers S (side_at S c f)) c d (length-havers S (side_at S c f) ∙ one) (had c f hc hf) (had_across c f d g a)))
    | inr two ↦ (length-havers S (side_at S c f) ∙ two.0, two.1)
  ]

  -- so it is found there, and nowhere else
  pub to_across : (c f d g : ℕ) → c < length S → f < 4 → Across S c f d g → across S c f ≡ Some (d, g)
  to_across c f d g hc hf a =
      find_only (is_across S c f) (all_sides (length S)) (pair d g) (in_sides (length S) d g a.is_simplex a.is_side) (to_test S c f d g a) (λ dg i t.
      let b = from_test S c f dg i t in
      let same : dg.0 ≡ d =
      no_third (havers S (side_at S c f)) c d dg.0 (two_have c f d g hc hf a).0 a.apart (had c f hc hf) (had_across c f d g a)
      (had_across c f dg.0 dg.1 b) (λ e. b.apart (sym e)) in
      let place : dg.1 ≡ g =
      side_fixed n (simplex_at S d) (simplex_is d a.is_simplex) dg.1 g b.is_side a.is_side
      (ap (λ (k : ℕ). side_at S k dg.1) (sym same) ∙ b.same ∙ sym a.same) in
      λ x. (same x, place x))

  -- it leads back
  pub across_back : (c f d g : ℕ) → c < length S → f < 4 → across S c f ≡ Some (d, g) → across S d g ≡ Some (c, f)
  across_back c f d g hc hf e =
      let a = from_across S c f d g e in
      to_across d g c f a.is_simplex a.is_side (turned S c f d g hc hf a)

  -- another simplex that has the side is found
  pub found_across : (c f d : ℕ) → c < length S → f < 4 → d < length S → c ≢ d → has_face (side_at S c f) (simplex_at S d) ≡ true
      → (g : ℕ) × (across S c f ≡ Some (d, g))
  found_across c f d hc hf hd apart has =
      let r = side_found n (simplex_at S d) (simplex_is d hd) (side_at S c f) has in
      (r.0, to_across c f d r.0 hc hf (record { is_simplex = hd; is_side = r.1; apart = apart; same = r.2 }))

  -- nothing lies across a side exactly where its count is 1
  pub none_across : (c f : ℕ) → c < length S → f < 4 → (across S c f ≡ None) ↔ (face_count S (side_at S c f) ≡ 1)
  none_across c f hc hf = (one, none)
    where
      one : across S c f ≡ None → face_count S (side_at S c f) ≡ 1
      one e = elim (side_glued c f hc hf) as (λ _. face_count S (side_at S c f) ≡ 1) [
        | inl h ↦ h
        | inr h ↦
            let ds = havers S (side_at S c f) in
            let unlike : Distinct ds = Distinct-filter (λ d. has_face (side_at S c f) (simplex_at S d)) (numbers (length S)) (Distinct-range 0 (length S)) in
            let o = other_one ds c unlike (length-havers S (side_at S c f) ∙ h.0) (had c f hc hf) in
            let r = from-havers S (side_at S c f) o.0 o.1 in
            let found = found_across c f o.0 hc hf r.0 o.2 r.1 in
            absurd (none_some (o.0, found.0) (sym e ∙ found.1))
      ]

      nothing : face_count S (side_at S c f) ≡ 1 → (o : Option (ℕ × ℕ)) → across S c f ≡ o → o ≡ None
      nothing h None e = refl
      nothing h (Some dg) e =
          let a = from_across S c f dg.0 dg.1 e in
          absurd (a.apart (only_one (havers S (side_at S c f)) c dg.0 (length-havers S (side_at S c f) ∙ h) (had c f hc hf) (had_across c f dg.0 dg.1 a)))

      none : face_count S (side_at S c f) ≡ 1 → across S c f ≡ None
      none h = nothing h (across S c f) refl

  -- the signs of two simplices at a side that they share are opposite: an odd step between them where both are of the same parity and the places are not,
  -- or the other way round
  pub opposite : (c f d g : ℕ) → c < length S → f < 4 → Across S c f d g → (m : ℕ)
      → (m + bit (is_odd (f + g))) % 2 ≡ (m + 1 + bit (is_odd_order (simplex_at S c)) + bit (is_odd_order (simplex_at S d))) % 2
  opposite c f d g hc hf a m =
      let face = side_at S c f in
      let v = simplex_at S c in
      let w = simplex_at S d in
      let here : sign_of_face face v ≡ signed (is_odd (inversions v + f)) (pos 1) = sign_of_side n v (simplex_is c hc) f hf in
      let there : sign_of_face face w ≡ signed (is_odd (inversions w + g)) (pos 1) =
      ap (λ (xs : List ℕ). sign_of_face xs w) (sym a.same) ∙ sign_of_side n w (simplex_is d a.is_simplex) g a.is_side in
      let two = two_have c f d g hc hf a in
      let sum : sign_of_face face v +ℤ sign_of_face face w ≡ pos 0 =
      sym (two_total (λ k. sign_of_face face (simplex_at S k)) (havers S face) c d two.0 a.apart (had c f hc hf) (had_across c f d g a))
      ∙ sum-havers S face ∙ two.1 in
      let signs : signed (is_odd (inversions v + f)) (pos 1) +ℤ signed (is_odd (inversions w + g)) (pos 1) ≡ pos 0 =
      ap (λ (z : ℤ). z +ℤ signed (is_odd (inversions w + g)) (pos 1)) (sym here) ∙ ap (λ (z : ℤ). sign_of_face face v +ℤ z) (sym there) ∙ sum in
      by_numbers (inversions v) (inversions w) f g m (other_sign (is_odd (inversions v + f)) (is_odd (inversions w + g)) signs)
    where
      by_numbers : (p q f g m : ℕ) → bit (is_odd (p + f)) + bit (is_odd (q + g)) ≡ 1
          → (m + bit (is_odd (f + g))) % 2 ≡ (m + 1 + bit (is_odd p) + bit (is_odd q)) % 2
      by_numbers p q f g m h = omega (arith, h, bit_odd (p + f), bit_odd (q + g), bit_odd (f + g), bit_odd p, bit_odd q)
