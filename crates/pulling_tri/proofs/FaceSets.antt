-- The maximal ones of the meets of a set, as numbers, are its faces.
use Rattle.std.specs.Prelude.{◌≡◌, ◌<◌, ◌^◌, ◌==◌, ◌||◌, ◌&&◌, not, ℕ, Bool, true, false, nat_eq, List, map, Contains, bit_and, IsPermutation}
use Rattle.std.specs.Bool.{Decides}
use Rattle.std.specs.Int.{bit_at}
use Rattle.std.specs.List.{dedup}
use Rattle.std.proofs.Common.{refl, sym, ap, ◌∙◌, subst, arith}
use Rattle.std.proofs.lemmas.Bool.{false≢true, and_from, and_parts}
use Rattle.std.proofs.lemmas.Bool.Decides.{nat_tests}
use Rattle.std.proofs.lemmas.List.Kept.{Contains-dedup_nat, Contains-from_dedup}
use Rattle.std.proofs.lemmas.List.Sorted.{Contains-permutation, IsPermutation-sym}
use Rattle.std.proofs.lemmas.Nat.{and_le_l}
use Rattle.lists.specs.Orders.{has}
use Rattle.iso_model.specs.Hulls.{meet, IsProperMeet, IsFaceOf, LiesWithin, first_vertex}
use Rattle.pulling_tri.specs.Meets.{IsMeet, AreMeets, meets_in_turn, is_greatest, maximal_without}
use Rattle.pulling_tri.specs.PointSets.{point_set}
use Rattle.pulling_tri.specs.Pulling.{IsNext, AreNext}
use Rattle.pulling_tri.proofs.PointSetLaws.{points-has, points-meet, points-same, points-within, within-points}
use Rattle.pulling_tri.proofs.SetBits.{kept_by}
use Rattle.lists.proofs.Tests.{equal_of, of_equal, test_differ, differ_test}
use Rattle.lists.proofs.Contained.{Contains-filter, Decides-each, Contains-mapped, from_Contains-map}
use Rattle.lists.proofs.Contained.{Contains-passes}

-- ---- members of a list that is mapped

-- ---- the proper meets

in_turn : (facets : List ℕ) (set m : ℕ) → Contains (meets_in_turn facets set) m → IsMeet facets set m
in_turn facets set m c =
    let t = Contains-passes (λ k. not (k == set)) (map (λ f. bit_and set f) facets) m c in
    let r = from_Contains-map (λ f. bit_and set f) facets m (Contains-filter (λ k. not (k == set)) (map (λ f. bit_and set f) facets) m c) in
    (r.0, r.1, sym r.2, differ_test m set t)

turn_has : (facets : List ℕ) (set m : ℕ) → IsMeet facets set m → Contains (meets_in_turn facets set) m
turn_has facets set m h =
    kept_by (λ k. not (k == set)) (map (λ f. bit_and set f) facets) m
    (subst (λ (k : ℕ). Contains (map (λ f. bit_and set f) facets) k) (sym h.2) (Contains-mapped (λ f. bit_and set f) facets h.0 h.1)) (test_differ m set h.3)

pub meets_once : (facets : List ℕ) (set : ℕ) (found moved kept : List ℕ) → found ≡ meets_in_turn facets set → IsPermutation found moved
    → kept ≡ dedup nat_eq moved → AreMeets facets set kept
meets_once facets set found moved kept e p k = λ m. (
  λ c. in_turn facets set m (subst (λ (s : List ℕ). Contains s m) e (Contains-permutation moved found m (IsPermutation-sym found moved p)
      (Contains-from_dedup nat_eq moved m (subst (λ (s : List ℕ). Contains s m) k c)))),
  λ h.
      subst (λ (s : List ℕ). Contains s m) (sym k)
      (Contains-dedup_nat moved m (Contains-permutation found moved m p (subst (λ (s : List ℕ). Contains s m) (sym e) (turn_has facets set m h)))),
)

-- ---- the greatest ones

greatest_test : (m k : ℕ) → Decides ((k == m) || not (bit_and m k == m)) (bit_and m k ≡ m → k ≡ m)
greatest_test m k = by_tests (k == m) (bit_and m k == m) refl refl
  where
    by_tests : (a b : Bool) → (k == m) ≡ a → (bit_and m k == m) ≡ b → Decides (a || not b) (bit_and m k ≡ m → k ≡ m)
    by_tests true b e f = (λ t h. equal_of k m e, λ h. refl)
    by_tests false true e f = (λ t h. absurd (false≢true t), λ h. absurd (false≢true (sym e ∙ of_equal k m (h (equal_of (bit_and m k) m f)))))
    by_tests false false e f = (λ t h. absurd (false≢true (sym f ∙ of_equal (bit_and m k) m h)), λ h. refl)

greatest_decides : (meets : List ℕ) (m : ℕ) → Decides (is_greatest meets m) ((k : ℕ) → Contains meets k → bit_and m k ≡ m → k ≡ m)
greatest_decides meets m = Decides-each (λ k. (k == m) || not (bit_and m k == m)) (λ k. bit_and m k ≡ m → k ≡ m) (greatest_test m) meets

-- ---- the faces

abbrev Facets : List ℕ → List ℕ → Type 0
Facets facets = Contains (map point_set facets)

small_meet : (set f m : ℕ) → set < 2 ^ 64 → m ≡ bit_and set f → m < 2 ^ 64
small_meet set f m h e = let l = and_le_l set f in omega arith

proper_of : (facets : List ℕ) (set m : ℕ) → set < 2 ^ 64 → IsMeet facets set m → IsProperMeet (Facets facets) (point_set set) (point_set m)
proper_of facets set m h i = (
  point_set i.0,
  Contains-mapped point_set facets i.0 i.1,
  ap point_set i.2 ∙ points-meet set i.0,
  λ e. i.3 (points-same m set (small_meet set i.0 m h i.2) h e),
)

-- a proper meet of the set is that of a number
abbrev MeetNumber : List ℕ → ℕ → List ℕ → Type 0
MeetNumber facets set other = (m : ℕ) × IsMeet facets set m × (point_set m ≡ other)

of_proper : (facets : List ℕ) (set : ℕ) (other : List ℕ) → IsProperMeet (Facets facets) (point_set set) other → MeetNumber facets set other
of_proper facets set other p =
    let r = from_Contains-map point_set facets p.0 p.1 in
    let e : point_set (bit_and set r.0) ≡ other = points-meet set r.0 ∙ ap (meet (point_set set)) r.2 ∙ sym p.2 in
    (bit_and set r.0, (r.0, r.1, refl, λ s. p.3 (sym e ∙ ap point_set s)), e)

bit_zero : (n i : ℕ) → i < 64 → (bit_at n i == 0) ≡ true → has (point_set n) i ≡ false
bit_zero n i h e =
    let z : bit_at n i ≡ 0 = equal_of (bit_at n i) 0 e in
    points-has n i h ∙ ap (λ (b : ℕ). b == 1) z

zero_bit : (n i : ℕ) → i < 64 → has (point_set n) i ≡ false → (bit_at n i == 0) ≡ true
zero_bit n i h e =
    let t : (bit_at n i == 1) ≡ false = sym (points-has n i h) ∙ e in
    let l : bit_at n i < 2 = omega arith in
    grind (arith, nat_tests)

face_of_number : (facets : List ℕ) (set : ℕ) (meets : List ℕ) (m : ℕ) → set < 2 ^ 64 → AreMeets facets set meets → Contains meets m
    → is_greatest meets m ≡ true → IsFaceOf (Facets facets) (point_set set) (point_set m)
face_of_number facets set meets m h are c g =
    let i = (are m).0 c in
    record {
      proper = proper_of facets set m h i;
      maximal = λ other p w.
          let r = of_proper facets set other p in
          let inside = within-points m r.0 (small_meet set i.0 m h i.2) (subst (λ (s : List ℕ). LiesWithin (point_set m) s) (sym r.2) w) in
          sym r.2 ∙ ap point_set ((greatest_decides meets m).0 g r.0 ((are r.0).1 r.1) inside);
    }

number_of_face : (facets : List ℕ) (set : ℕ) (meets : List ℕ) (m : ℕ) → set < 2 ^ 64 → AreMeets facets set meets → IsMeet facets set m
    → IsFaceOf (Facets facets) (point_set set) (point_set m) → is_greatest meets m ≡ true
number_of_face facets set meets m h are i f = (greatest_decides meets m).1 (λ k c e.
    let j = (are k).0 c in
    points-same k m (small_meet set j.0 k h j.2) (small_meet set i.0 m h i.2) (f.maximal (point_set k) (proper_of facets set k h j) (points-within m k e)))

-- the maximal meets that miss the first vertex are the sets that may stand next
pub next_sets : (facets : List ℕ) (set : ℕ) (meets faces : List ℕ) (first : ℕ) → set < 2 ^ 64 → first < 64 → first ≡ first_vertex (point_set set)
    → AreMeets facets set meets → faces ≡ maximal_without meets first
    → AreNext (Contains (map point_set facets)) (point_set set) (map point_set faces)
next_sets facets set meets faces first h b v are e = λ face. (λ c. there face c, λ n. back face n)
  where
    there : (face : List ℕ) → Contains (map point_set faces) face → IsNext (Facets facets) (point_set set) face
    there face c =
        let r = from_Contains-map point_set faces face c in
        let k = subst (λ (s : List ℕ). Contains s r.0) e r.1 in
        let t = and_parts (bit_at r.0 first == 0) (is_greatest meets r.0) (Contains-passes (λ m. (bit_at m first == 0) && is_greatest meets m) meets r.0 k) in
        let m = Contains-filter (λ m. (bit_at m first == 0) && is_greatest meets m) meets r.0 k in
        subst (λ (s : List ℕ). IsNext (Facets facets) (point_set set) s) r.2
        (face_of_number facets set meets r.0 h are m t.1, ap (has (point_set r.0)) (sym v) ∙ bit_zero r.0 first b t.0)

    back : (face : List ℕ) → IsNext (Facets facets) (point_set set) face → Contains (map point_set faces) face
    back face n =
        let r = of_proper facets set face n.0.proper in
        let f = subst (λ (s : List ℕ). IsNext (Facets facets) (point_set set) s) (sym r.2) n in
        let z = zero_bit r.0 first b (ap (has (point_set r.0)) v ∙ f.1) in
        let g = number_of_face facets set meets r.0 h are r.1 f.0 in
        subst (λ (s : List ℕ). Contains (map point_set faces) s) r.2
        (Contains-mapped point_set faces r.0 (subst (λ (s : List ℕ). Contains s r.0) (sym e)
        (kept_by (λ m. (bit_at m first == 0) && is_greatest meets m) meets r.0 ((are r.0).1 r.1)
        (and_from (bit_at r.0 first == 0) (is_greatest meets r.0) z g))))
