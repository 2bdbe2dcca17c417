-- The kept cubes by their places, and which of them hold a midpoint.
use Rattle.std.proofs.lemmas.List.Folds.{list_any-append}
use Rattle.std.proofs.Common.{ap, arith, inl, inr, refl, sym, subst, ◌∙◌}
use Rattle.std.proofs.lemmas.Bool.{cases_eq, false≢true, le-leb}
use Rattle.std.proofs.lemmas.Nat.{div-mul-add}
use Rattle.std.proofs.Math.Nat.{add-mul-mod_self_left, mod-eq_of_lt, mul_comm}
use Rattle.std.specs.List.{list_any}
use Rattle.std.specs.Prelude.{Bool, List, [], ◌∷◌, false, true, flat_map, length, map, nat_le, nat_lt, suc, zero, ℕ}
use Rattle.std.specs.Prelude.{◌*◌, ◌+◌, ◌-◌, ◌/◌, ◌%◌, ◌<◌, ◌≤◌, ◌&&◌, ◌||◌, ◌≡◌}
use Rattle.iso_model.specs.Splits.{cube_at, cube_count}
use Rattle.iso_model.specs.Values.{Volume, sample_number}
use Rattle.lists.specs.Members.{In}
use Rattle.lists.proofs.MemberLaws.{In-flat_map, In-map, any_from, from_In-flat_map, from_In-map, from_any}
use Rattle.lists.proofs.Tests.{and_left, and_right, lt_of, next_below, of_lt, or_false, same_tests}
use Rattle.edge_middles.specs.GridMiddles.{kept_cubes}
use Rattle.edge_middles.specs.HeldMiddles.{holds}
use Rattle.edge_middles.specs.WhatIsThere.{IsHeldByKept, StandsWhereKept, cubes_around, has_cube_at, is_kept_around, is_kept_at, places_around}
use Rattle.split_laws.proofs.Coordinates.{length-cube_at}
use Rattle.edge_middles.proofs.HeldPoints.{high_side, low_side}
use Rattle.edge_middles.proofs.PointsThere.{along_axis, from_kept, to_kept}

-- ---- where the cubes of a grid stand

cube_there : (sizes : List ℕ) (cube : ℕ) → cube < cube_count sizes → has_cube_at sizes (cube_at sizes cube) ≡ true
cube_there [] cube few = refl
cube_there (n ∷ sizes) cube few =
    let split = along_axis (n - 1) (cube_count sizes) cube few in
    let inside : nat_lt (cube % (n - 1) + 1) n ≡ true = of_lt (cube % (n - 1) + 1) n (omega (arith, split.0)) in
    let rest = cube_there sizes (cube / (n - 1)) split.1 in
    λ i. inside i && rest i

-- the number of the cube at a place
cube_number : List ℕ → List ℕ → ℕ
cube_number sizes x = sample_number (map (λ n. n - 1) sizes) x

number_of : (sizes x : List ℕ) → has_cube_at sizes x ≡ true → (cube_number sizes x < cube_count sizes) × (cube_at sizes (cube_number sizes x) ≡ x)
unfolding cube_number
number_of [] [] there = (omega arith, refl)
number_of [] (c ∷ x) there = absurd (false≢true there)
number_of (n ∷ sizes) [] there = absurd (false≢true there)
number_of (n ∷ sizes) (c ∷ x) there =
    let rest = number_of sizes x (and_right (nat_lt (c + 1) n) (has_cube_at sizes x) there) in
    let m : ℕ = sample_number (map (λ k. k - 1) sizes) x in
    let inside : c + 1 < n = lt_of (c + 1) n (and_left (nat_lt (c + 1) n) (has_cube_at sizes x) there) in
    let low : c < n - 1 = omega (arith, inside) in
    let left : (c + (n - 1) * m) % (n - 1) ≡ c = add-mul-mod_self_left c (n - 1) m ∙ mod-eq_of_lt low in
    let turned : c + (n - 1) * m ≡ m * (n - 1) + c = omega (arith, mul_comm (n - 1) m) in
    let whole : (c + (n - 1) * m) / (n - 1) ≡ m = ap (λ k. k / (n - 1)) turned ∙ div-mul-add m (n - 1) c low in (
      next_below c (n - 1) m (cube_count sizes) low rest.0,
      (λ i. left i ∷ cube_at sizes (whole i)) ∙ ap (λ y. c ∷ y) rest.1,
    )

pub stands_where_kept : (v : Volume) (x : List ℕ) → StandsWhereKept v x
stands_where_kept v x = (
  λ i.
      let from = from_kept v x i in
      let there : has_cube_at v.sizes x ≡ true = subst (λ y. has_cube_at v.sizes y ≡ true) (sym from.2) (cube_there v.sizes from.0 from.1) in
      λ j. there j && from.3 j,
  λ kept.
      let number = number_of v.sizes x (and_left (has_cube_at v.sizes x) (v.kept x) kept) in
      let same = number.1 in
      subst (λ y. In y (kept_cubes v)) same
      (to_kept v (cube_number v.sizes x) number.0 (subst (λ y. v.kept y ≡ true) (sym same) (and_right (has_cube_at v.sizes x) (v.kept x) kept))),
)

-- ---- the cubes around a point

one_place : (p c : ℕ) → 4 * p ≤ c → c ≤ 4 * p + 4 → In p (places_around c)
one_place p c low high = elim (cases_eq p (c / 4)) as (λ _. In p (places_around c)) [
  | inl same ↦ inr (inl same)
  | inr other ↦ inl (omega (arith, low, high, other))
]

around_place : (p c : ℕ) → In p (places_around c) → (4 * p ≤ c) × (c ≤ 4 * p + 4)
around_place p c (inl e) = (omega (arith, e), omega (arith, e))
around_place p c (inr (inl e)) = (omega (arith, e), omega (arith, e))
around_place p c (inr (inr i)) = absurd i

is_around : (x m : List ℕ) → length x ≡ length m → holds x m ≡ true → In x (cubes_around m)
is_around [] [] long held = inl refl
is_around [] (c ∷ m) long held = absurd (omega (arith, long))
is_around (p ∷ x) [] long held = absurd (omega (arith, long))
is_around (p ∷ x) (c ∷ m) long held =
    let rest = is_around x m (omega (arith, long)) (and_right (nat_le (4 * p) c && nat_le c (4 * p + 4)) (holds x m) held) in
    In-flat_map (λ r. map (λ k. k ∷ r) (places_around c)) (cubes_around m) x (p ∷ x) rest
    (In-map (λ k. k ∷ x) (places_around c) p (one_place p c (low_side p c (holds x m) held) (high_side p c (holds x m) held)))

around_holds : (x m : List ℕ) → In x (cubes_around m) → holds x m ≡ true
around_holds x [] (inl e) = subst (λ y. holds y [] ≡ true) (sym e) refl
around_holds x [] (inr i) = absurd i
around_holds x (c ∷ m) i =
    let from = from_In-flat_map (λ r. map (λ k. k ∷ r) (places_around c)) (cubes_around m) x i in
    let p = from_In-map (λ k. k ∷ from.0) (places_around c) x from.2 in
    let sides = around_place p.0 c p.1 in
    let low : nat_le (4 * p.0) c ≡ true = le-leb (4 * p.0) c sides.0 in
    let high : nat_le c (4 * p.0 + 4) ≡ true = le-leb c (4 * p.0 + 4) sides.1 in
    let rest = around_holds from.0 m from.1 in
    subst (λ y. holds y (c ∷ m) ≡ true) (sym p.2) (λ j. low j && high j && rest j)

pub held_by_kept : (v : Volume) (m : List ℕ) → IsHeldByKept v m
held_by_kept v m long =
    same_tests (list_any (λ x. holds x m) (kept_cubes v)) (list_any (is_kept_at v) (cubes_around m))
    (λ t.
    let from = from_any (λ x. holds x m) (kept_cubes v) t in
    let stands = from_kept v from.0 from.1 in
    let wide : length from.0 ≡ length m = ap length stands.2 ∙ length-cube_at v.sizes stands.0 ∙ sym long in
    any_from (is_kept_at v) (cubes_around m) from.0 (is_around from.0 m wide from.2) ((stands_where_kept v from.0).0 from.1))
    (λ t.
    let from = from_any (is_kept_at v) (cubes_around m) t in
    any_from (λ x. holds x m) (kept_cubes v) from.0 ((stands_where_kept v from.0).1 from.2) (around_holds from.0 m from.1))

-- ---- along axis 0

cross : (a b c d : Bool) → ((a || (b || false)) || (c || d)) ≡ ((a || c) || (b || d))
cross true b c d = refl
cross false true true d = refl
cross false true false d = refl
cross false false true d = refl
cross false false false d = refl

module _ (v : Volume) (a b : ℕ) where
  -- two places along axis 0, and all along the others
  two_places : (rests : List (List ℕ)) → list_any (is_kept_at v) (flat_map (λ rest. map (λ x. x ∷ rest) (a ∷ b ∷ [])) rests)
      ≡ (list_any (λ rest. is_kept_at v (a ∷ rest)) rests || list_any (λ rest. is_kept_at v (b ∷ rest)) rests)
  two_places [] = refl
  two_places (rest ∷ rests) =
      let more = two_places rests in
      let here : Bool = is_kept_at v (a ∷ rest) in
      let other : Bool = is_kept_at v (b ∷ rest) in
      list_any-append (is_kept_at v) (map (λ x. x ∷ rest) (a ∷ b ∷ [])) (flat_map (λ r. map (λ x. x ∷ r) (a ∷ b ∷ [])) rests)
      ∙ ap (λ t. (here || (other || false)) || t) more
      ∙ cross here other (list_any (λ r. is_kept_at v (a ∷ r)) rests) (list_any (λ r. is_kept_at v (b ∷ r)) rests)

pub kept_at_place : (v : Volume) (c : ℕ) (rest : List ℕ)
    → list_any (is_kept_at v) (cubes_around (c ∷ rest)) ≡ (is_kept_around v rest ((c + 3) / 4 - 1) || is_kept_around v rest (c / 4))
kept_at_place v c rest = two_places v ((c + 3) / 4 - 1) (c / 4) (cubes_around rest)

twice : (b : Bool) → (b || b) ≡ b
twice true = refl
twice false = refl

-- between samples there is one place
pub kept_between : (v : Volume) (c x : ℕ) (rest : List ℕ) → (c + 3) / 4 - 1 ≡ x → c / 4 ≡ x
    → list_any (is_kept_at v) (cubes_around (c ∷ rest)) ≡ is_kept_around v rest x
kept_between v c x rest low high =
    kept_at_place v c rest ∙ (λ i. is_kept_around v rest (low i) || is_kept_around v rest (high i)) ∙ twice (is_kept_around v rest x)

-- at a sample there are two, but at the first one
pub kept_at_sample : (v : Volume) (x : ℕ) (rest : List ℕ) → list_any (is_kept_at v) (cubes_around (4 * x ∷ rest))
    ≡ (is_kept_around v rest x || (nat_lt 0 x && is_kept_around v rest (x - 1)))
kept_at_sample v zero rest = kept_between v (4 * 0) 0 rest (omega arith) (omega arith) ∙ sym (or_false (is_kept_around v rest 0))
kept_at_sample v (suc x) rest =
    let low : (4 * suc x + 3) / 4 - 1 ≡ suc x - 1 = omega arith in
    let high : 4 * suc x / 4 ≡ suc x = omega arith in
    let some : nat_lt 0 (suc x) ≡ true = of_lt 0 (suc x) (omega arith) in
    kept_at_place v (4 * suc x) rest
    ∙ (λ i. is_kept_around v rest (low i) || is_kept_around v rest (high i))
    ∙ turned (is_kept_around v rest (suc x - 1)) (is_kept_around v rest (suc x))
    ∙ ap (λ t. is_kept_around v rest (suc x) || (t && is_kept_around v rest (suc x - 1))) (sym some)
  where
    turned : (a b : Bool) → (a || b) ≡ (b || a)
    turned true true = refl
    turned true false = refl
    turned false true = refl
    turned false false = refl
