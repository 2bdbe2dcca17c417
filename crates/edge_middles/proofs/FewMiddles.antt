-- How many midpoints a grid can have: fewer than twice as many along each axis as there are samples.
use Rattle.std.proofs.Common.{ap, arith, inl, inr, refl, sym, ◌∙◌}
use Rattle.std.proofs.Math.Nat.{mul-le-mul_left, mul_assoc, mul_comm}
use Rattle.std.proofs.lemmas.Bool.{false≢true}
use Rattle.std.proofs.lemmas.Bool.Decides.{nat_tests}
use Rattle.std.proofs.lemmas.List.Sums.{count_by-le-length, length-filter, sum_by-cons}
use Rattle.std.specs.List.{list_all}
use Rattle.std.specs.Prelude.{Bool, List, [], ◌∷◌, count_by, false, fold, length, map, sum_by, suc, true, zero, ℕ}
use Rattle.std.specs.Prelude.{◌*◌, ◌+◌, ◌-◌, ◌/◌, ◌%◌, ◌^◌, ◌<◌, ◌≤◌, ◌==◌, ◌≡◌, ◌≢◌, ◌⊎◌}
use Rattle.iso_model.specs.declared.Kind.{Kind}
use Rattle.iso_model.specs.declared.Kind.TheVariants.{Cube, Simplex, Pyramid}
use Rattle.iso_model.specs.Cells.{HasDimension}
use Rattle.iso_model.specs.Points.{comes_first}
use Rattle.iso_model.specs.Values.{Volume, product}
use Rattle.iso_model.proofs.DimensionLaws.{dimension_cases}
use Rattle.lists.specs.Orders.{numbers}
use Rattle.lists.proofs.Counts.{count-flat_map, count_none}
use Rattle.lists.proofs.Sorting.{bit, count-map, count_by-cons}
use Rattle.lists.proofs.MemberLaws.{from_In-map}
use Rattle.lists.proofs.Tests.{and_left, and_right, equal_of}
use Rattle.edge_middles.specs.GridMiddles.{is_there, middles_there, quarter_points}
use Rattle.edge_middles.specs.RowCounts.{CountsFew}
use Rattle.edge_middles.proofs.Heights.{at_samples}
use Rattle.edge_middles.proofs.NextRows.{middle_parity}
use Rattle.edge_middles.proofs.PointsThere.{stands}
use Rattle.edge_middles.proofs.RowCounts.{count_push}

-- all coordinates have this remainder by 2
abbrev have_parity : ℕ → List ℕ → Bool
have_parity b p = list_all (λ c. c % 2 == b) p

-- ---- counts

bit_le : (a b : Bool) → (a ≡ true → b ≡ true) → bit a ≤ bit b
bit_le true b h = let e : bit b ≡ 1 = ap bit (h refl) in omega (arith, e)
bit_le false b h = omega arith

counts_le : {X : Type 0} (p q : X → Bool) (xs : List X) → ((x : X) → p x ≡ true → q x ≡ true) → count_by p xs ≤ count_by q xs
counts_le p q [] h = omega arith
counts_le p q (x ∷ xs) h = omega (arith, count_by-cons p x xs, count_by-cons q x xs, bit_le (p x) (q x) (h x), counts_le p q xs h)

bit_either : (a b c : Bool) → (a ≡ true → (b ≡ true) ⊎ (c ≡ true)) → bit a ≤ bit b + bit c
bit_either false b c h = omega arith
bit_either true b c h = elim (h refl) as (λ _. 1 ≤ bit b + bit c) [
  | inl e ↦ (let one : bit b ≡ 1 = ap bit e in omega (arith, one))
  | inr e ↦ (let one : bit c ≡ 1 = ap bit e in omega (arith, one))
]

counts_both : {X : Type 0} (p q r : X → Bool) (xs : List X) → ((x : X) → p x ≡ true → (q x ≡ true) ⊎ (r x ≡ true))
    → count_by p xs ≤ count_by q xs + count_by r xs
counts_both p q r [] h = omega arith
counts_both p q r (x ∷ xs) h =
    omega (arith, count_by-cons p x xs, count_by-cons q x xs, count_by-cons r x xs, bit_either (p x) (q x) (r x) (h x), counts_both p q r xs h)

sums_le : {X : Type 0} (f : X → ℕ) (q : X → Bool) (w : ℕ) (xs : List X) → ((x : X) → f x ≤ w * bit (q x)) → sum_by f xs ≤ w * count_by q xs
sums_le f q w [] h = omega arith
sums_le f q w (x ∷ xs) h =
    let whole : w * count_by q (x ∷ xs) ≡ w * (bit (q x) + count_by q xs) = ap (λ n. w * n) (count_by-cons q x xs) in
    omega (arith, sum_by-cons f x xs, whole, h x, sums_le f q w xs h)

-- ---- numbers of one parity

parity_count : (b k : ℕ) → b < 2 → count_by (λ c. c % 2 == b) (numbers k) ≡ (k + 1 - b) / 2
parity_count b zero small = omega (arith, small)
parity_count b (suc k) small =
    let more : suc k ≡ k + 1 = omega arith in
    ap (λ n. count_by (λ c. c % 2 == b) (numbers n)) more ∙ count_push (λ c. c % 2 == b) k ∙ by_case (k % 2 == b) refl (parity_count b k small)
  where
    by_case : (t : Bool) → (k % 2 == b) ≡ t → count_by (λ c. c % 2 == b) (numbers k) ≡ (k + 1 - b) / 2
        → count_by (λ c. c % 2 == b) (numbers k) + bit t ≡ (suc k + 1 - b) / 2
    by_case true e before = let same = equal_of (k % 2) b e in omega (arith, before, same, small)
    by_case false e before =
        let other : k % 2 ≡ b → ⊥ = λ s. grind (arith, nat_tests, e, s) in
        omega (arith, before, other, small)

-- ---- points of one parity

-- twice as many places along each axis as there are samples
abbrev doubled : List ℕ → ℕ
doubled [] = 1
doubled (n ∷ sizes) = 2 * n * doubled sizes

row_count : (b n : ℕ) → b < 2 → (rest : List ℕ)
    → count_by (have_parity b) (map (λ c. c ∷ rest) (numbers (4 * n - 3))) ≤ 2 * n * bit (have_parity b rest)
row_count b n small rest = by_case (have_parity b rest) refl
  where
    by_case : (t : Bool) → have_parity b rest ≡ t
        → count_by (have_parity b) (map (λ c. c ∷ rest) (numbers (4 * n - 3))) ≤ 2 * n * bit t
    by_case true e =
        omega (
          arith,
          count-map (have_parity b) (λ c. c ∷ rest) (numbers (4 * n - 3)),
          counts_le (λ c. have_parity b (c ∷ rest)) (λ c. c % 2 == b) (numbers (4 * n - 3))
              (λ c t. and_left (c % 2 == b) (list_all (λ k. k % 2 == b) rest) t),
          parity_count b (4 * n - 3) small,
        )
    by_case false e =
        omega (
          arith,
          count_none (have_parity b) (map (λ c. c ∷ rest) (numbers (4 * n - 3)))
              (λ p i t.
              let from = from_In-map (λ c. c ∷ rest) (numbers (4 * n - 3)) p i in
              let all : have_parity b (from.0 ∷ rest) ≡ true = ap (have_parity b) (sym from.2) ∙ t in
              false≢true (sym e ∙ and_right (from.0 % 2 == b) (list_all (λ k. k % 2 == b) rest) all)),
        )

points_count : (b : ℕ) → b < 2 → (sizes : List ℕ) → count_by (have_parity b) (quarter_points sizes) ≤ doubled sizes
points_count b small [] = let most = count_by-le-length (have_parity b) ([] ∷ []) in most
points_count b small (n ∷ sizes) =
    let here = sums_le (λ rest. count_by (have_parity b) (map (λ c. c ∷ rest) (numbers (4 * n - 3)))) (have_parity b) (2 * n) (quarter_points sizes)
    (row_count b n small) in
    let whole = count-flat_map (have_parity b) (λ rest. map (λ c. c ∷ rest) (numbers (4 * n - 3))) (quarter_points sizes) in
    let more : 2 * n * count_by (have_parity b) (quarter_points sizes) ≤ 2 * n * doubled sizes = mul-le-mul_left (2 * n) (points_count b small sizes) in
    omega (arith, whole, here, more)

-- ---- in samples

fold_scaled : (k a : ℕ) (sizes : List ℕ) → fold ◌*◌ (k * a) sizes ≡ k * fold ◌*◌ a sizes
fold_scaled k a [] = refl
fold_scaled k a (n ∷ sizes) = ap (λ c. fold ◌*◌ c sizes) (mul_assoc k a n) ∙ fold_scaled k (a * n) sizes

doubled_is : (sizes : List ℕ) → doubled sizes ≡ 2 ^ length sizes * product sizes
doubled_is [] = refl
doubled_is (n ∷ sizes) =
    let first : product (n ∷ sizes) ≡ n * product sizes = ap (λ c. fold ◌*◌ c sizes) (mul_comm 1 n) ∙ fold_scaled n 1 sizes in
    ap (λ c. 2 * n * c) (doubled_is sizes) ∙ regroup n (2 ^ length sizes) (product sizes) ∙ ap (λ c. 2 * 2 ^ length sizes * c) (sym first)
    ∙ ap (λ c. c * product (n ∷ sizes)) twice
  where
    twice : 2 * 2 ^ length sizes ≡ 2 ^ suc (length sizes)
    twice = omega arith

    regroup : (n p q : ℕ) → 2 * n * (p * q) ≡ 2 * p * (n * q)
    regroup n p q =
        mul_assoc 2 n (p * q) ∙ ap (λ c. 2 * c) (sym (mul_assoc n p q) ∙ ap (λ c. c * q) (mul_comm n p) ∙ mul_assoc p n q) ∙ sym (mul_assoc 2 p (n * q))

-- ---- midpoints

module _ (v : Volume) (few : product v.sizes ≤ 2 ^ 27) where
  few_doubled : (d : ℕ) → length v.sizes ≡ d → doubled v.sizes ≤ 2 ^ d * 2 ^ 27
  few_doubled d e =
      let whole : 2 ^ length v.sizes * product v.sizes ≤ 2 ^ length v.sizes * 2 ^ 27 = mul-le-mul_left (2 ^ length v.sizes) few in
      let same : 2 ^ length v.sizes * 2 ^ 27 ≡ 2 ^ d * 2 ^ 27 = ap (λ n. 2 ^ n * 2 ^ 27) e in
      omega (arith, doubled_is v.sizes, whole, same)

  even_alone : ((m : List ℕ) → is_there v m ≡ true → have_parity 0 m ≡ true) → count_by (is_there v) (quarter_points v.sizes) ≤ doubled v.sizes
  even_alone all =
      omega (arith, counts_le (is_there v) (have_parity 0) (quarter_points v.sizes) all, points_count 0 (omega arith) v.sizes)

  in_dimension : (length v.sizes ≡ 2) ⊎ ((length v.sizes ≡ 3) ⊎ (length v.sizes ≡ 4)) → doubled v.sizes ≤ 2 ^ 31
  in_dimension (inl e) = omega (arith, few_doubled 2 e)
  in_dimension (inr (inl e)) = omega (arith, few_doubled 3 e)
  in_dimension (inr (inr e)) = omega (arith, few_doubled 4 e)

  at_even : v.kind ≢ Pyramid → (m : List ℕ) → is_there v m ≡ true → have_parity 0 m ≡ true
  at_even other m t = at_samples v.kind m other (stands v m t).middle

  at_either : (m : List ℕ) → is_there v m ≡ true → (have_parity 0 m ≡ true) ⊎ (have_parity 1 m ≡ true)
  at_either m t = middle_parity v.kind m (stands v m t).middle

  few_there : (kind : Kind) → v.kind ≡ kind → HasDimension kind (length v.sizes) → count_by (is_there v) (quarter_points v.sizes) ≤ 2 ^ 31
  few_there Cube is fits =
      let other : v.kind ≢ Pyramid = λ p. absurd (let bad : Cube ≡ Pyramid = sym is ∙ p in cc) in
      omega (arith, even_alone (at_even other), in_dimension (dimension_cases Cube (length v.sizes) fits))
  few_there Simplex is fits =
      let other : v.kind ≢ Pyramid = λ p. absurd (let bad : Simplex ≡ Pyramid = sym is ∙ p in cc) in
      omega (arith, even_alone (at_even other), in_dimension (dimension_cases Simplex (length v.sizes) fits))
  few_there Pyramid is fits =
      omega (
        arith,
        counts_both (is_there v) (have_parity 0) (have_parity 1) (quarter_points v.sizes) at_either,
        points_count 0 (omega arith) v.sizes,
        points_count 1 (omega arith) v.sizes,
        few_doubled 3 fits,
      )

pub counts_few : (v : Volume) (m : List ℕ) → HasDimension v.kind (length v.sizes) → CountsFew v m
unfolding middles_there
counts_few v m fits few =
    omega (
      arith,
      count_by-le-length (λ p. comes_first p m) (middles_there v),
      length-filter (is_there v) (quarter_points v.sizes),
      few_there v few v.kind refl fits,
    )
