-- How the number of edges before a midpoint grows along a row of midpoints.
use Rattle.std.proofs.lemmas.Slice.Eq.{bytes_eq-Decides}
use Rattle.std.proofs.lemmas.Bool.{false_from_ne_true}
use Rattle.std.proofs.Common.{ap, arith, inl, inr, refl, sym, subst, ◌∙◌}
use Rattle.std.proofs.Math.Bool.{and-false}
use Rattle.std.proofs.lemmas.Bool.{false≢true, or_cases}
use Rattle.std.proofs.lemmas.Bool.Decides.{nat_tests}
use Rattle.std.proofs.lemmas.List.Sums.{sum_by-append}
use Rattle.std.specs.List.{list_any}
use Rattle.std.specs.Prelude.{Bool, Contains, List, [], ◌∷◌, ◌++◌, cond, count_by, false, true, length, nat_lt, replicate, suc, zero, ℕ}
use Rattle.std.specs.Prelude.{◌*◌, ◌+◌, ◌%◌, ◌<◌, ◌≤◌, ◌&&◌, ◌||◌, ◌==◌, ◌≡◌}
use Rattle.iso_model.specs.declared.Kind.{Kind}
use Rattle.iso_model.specs.declared.Kind.TheVariants.{Cube, Simplex, Pyramid}
use Rattle.iso_model.specs.Cells.{HasDimension}
use Rattle.iso_model.specs.Points.{comes_first}
use Rattle.iso_model.specs.Values.{Volume}
use Rattle.iso_model.proofs.OrderLaws.{comes_first-irreflexive}
use Rattle.lists.specs.Members.{AscendsBy, In}
use Rattle.lists.specs.Orders.{numbers, same_list}
use Rattle.lists.proofs.Contained.{Contains-split, none_contained}
use Rattle.lists.proofs.Counts.{count_none, zero_bit}
use Rattle.lists.proofs.MemberLaws.{Contains_from, lists_equal, range-push}
use Rattle.lists.proofs.Sorting.{bit, count_by-cons}
use Rattle.lists.proofs.Tests.{and_left, and_right, equal_of, lt_of}
use Rattle.iso_model.specs.Bipolar.{is_bipolar}
use Rattle.edge_middles.specs.HeldMiddles.{holds}
use Rattle.edge_middles.specs.Middles.{axes_along, edge_at, is_middle, joins_centre, joins_samples}
use Rattle.edge_middles.specs.GridMiddles.{count_before, is_there, kept_cubes, middles_there}
use Rattle.edge_middles.specs.RowCounts.{CountsCentres, CountsFirst, CountsCentre, CountsNext}
use Rattle.edge_middles.specs.RowCounts.{CountsNone, CountsPoints, CountsSamples, CountsSame, IsRowOfMiddles}
use Rattle.edge_middles.proofs.ListedEdges.{there_ascend, there_is}
use Rattle.edge_middles.proofs.OrderedPoints.{ComesFirst}
use Rattle.edge_middles.proofs.PointsThere.{member_there}

-- ---- counts

points_same : (p q : List ℕ → Bool) (ms : List (List ℕ)) → ((m : List ℕ) → In m ms → p m ≡ q m) → count_by p ms ≡ count_by q ms
points_same p q [] same = refl
points_same p q (m ∷ ms) same =
    omega (arith, count_by-cons p m ms, count_by-cons q m ms, ap bit (same m (inl refl)), points_same p q ms (λ n i. same n (inr i)))

bit_or : (a b : Bool) → (a ≡ true → b ≡ true → ⊥) → bit (a || b) ≡ bit a + bit b
bit_or true true apart = absurd (apart refl refl)
bit_or true false apart = refl
bit_or false true apart = refl
bit_or false false apart = refl

counts_either : {X : Type 0} (p q : X → Bool) (xs : List X) → ((x : X) → p x ≡ true → q x ≡ true → ⊥)
    → count_by (λ x. p x || q x) xs ≡ count_by p xs + count_by q xs
counts_either p q [] apart = refl
counts_either p q (x ∷ xs) apart =
    omega (arith, count_by-cons (λ y. p y || q y) x xs, count_by-cons p x xs, count_by-cons q x xs, bit_or (p x) (q x) (apart x), counts_either p q xs apart)

pub count_push : (p : ℕ → Bool) (n : ℕ) → count_by p (numbers (n + 1)) ≡ count_by p (numbers n) + bit (p n)
count_push p n =
    let plain : 0 + n ≡ n = omega arith in
    let last : numbers (n + 1) ≡ numbers n ++ n ∷ [] = range-push 0 n ∙ ap (λ k. numbers n ++ k ∷ []) plain in
    omega (arith, ap (count_by p) last, sum_by-append (λ k. cond (p k) 1 0) (numbers n) (n ∷ []), count_by-cons p n [])

-- a member of an ascending list stands there once
count_member : (m : List ℕ) (ms : List (List ℕ)) → AscendsBy ComesFirst ms → Contains ms m → count_by (λ p. same_list p m) ms ≡ 1
count_member m [] a c = absurd (none_contained m c)
count_member m (x ∷ ms) a c = elim (Contains-split m x ms c) as (λ _. count_by (λ p. same_list p m) (x ∷ ms) ≡ 1) [
  | inl same ↦
      let here : same_list x m ≡ true = ap (λ p. same_list p m) same ∙ (bytes_eq-Decides m m).1 refl in
      let none : count_by (λ p. same_list p m) ms ≡ 0 = count_none (λ p. same_list p m) ms
      (λ y i t. comes_first-irreflexive x (subst (λ z. comes_first x z ≡ true) (lists_equal y m t ∙ sym same) (a.0 y (Contains_from ms y i)))) in
      omega (arith, count_by-cons (λ p. same_list p m) x ms, ap bit here, none)
  | inr later ↦
      let apart : bit (same_list x m) ≡ 0 = zero_bit (same_list x m)
      (λ t. comes_first-irreflexive m (subst (λ z. comes_first z m ≡ true) (lists_equal x m t) (a.0 m later))) in
      omega (arith, count_by-cons (λ p. same_list p m) x ms, apart, count_member m ms a.1 later)
]

count_once : (v : Volume) (m : List ℕ) → length m ≡ length v.sizes → count_by (λ p. same_list p m) (middles_there v) ≡ bit (is_there v m)
count_once v m long = by_case (is_there v m) refl
  where
    by_case : (t : Bool) → is_there v m ≡ t → count_by (λ p. same_list p m) (middles_there v) ≡ bit t
    by_case true there = count_member m (middles_there v) (there_ascend v) (Contains_from (middles_there v) m (member_there v m long there))
    by_case false none = count_none (λ p. same_list p m) (middles_there v)
        (λ y i t. false≢true (sym none ∙ ap (is_there v) (sym (lists_equal y m t)) ∙ (there_is v y i).1))

-- ---- the next point

pub before_or_at : (f s a b e : Bool) → (s ≡ true → a ≡ (b || e)) → (f || (s && a)) ≡ ((f || (s && b)) || (e && s))
before_or_at true s a b e h = refl
before_or_at false true true b true h = h refl
before_or_at false true true b false h = h refl
before_or_at false true false b true h = h refl
before_or_at false true false b false h = h refl
before_or_at false false a b e h = sym (and-false e)

next_point : (c : ℕ) (rest p : List ℕ) → comes_first p ((c + 1) ∷ rest) ≡ (comes_first p (c ∷ rest) || same_list p (c ∷ rest))
next_point c rest [] = refl
next_point c rest (k ∷ r) =
    before_or_at (comes_first r rest) (same_list r rest) (nat_lt k (c + 1)) (nat_lt k c) (k == c)
    (λ e. let below : nat_lt k (c + 1) ≡ (nat_lt k c || (k == c)) = grind (arith, nat_tests) in below)

pub counts_points : (v : Volume) (rest : List ℕ) → CountsPoints v rest
counts_points v rest row c =
    let m : List ℕ = c ∷ rest in
    points_same (λ p. comes_first p ((c + 1) ∷ rest)) (λ p. comes_first p m || same_list p m) (middles_there v) (λ p i. next_point c rest p)
    ∙ counts_either (λ p. comes_first p m) (λ p. same_list p m) (middles_there v)
    (λ p e t. comes_first-irreflexive m (subst (λ z. comes_first z m ≡ true) (lists_equal p m t) e))
    ∙ ap (λ n. count_before v m + n) (count_once v m row)

-- ---- which points of a row cannot be midpoints

not_even : (c : ℕ) → c % 2 ≡ 1 → (c % 2 == 0) ≡ false
not_even c e = ap (λ n. n == 0) e

not_odd : (c : ℕ) → c % 2 ≡ 0 → (c % 2 == 1) ≡ false
not_odd c e = ap (λ n. n == 1) e

-- no coordinate is both even and odd
pub even_and_odd : (rest : List ℕ) → 1 ≤ length rest → joins_samples rest ≡ true → joins_centre rest ≡ true → ⊥
even_and_odd [] some even odd = omega (arith, some)
even_and_odd (c ∷ rest) some even odd =
    let first = equal_of (c % 2) 0 (and_left (c % 2 == 0) (joins_samples rest) even) in
    let second = equal_of (c % 2) 1 (and_left (c % 2 == 1) (joins_centre rest) odd) in
    omega (arith, first, second)

none_middle : (kind : Kind) (m : List ℕ) → joins_samples m ≡ false → joins_centre m ≡ false → is_middle kind m ≡ false
none_middle Cube m a b = ap (λ t. t && (axes_along m == 1)) a
none_middle Simplex m a b = ap (λ t. t && nat_lt 0 (axes_along m)) a
none_middle Pyramid m a b = λ i. (a i && (axes_along m == 1)) || b i

none_there : (v : Volume) (m : List ℕ) → is_middle v.kind m ≡ false → is_there v m ≡ false
none_there v m e = λ i. e i && list_any (λ x. holds x m) (kept_cubes v) && is_bipolar v (edge_at m)

-- in a row at samples and between them there is none at an odd place
none_odd : (v : Volume) (c : ℕ) (rest : List ℕ) → 1 ≤ length rest → joins_samples rest ≡ true → c % 2 ≡ 1 → is_there v (c ∷ rest) ≡ false
none_odd v c rest some even odd =
    none_there v (c ∷ rest) (none_middle v.kind (c ∷ rest)
    (ap (λ t. t && joins_samples rest) (not_even c odd))
    (false_from_ne_true (joins_centre (c ∷ rest)) (λ t. even_and_odd rest some even (and_right (c % 2 == 1) (joins_centre rest) t))))

-- in a row of edges to centres there is none at an even place
none_even : (v : Volume) (c : ℕ) (rest : List ℕ) → 1 ≤ length rest → joins_centre rest ≡ true → c % 2 ≡ 0 → is_there v (c ∷ rest) ≡ false
none_even v c rest some odd even =
    none_there v (c ∷ rest) (none_middle v.kind (c ∷ rest)
    (false_from_ne_true (joins_samples (c ∷ rest)) (λ t. even_and_odd rest some (and_right (c % 2 == 0) (joins_samples rest) t) odd))
    (ap (λ t. t && joins_centre rest) (not_odd c even)))

-- ---- from place to place

module _ (v : Volume) (rest : List ℕ) (some : 1 ≤ length rest) (row : IsRowOfMiddles v rest) where
  one_more : (a b : ℕ) (t : Bool) → b ≡ a + 1 → is_there v (a ∷ rest) ≡ t → count_before v (b ∷ rest) ≡ count_before v (a ∷ rest) + bit t
  one_more a b t next is = ap (λ c. count_before v (c ∷ rest)) next ∙ counts_points v rest row a ∙ ap (λ u. count_before v (a ∷ rest) + bit u) is

  module _ (even : joins_samples rest ≡ true) where
    pub first_sample : (x : ℕ) → count_before v ((4 * x + 2) ∷ rest) ≡ count_before v (4 * x ∷ rest) + bit (is_there v (4 * x ∷ rest))
    first_sample x =
        let at = one_more (4 * x) (4 * x + 1) (is_there v (4 * x ∷ rest)) refl refl in
        let none = one_more (4 * x + 1) (4 * x + 2) false (omega arith) (none_odd v (4 * x + 1) rest some even (omega arith)) in
        omega (arith, at, none)

    pub next_sample : (x y : ℕ) → y ≡ 4 * x + 4 → count_before v (y ∷ rest)
        ≡ count_before v (4 * x ∷ rest) + bit (is_there v (4 * x ∷ rest)) + bit (is_there v ((4 * x + 2) ∷ rest))
    next_sample x y next =
        let at = one_more (4 * x + 2) (4 * x + 3) (is_there v ((4 * x + 2) ∷ rest)) (omega arith) refl in
        let none = one_more (4 * x + 3) y false (omega (arith, next)) (none_odd v (4 * x + 3) rest some even (omega arith)) in
        omega (arith, first_sample x, at, none)

    pub samples : (x n : ℕ) → count_before v (4 * (x + n) ∷ rest) ≡ count_before v (4 * x ∷ rest)
        + count_by (λ k. is_there v (4 * (x + k) ∷ rest)) (numbers n) + count_by (λ k. is_there v ((4 * (x + k) + 2) ∷ rest)) (numbers n)
    samples x zero =
        let same : 4 * (x + 0) ≡ 4 * x = omega arith in
        let plain : count_before v (4 * x ∷ rest) ≡ count_before v (4 * x ∷ rest) + 0 + 0 = omega arith in
        ap (λ c. count_before v (c ∷ rest)) same ∙ plain
    samples x (suc n) =
        let more : suc n ≡ n + 1 = omega arith in
        let first : ℕ → Bool = λ k. is_there v (4 * (x + k) ∷ rest) in
        let second : ℕ → Bool = λ k. is_there v ((4 * (x + k) + 2) ∷ rest) in
        let next = next_sample (x + n) (4 * (x + suc n)) (omega (arith, more)) in
        let firsts : count_by first (numbers (suc n)) ≡ count_by first (numbers n) + bit (first n) =
        ap (λ k. count_by first (numbers k)) more ∙ count_push first n in
        let seconds : count_by second (numbers (suc n)) ≡ count_by second (numbers n) + bit (second n) =
        ap (λ k. count_by second (numbers k)) more ∙ count_push second n in
        omega (arith, next, samples x n, firsts, seconds)

  module _ (odd : joins_centre rest ≡ true) where
    pub before_centres : (x : ℕ) → count_before v ((4 * x + 1) ∷ rest) ≡ count_before v (4 * x ∷ rest)
    before_centres x =
        let none = one_more (4 * x) (4 * x + 1) false refl (none_even v (4 * x) rest some odd (omega arith)) in
        omega (arith, none)

    pub first_centre : (x : ℕ) → count_before v ((4 * x + 3) ∷ rest) ≡ count_before v (4 * x ∷ rest) + bit (is_there v ((4 * x + 1) ∷ rest))
    first_centre x =
        let at = one_more (4 * x + 1) (4 * x + 2) (is_there v ((4 * x + 1) ∷ rest)) (omega arith) refl in
        let none = one_more (4 * x + 2) (4 * x + 3) false (omega arith) (none_even v (4 * x + 2) rest some odd (omega arith)) in
        omega (arith, before_centres x, at, none)

    next_centre : (x y : ℕ) → y ≡ 4 * x + 4 → count_before v (y ∷ rest)
        ≡ count_before v (4 * x ∷ rest) + bit (is_there v ((4 * x + 1) ∷ rest)) + bit (is_there v ((4 * x + 3) ∷ rest))
    next_centre x y next =
        let at = one_more (4 * x + 3) y (is_there v ((4 * x + 3) ∷ rest)) (omega (arith, next)) refl in
        omega (arith, first_centre x, at)

    pub centres : (x n : ℕ) → count_before v (4 * (x + n) ∷ rest) ≡ count_before v (4 * x ∷ rest)
        + count_by (λ k. is_there v ((4 * (x + k) + 1) ∷ rest)) (numbers n) + count_by (λ k. is_there v ((4 * (x + k) + 3) ∷ rest)) (numbers n)
    centres x zero =
        let same : 4 * (x + 0) ≡ 4 * x = omega arith in
        let plain : count_before v (4 * x ∷ rest) ≡ count_before v (4 * x ∷ rest) + 0 + 0 = omega arith in
        ap (λ c. count_before v (c ∷ rest)) same ∙ plain
    centres x (suc n) =
        let more : suc n ≡ n + 1 = omega arith in
        let first : ℕ → Bool = λ k. is_there v ((4 * (x + k) + 1) ∷ rest) in
        let second : ℕ → Bool = λ k. is_there v ((4 * (x + k) + 3) ∷ rest) in
        let next = next_centre (x + n) (4 * (x + suc n)) (omega (arith, more)) in
        let firsts : count_by first (numbers (suc n)) ≡ count_by first (numbers n) + bit (first n) =
        ap (λ k. count_by first (numbers k)) more ∙ count_push first n in
        let seconds : count_by second (numbers (suc n)) ≡ count_by second (numbers n) + bit (second n) =
        ap (λ k. count_by second (numbers k)) more ∙ count_push second n in
        omega (arith, next, centres x n, firsts, seconds)

-- a grid has more than one axis
pub some_rest : (v : Volume) (rest : List ℕ) → HasDimension v.kind (length v.sizes) → IsRowOfMiddles v rest → 1 ≤ length rest
some_rest v rest fits row = by_kind v.kind fits
  where
    by_kind : (kind : Kind) → HasDimension kind (length v.sizes) → 1 ≤ length rest
    by_kind Cube h = omega (arith, h.0, row)
    by_kind Simplex h = omega (arith, h.0, row)
    by_kind Pyramid h = omega (arith, h, row)

pub counts_samples : (v : Volume) (rest : List ℕ) → HasDimension v.kind (length v.sizes) → CountsSamples v rest
counts_samples v rest fits row even = samples v rest (some_rest v rest fits row) row even

pub counts_first : (v : Volume) (rest : List ℕ) → HasDimension v.kind (length v.sizes) → CountsFirst v rest
counts_first v rest fits row even = first_sample v rest (some_rest v rest fits row) row even

pub counts_next : (v : Volume) (rest : List ℕ) → HasDimension v.kind (length v.sizes) → CountsNext v rest
counts_next v rest fits row even x = next_sample v rest (some_rest v rest fits row) row even x (4 * (x + 1)) (omega arith)

pub counts_centres : (v : Volume) (rest : List ℕ) → HasDimension v.kind (length v.sizes) → CountsCentres v rest
counts_centres v rest fits row odd = centres v rest (some_rest v rest fits row) row odd

pub counts_first_centre : (v : Volume) (rest : List ℕ) → HasDimension v.kind (length v.sizes) → CountsCentre v rest
counts_first_centre v rest fits row odd x =
    (before_centres v rest (some_rest v rest fits row) row odd x, first_centre v rest (some_rest v rest fits row) row odd x)

-- ---- two points with none between them

pub counts_between : (v : Volume) (p q : List ℕ) → CountsSame v p q
counts_between v p q same =
    points_same (λ m. comes_first m p) (λ m. comes_first m q) (middles_there v)
    (λ m i. let is = there_is v m i in same m is.0 is.1)

pub counts_none : (v : Volume) (n : ℕ) → CountsNone v n
counts_none v n = count_none (λ m. comes_first m (replicate n 0)) (middles_there v) (λ m i e. not_before n m e)
  where
    not_before : (n : ℕ) (m : List ℕ) → comes_first m (replicate n 0) ≡ true → ⊥
    not_before zero [] e = false≢true e
    not_before zero (c ∷ m) e = false≢true e
    not_before (suc n) [] e = false≢true e
    not_before (suc n) (c ∷ m) e = elim (or_cases (comes_first m (replicate n 0)) (same_list m (replicate n 0) && nat_lt c 0) e) as (λ _. ⊥) [
      | inl f ↦ not_before n m f
      | inr f ↦
          let below : c < 0 = lt_of c 0 (and_right (same_list m (replicate n 0)) (nat_lt c 0) f) in
          omega (arith, below)
    ]
