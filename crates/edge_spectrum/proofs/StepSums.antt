-- Sums of steps modulo 2^64, and how the counts grow.
use Rattle.std.proofs.Common.{arith, ap, refl, sym, ◌∙◌, set, get_or}
use Rattle.std.proofs.Common.{w64, to_z, of_z, FitsSigned}
use Rattle.std.proofs.lemmas.Int.{fits_signed_from_abs, ints, to_z-of_z}
use Rattle.std.proofs.lemmas.Bool.Decides.{nat_tests}
use Rattle.std.proofs.lemmas.List.{length-set, map-append}
use Rattle.std.proofs.lemmas.List.Sums.{sum_by-cons, sum_by_more}
use Rattle.std.specs.Prelude.{ℕ, zero, suc, ◌+◌, ◌%◌, ◌^◌, ◌<◌, ◌≤◌, ◌≡◌, Bool, true, false, List, [], ◌∷◌, ℤ, pos, negsuc, ◌+ℤ◌, ◌-ℤ◌, ◌*ℤ◌, ◌≤ℤ◌, ◌/◌, Result, Ok, Err, IfOk, ◌++◌, count_by, int_le, length, map, max, min, nat_lt, take, unsigned_abs, if◌then◌else◌}
use Rattle.std.specs.List.{sum}
use Rattle.std.specs.Int.{int_div_euclid, int_max, int_min}
use Rattle.lists.specs.Orders.{numbers}
use Rattle.lists.proofs.MemberLaws.{range-push}
use Rattle.lists.proofs.Sorting.{bit}
use Rattle.lists.proofs.Tests.{lt_of, of_lt}
use Rattle.iso_model.specs.Bipolar.{differ}
use Rattle.iso_model.specs.Values.{is_positive}
use Rattle.edge_middles.proofs.RowCounts.{count_push}
use Rattle.edge_spectrum.specs.declared.differences.Differences.{Differences}
use Rattle.edge_spectrum.specs.Growing.{AreDifferences, AreSame64, Grows, count_at, one_if}
use Rattle.edge_spectrum.specs.Spectrum.{iso_after}

-- ---- a step that is set anew

sum-cons : (x : ℕ) (xs : List ℕ) → sum (x ∷ xs) ≡ x + sum xs
sum-cons x xs = sum_by-cons (λ y. y) x xs

take-more : (x : ℕ) (xs : List ℕ) (i : ℕ) → sum (take (i + 1) (x ∷ xs)) ≡ x + sum (take i xs)
take-more x xs i = let next : i + 1 ≡ suc i = omega arith in ap (λ k. sum (take k (x ∷ xs))) next ∙ sum-cons x (take i xs)

suc_is : (n : ℕ) → suc n ≡ n + 1
suc_is n = omega arith

take-suc : (x : ℕ) (xs : List ℕ) (i : ℕ) → sum (take (suc i + 1) (x ∷ xs)) ≡ x + sum (take (i + 1) xs)
take-suc x xs i = take-more x xs (suc i) ∙ ap (λ k. x + sum (take k xs)) (suc_is i)

-- counts up to the step and past it
pub count_set : (xs : List ℕ) (k i v : ℕ) → k < length xs → k ≤ i → sum (take (i + 1) (set xs k v)) + get_or xs k 0 ≡ sum (take (i + 1) xs) + v
count_set [] k i v h le = absurd (omega (arith, h))
count_set (x ∷ xs) zero i v h le =
    let first : sum (take (i + 1) (v ∷ xs)) + x ≡ sum (take (i + 1) (x ∷ xs)) + v = omega (arith, take-more v xs i, take-more x xs i) in first
count_set (x ∷ xs) (suc k) zero v h le = absurd (omega (arith, le))
count_set (x ∷ xs) (suc k) (suc i) v h le =
    let rest = count_set xs k i v (omega (arith, h)) (omega (arith, le)) in
    let both : sum (take (suc i + 1) (x ∷ set xs k v)) + get_or xs k 0 ≡ sum (take (suc i + 1) (x ∷ xs)) + v =
    omega (arith, rest, take-suc x (set xs k v) i, take-suc x xs i) in both

pub count_set_past : (xs : List ℕ) (k i v : ℕ) → i < k → sum (take (i + 1) (set xs k v)) ≡ sum (take (i + 1) xs)
count_set_past [] k i v lt = refl
count_set_past (x ∷ xs) zero i v lt = absurd (omega (arith, lt))
count_set_past (x ∷ xs) (suc k) zero v lt = refl
count_set_past (x ∷ xs) (suc k) (suc i) v lt =
    let rest = count_set_past xs k i v (omega (arith, lt)) in
    let both : sum (take (suc i + 1) (x ∷ set xs k v)) ≡ sum (take (suc i + 1) (x ∷ xs)) =
    omega (arith, rest, take-suc x (set xs k v) i, take-suc x xs i) in both

-- ---- growing

pub grows_both : (a b c : Differences) (f g : ℤ → ℕ) → Grows a b f → Grows b c g → Grows a c (λ iso. f iso + g iso)
grows_both a b c f g first second = record {
  sound = second.sound;
  from = second.from ∙ first.from;
  isovalues = second.isovalues ∙ first.isovalues;
  counts = λ i h.
      let before = first.counts i h in
      let after = second.counts i (omega (arith, h, first.isovalues)) in
      let at : g (iso_after b.from i) ≡ g (iso_after a.from i) = ap (λ z. g (iso_after z i)) first.from in
      omega (arith, before, after, at);
}

pub grows_none : (a : Differences) → AreDifferences a → Grows a a (λ iso. 0)
grows_none a sound = record {
  sound = sound;
  from = refl;
  isovalues = refl;
  counts = λ i h. let none : count_at a i + 0 ≡ count_at a i = omega arith in ap (λ n. n % 2 ^ 64) (sym none);
}

pub grows_same : (a b : Differences) (f g : ℤ → ℕ) → ((iso : ℤ) → f iso ≡ g iso) → Grows a b f → Grows a b g
grows_same a b f g same h = record {
  sound = h.sound;
  from = h.from;
  isovalues = h.isovalues;
  counts = λ i lt. h.counts i lt ∙ ap (λ n. (count_at a i + n) % 2 ^ 64) (same (iso_after a.from i));
}

pub bit_is : (b : Bool) → bit b ≡ one_if b
bit_is true = refl
bit_is false = refl

-- a test that is counted once more
pub one_more_test : (p : ℕ → Bool) (n : ℕ) → count_by p (numbers n) + one_if (p n) ≡ count_by p (numbers (n + 1))
one_more_test p n = omega (arith, count_push p n, bit_is (p n))

pub two_more : (a b c d : ℕ) → (a + b) + c + d ≡ (a + c) + (b + d)
two_more a b c d = omega arith

-- ---- eighths

-- a sum of eight samples is positive where an eighth of it, rounded down, is at least the isovalue
pub eighth : (iso value : ℤ) → is_positive iso value ≡ int_le iso (int_div_euclid value (pos 8))
eighth iso (pos a) = by_case (int_le iso (pos (a / 8))) refl
  where
    by_case : (t : Bool) → int_le iso (pos (a / 8)) ≡ t → int_le (pos 8 *ℤ iso) (pos a) ≡ t
    by_case true e = grind (arith, ints)
    by_case false e = grind (arith, ints)
eighth iso (negsuc a) = by_case (int_le iso (negsuc (a / 8))) refl
  where
    by_case : (t : Bool) → int_le iso (negsuc (a / 8)) ≡ t → int_le (pos 8 *ℤ iso) (negsuc a) ≡ t
    by_case true e = grind (arith, ints)
    by_case false e = grind (arith, ints)

pub eighth_small : (value : ℤ) → unsigned_abs value ≤ 2 ^ 35 → unsigned_abs (int_div_euclid value (pos 8)) ≤ 2 ^ 40
eighth_small (pos a) h = omega (arith, h)
eighth_small (negsuc a) h = omega (arith, h)

-- ---- an edge is added

pub not_below : (a b : ℕ) → nat_lt a b ≡ false → b ≤ a
not_below a b h = grind (arith, nat_tests)

step_first : (old : List ℕ) (i low high v w : ℕ) → low < length old → high < length old → low ≤ i → i < high → v ≡ (get_or old low 0 + 1) % 2 ^ 64
    → AreSame64 (sum (take (i + 1) (set (set old low v) high w))) (sum (take (i + 1) old) + 1)
step_first old i low high v w inside other from below is =
    omega (arith, count_set_past (set old low v) high i w below, count_set old low i v inside from, is)

step_none : (old : List ℕ) (i low high v w : ℕ) → i < low → i < high
    → AreSame64 (sum (take (i + 1) (set (set old low v) high w))) (sum (take (i + 1) old) + 0)
step_none old i low high v w below under =
    omega (arith, count_set_past (set old low v) high i w under, count_set_past old low i v below)

step_both : (old : List ℕ) (i low high v w : ℕ) → low < length old → high < length old → low ≤ i → high ≤ i → v ≡ (get_or old low 0 + 1) % 2 ^ 64
    → w ≡ (get_or (set old low v) high 0 + 18446744073709551615) % 2 ^ 64
    → AreSame64 (sum (take (i + 1) (set (set old low v) high w))) (sum (take (i + 1) old) + 0)
step_both old i low high v w inside other from above is was =
    let long : high < length (set old low v) = omega (arith, other, length-set old low v) in
    omega (arith, count_set (set old low v) high i w long above, count_set old low i v inside from, is, was)

pub added : (old : List ℕ) (i r o low high v w : ℕ) → low ≡ min r o → high ≡ max r o → r < length old → o < length old
    → v ≡ (get_or old low 0 + 1) % 2 ^ 64 → w ≡ (get_or (set old low v) high 0 + 18446744073709551615) % 2 ^ 64
    → AreSame64 (sum (take (i + 1) (set (set old low v) high w))) (sum (take (i + 1) old) + one_if (differ (nat_lt i r) (nat_lt i o)))
added old i r o low high v w l h inside other is was = by_case (nat_lt i r) (nat_lt i o) refl refl
  where
    by_case : (a b : Bool) → nat_lt i r ≡ a → nat_lt i o ≡ b
        → AreSame64 (sum (take (i + 1) (set (set old low v) high w))) (sum (take (i + 1) old) + one_if (differ a b))
    by_case true true a b = step_none old i low high v w (omega (arith, l, lt_of i r a, lt_of i o b)) (omega (arith, h, lt_of i r a, lt_of i o b))
    by_case true false a b =
        step_first old i low high v w (omega (arith, l, inside, other)) (omega (arith, h, inside, other)) (omega (arith, l, not_below i o b))
        (omega (arith, h, lt_of i r a)) is
    by_case false true a b =
        step_first old i low high v w (omega (arith, l, inside, other)) (omega (arith, h, inside, other)) (omega (arith, l, not_below i r a))
        (omega (arith, h, lt_of i o b)) is
    by_case false false a b =
        step_both old i low high v w (omega (arith, l, inside, other)) (omega (arith, h, inside, other)) (omega (arith, l, not_below i r a, not_below i o b))
        (omega (arith, h, not_below i r a, not_below i o b)) is was

-- ---- counts

pub count_more : (xs : List ℕ) (i count x : ℕ) → i < length xs → count ≡ sum (take i xs) % 2 ^ 64 → x ≡ get_or xs i 0
    → (count + x) % 2 ^ 64 ≡ sum (take (i + 1) xs) % 2 ^ 64
count_more xs i count x h is at = omega (arith, is, at, sum_by_more (λ y. y) xs i 0 h)

pub counted_push : (f : ℕ → ℕ) (n x : ℕ) (before after : List ℕ) → before ≡ map f (numbers n) → after ≡ before ++ x ∷ [] → x ≡ f n
    → after ≡ map f (numbers (n + 1))
counted_push f n x before after was put is =
    let plain : 0 + n ≡ n = omega arith in
    put ∙ (λ i. was i ++ is i ∷ []) ∙ sym (map-append f (numbers n) (n ∷ []))
    ∙ ap (map f) (sym (range-push 0 n ∙ ap (λ k. numbers n ++ k ∷ []) plain))

-- ---- numbers of 64 bits

pub wrapped_difference : (a b : ℤ) → unsigned_abs a ≤ 2 ^ 40 → unsigned_abs b ≤ 2 ^ 40
    → to_z w64 (of_z w64 (to_z w64 (of_z w64 a) -ℤ to_z w64 (of_z w64 b))) ≡ a -ℤ b
wrapped_difference a b h k =
    let first : FitsSigned w64 a = fits_signed_from_abs w64 a (omega (arith, h)) in
    let second : FitsSigned w64 b = fits_signed_from_abs w64 b (omega (arith, k)) in
    let small : unsigned_abs (a -ℤ b) ≤ 2 ^ 41 = omega (arith, ints) in
    let both : FitsSigned w64 (a -ℤ b) = fits_signed_from_abs w64 (a -ℤ b) (omega (arith, small)) in
    (λ i. to_z w64 (of_z w64 (to_z-of_z w64 a first i -ℤ to_z-of_z w64 b second i))) ∙ to_z-of_z w64 (a -ℤ b) both

pub wrapped_past : (a b : ℤ) → unsigned_abs a ≤ 2 ^ 40 → unsigned_abs b ≤ 2 ^ 40
    → to_z w64 (of_z w64 (to_z w64 (of_z w64 (to_z w64 (of_z w64 a) -ℤ to_z w64 (of_z w64 b))) +ℤ pos 1)) ≡ (a -ℤ b) +ℤ pos 1
wrapped_past a b h k =
    let small : unsigned_abs ((a -ℤ b) +ℤ pos 1) ≤ 2 ^ 42 = omega (arith, ints) in
    let fits : FitsSigned w64 ((a -ℤ b) +ℤ pos 1) = fits_signed_from_abs w64 ((a -ℤ b) +ℤ pos 1) (omega (arith, small)) in
    ap (λ z. to_z w64 (of_z w64 (z +ℤ pos 1))) (wrapped_difference a b h k) ∙ to_z-of_z w64 ((a -ℤ b) +ℤ pos 1) fits

pub small_fits : (z : ℤ) → unsigned_abs z ≤ 2 ^ 40 → to_z w64 (of_z w64 z) ≡ z
small_fits z h = to_z-of_z w64 z (fits_signed_from_abs w64 z (omega (arith, h)))

pub between : (z y : ℤ) (n : ℕ) → pos 0 ≤ℤ z → z ≤ℤ y → y ≡ pos n → unsigned_abs z ≤ n
between z y n low high is = omega (arith, ints)

-- ---- how many isovalues a value reaches

pub reached_is : (from value z : ℤ) (n i : ℕ) → z ≡ int_max (pos 0) (int_min ((value -ℤ from) +ℤ pos 1) (pos n)) → i < n
    → nat_lt i (unsigned_abs z) ≡ int_le (iso_after from i) value
reached_is from value z n i is h = by_case (int_le (from +ℤ pos i) value) refl
  where
    inside : int_le (from +ℤ pos i) value ≡ true → i < unsigned_abs z
    inside t = grind (arith, ints)

    outside : int_le (from +ℤ pos i) value ≡ false → unsigned_abs z ≤ i
    outside t = grind (arith, ints)

    by_case : (t : Bool) → int_le (from +ℤ pos i) value ≡ t → nat_lt i (unsigned_abs z) ≡ t
    by_case true t = of_lt i (unsigned_abs z) (inside t)
    by_case false t = let past : unsigned_abs z ≤ i = outside t in grind (arith, nat_tests)
