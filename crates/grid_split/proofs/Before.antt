-- Which of two points comes first, one coordinate after another.
use Rattle.std.proofs.Common.{◌≡◌, ℕ, zero, suc, ◌+◌, ◌<◌, Bool, true, false, ◌&&◌, ◌||◌, List, [], ◌∷◌, length, refl, ap, ◌∙◌, arith, inl, inr, add-one}
use Rattle.std.specs.Prelude.{◌==◌, nat_lt, slice_index, take, if◌then◌else◌}
use Rattle.std.proofs.lemmas.Bool.{cases_eq}
use Rattle.std.proofs.lemmas.Bool.Decides.{nat_tests}
use Rattle.lists.specs.Orders.{same_list}
use Rattle.iso_model.specs.Points.{comes_first}

and_assoc : (a b c : Bool) → (a && (b && c)) ≡ ((a && b) && c)
and_assoc true b c = refl
and_assoc false b c = refl

same_suc : (p q : List ℕ) (i : ℕ) → i < length p → length q ≡ length p
    → same_list (take (suc i) p) (take (suc i) q) ≡ (same_list (take i p) (take i q) && (slice_index p i == slice_index q i))
same_suc [] q i h e = absurd (omega (arith, h))
same_suc (x ∷ p) [] i h e = absurd (omega (arith, e))
same_suc (x ∷ p) (y ∷ q) zero h e = and_true (x == y)
  where
    and_true : (b : Bool) → (b && true) ≡ b
    and_true true = refl
    and_true false = refl
same_suc (x ∷ p) (y ∷ q) (suc i) h e =
    ap (λ (b : Bool). (x == y) && b) (same_suc p q i (omega (arith, h)) (omega (arith, e)))
    ∙ and_assoc (x == y) (same_list (take i p) (take i q)) (slice_index p i == slice_index q i)

one_axis : (x y : ℕ) → nat_lt x y ≡ (if x == y then false else nat_lt x y)
one_axis x y = elim (cases_eq x y) [
  | inl same ↦ (let a : nat_lt x y ≡ false = grind (arith, nat_tests) in let b : (x == y) ≡ true = grind (arith, nat_tests) in rw (b, a) refl)
  | inr apart ↦ (let b : (x == y) ≡ false = grind (arith, nat_tests) in rw b refl)
]

-- with the equality e of the next coordinate, its order l, and what the earlier ones say
join : (e l c s t : Bool) → ((if e then c else l) || ((s && e) && t)) ≡ (if e then (c || (s && t)) else l)
join true l c true t = refl
join true l c false t = refl
join false l c true t = or_false l
  where
    or_false : (b : Bool) → (b || false) ≡ b
    or_false true = refl
    or_false false = refl
join false l c false t = or_false l
  where
    or_false : (b : Bool) → (b || false) ≡ b
    or_false true = refl
    or_false false = refl

before_suc : (p q : List ℕ) (i : ℕ) → i < length p → length q ≡ length p →
    comes_first (take (suc i) p) (take (suc i) q)
    ≡ (if slice_index p i == slice_index q i then comes_first (take i p) (take i q) else nat_lt (slice_index p i) (slice_index q i))
before_suc [] q i h e = absurd (omega (arith, h))
before_suc (x ∷ p) [] i h e = absurd (omega (arith, e))
before_suc (x ∷ p) (y ∷ q) zero h e = one_axis x y
before_suc (x ∷ p) (y ∷ q) (suc i) h e =
    let rest = before_suc p q i (omega (arith, h)) (omega (arith, e)) in
    let same = same_suc p q i (omega (arith, h)) (omega (arith, e)) in
    ap (λ (b : Bool). b || (same_list (take (suc i) p) (take (suc i) q) && nat_lt x y)) rest
    ∙ ap
    (λ (b : Bool).
    (if slice_index p i == slice_index q i then comes_first (take i p) (take i q) else nat_lt (slice_index p i) (slice_index q i))
    || (b && nat_lt x y))
    same
    ∙ join (slice_index p i == slice_index q i) (nat_lt (slice_index p i) (slice_index q i)) (comes_first (take i p) (take i q))
    (same_list (take i p) (take i q)) (nat_lt x y)

pub before_more : (p q : List ℕ) (i : ℕ) → i < length p → length q ≡ length p →
    comes_first (take (i + 1) p) (take (i + 1) q)
    ≡ (if slice_index p i == slice_index q i then comes_first (take i p) (take i q) else nat_lt (slice_index p i) (slice_index q i))
before_more p q i h e = rw add-one (before_suc p q i h e)

pub take_all : (xs : List ℕ) (n : ℕ) → length xs ≡ n → take n xs ≡ xs
take_all [] zero h = refl
take_all [] (suc n) h = absurd (omega (arith, h))
take_all (x ∷ xs) zero h = absurd (omega (arith, h))
take_all (x ∷ xs) (suc n) h = ap (λ (ys : List ℕ). x ∷ ys) (take_all xs n (omega (arith, h)))
