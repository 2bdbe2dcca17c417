-- The places of the edges of a cube, digit by digit.
use Rattle.std.proofs.Common.{ap, arith, refl, sym, subst, ◌∙◌}
use Rattle.std.proofs.Math.Nat.{mul-le-mul}
use Rattle.std.specs.Prelude.{All, List, [], ◌∷◌, drop, length, slice_index, suc, zero, ℕ, ◌*◌, ◌+◌, ◌-◌, ◌/◌, ◌<◌, ◌≤◌, ◌≡◌}
use Rattle.iso_model.specs.Points.{plus}
use Rattle.layer_scan.specs.CubeNumbers.{digits}

-- a sum of two points, made coordinate by coordinate
pub plus_made : (p q ys : List ℕ) → length ys ≡ length p → length q ≡ length p
    → ((k : ℕ) → k < length p → slice_index ys k ≡ slice_index p k + slice_index q k) → ys ≡ plus p q
plus_made [] q [] long wide each = refl
plus_made [] q (y ∷ ys) long wide each = absurd (omega (arith, long))
plus_made (x ∷ p) [] ys long wide each = absurd (omega (arith, wide))
plus_made (x ∷ p) (z ∷ q) [] long wide each = absurd (omega (arith, long))
plus_made (x ∷ p) (z ∷ q) (y ∷ ys) long wide each =
    let first : y ≡ x + z = each 0 (omega arith) in
    let rest = plus_made p q ys (omega (arith, long)) (omega (arith, wide)) (λ k h. each (suc k) (omega (arith, h))) in
    λ i. first i ∷ rest i

-- one digit more, from the last on
pub digits_step : (base k : ℕ) (xs : List ℕ) → k < length xs
    → digits base (drop k xs) ≡ slice_index xs k / 2 + base * digits base (drop (k + 1) xs)
digits_step base k [] h = absurd (omega (arith, h))
digits_step base zero (x ∷ xs) h = refl
digits_step base (suc k) (x ∷ xs) h =
    let after : suc (k + 1) ≡ suc k + 1 = omega arith in
    digits_step base k xs (omega (arith, h)) ∙ ap (λ n. slice_index xs k / 2 + base * digits base (drop n (x ∷ xs))) after

one_digit : (b base c n most : ℕ) → base ≤ b → c ≤ 4 → n ≤ most → c / 2 + base * n ≤ 2 + b * most
one_digit b base c n most few small h = let both = mul-le-mul few h in omega (arith, small, both)

-- the greatest number of four digits, each at most 2
abbrev pub most_digits : ℕ → ℕ
most_digits b = 2 + b * (2 + b * (2 + b * 2))

-- no more than four digits, each at most 2
digits_most : (b base : ℕ) (xs : List ℕ) → base ≤ b → All (λ c. c ≤ 4) xs → length xs ≤ 4 → digits base xs ≤ most_digits b
digits_most b base [] few small four = omega arith
digits_most b base (a ∷ []) few small four =
    let first = one_digit b base a 0 0 few (small 0 0 (omega arith)) (omega arith) in omega (arith, first)
digits_most b base (a ∷ c ∷ []) few small four =
    let second = one_digit b base c 0 0 few (small 1 0 (omega arith)) (omega arith) in
    let first = one_digit b base a (digits base (c ∷ [])) 2 few (small 0 0 (omega arith)) (omega (arith, second)) in
    omega (arith, first)
digits_most b base (a ∷ c ∷ d ∷ []) few small four =
    let third = one_digit b base d 0 0 few (small 2 0 (omega arith)) (omega arith) in
    let second = one_digit b base c (digits base (d ∷ [])) 2 few (small 1 0 (omega arith)) (omega (arith, third)) in
    let first = one_digit b base a (digits base (c ∷ d ∷ [])) (2 + b * 2) few (small 0 0 (omega arith)) (omega (arith, second)) in
    omega (arith, first)
digits_most b base (a ∷ c ∷ d ∷ e ∷ []) few small four =
    let fourth = one_digit b base e 0 0 few (small 3 0 (omega arith)) (omega arith) in
    let third = one_digit b base d (digits base (e ∷ [])) 2 few (small 2 0 (omega arith)) (omega (arith, fourth)) in
    let second = one_digit b base c (digits base (d ∷ e ∷ [])) (2 + b * 2) few (small 1 0 (omega arith)) (omega (arith, third)) in
    let first = one_digit b base a (digits base (c ∷ d ∷ e ∷ [])) (2 + b * (2 + b * 2)) few (small 0 0 (omega arith)) (omega (arith, second)) in
    omega (arith, first)
digits_most b base (a ∷ c ∷ d ∷ e ∷ f ∷ more) few small four = absurd (omega (arith, four))

-- the last of them alike
pub digits_drop_most : (b base k : ℕ) (xs : List ℕ) → base ≤ b → All (λ c. c ≤ 4) xs → length xs ≤ 4 → digits base (drop k xs) ≤ most_digits b
digits_drop_most b base zero xs few small four = digits_most b base xs few small four
digits_drop_most b base (suc k) [] few small four = omega arith
digits_drop_most b base (suc k) (x ∷ xs) few small four =
    digits_drop_most b base k xs few (λ i d h. small (suc i) d (omega (arith, h))) (omega (arith, four))

-- the number that one digit more makes is one of the last digits
pub next_digits : (base axes back number : ℕ) (xs : List ℕ) → length xs ≡ axes → axes ≤ 4 → base ≤ 3 → All (λ c. c ≤ 4) xs → back < axes
    → number ≡ digits base (drop (axes - back) xs) → slice_index xs (axes - 1 - back) / 2 + base * number ≤ 80
next_digits base axes back number xs long four few small h is =
    let next : axes - 1 - back + 1 ≡ axes - back = omega (arith, h) in
    let here : slice_index xs (axes - 1 - back) / 2 + base * number ≡ digits base (drop (axes - 1 - back) xs) =
    ap (λ m. slice_index xs (axes - 1 - back) / 2 + base * m) (is ∙ ap (λ n. digits base (drop n xs)) (sym next))
    ∙ sym (digits_step base (axes - 1 - back) xs (omega (arith, long, h))) in
    subst (λ m. m ≤ 80) (sym here) (digits_drop_most 3 base (axes - 1 - back) xs few small (omega (arith, long, four)))
