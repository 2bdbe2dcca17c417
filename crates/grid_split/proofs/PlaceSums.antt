-- The number of a cube as a sum over the axes, and back.
use Rattle.std.proofs.Common.{◌≡◌, ℕ, zero, suc, ◌+◌, ◌-◌, ◌*◌, ◌<◌, ◌≤◌, List, [], ◌∷◌, length, ap, sym, ◌∙◌, subst, arith, add-one}
use Rattle.std.specs.Prelude.{◌/◌, ◌%◌, ◌^◌, slice_index, take, All}
use Rattle.std.proofs.lemmas.Nat.{div-mul-add, mod-mul-add, mul-add-lt}
use Rattle.std.proofs.Math.Nat.{mul_comm}
use Rattle.iso_model.specs.Splits.{cube_count, cube_at}
use Rattle.iso_model.specs.Values.{product}
use Rattle.grid_split.proofs.CubeNumbers.{cube_count_more, few_before}

-- the part of a cube's number that its first i coordinates give
abbrev pub number_before : List ℕ → (ℕ → ℕ) → ℕ → ℕ
number_before sizes f zero = 0
number_before sizes f (suc i) = number_before sizes f i + f i * cube_count (take i sizes)

times_sum : (a b c e : ℕ) → a * b + c * (a * e) ≡ a * (b + c * e)
times_sum a b c e = grind arith

shift_axis : (n : ℕ) (sizes : List ℕ) (f : ℕ → ℕ) (i : ℕ) → number_before (n ∷ sizes) f (suc i) ≡ f 0 + (n - 1) * number_before sizes (λ j. f (suc j)) i
shift_axis n sizes f zero = grind arith
shift_axis n sizes f (suc i) =
    let rest : number_before (n ∷ sizes) f (suc i) ≡ f 0 + (n - 1) * number_before sizes (λ j. f (suc j)) i = shift_axis n sizes f i in
    let joined = times_sum (n - 1) (number_before sizes (λ j. f (suc j)) i) (f (suc i)) (cube_count (take i sizes)) in
    omega (arith, rest, joined)

-- all places are below the last samples
abbrev pub PlacesInside : List ℕ → (ℕ → ℕ) → Type 0
PlacesInside sizes f = (i : ℕ) → i < length sizes → f i + 1 < slice_index sizes i

-- the number is below the count, and the cube stands at these places
pub record NumberOf (sizes : List ℕ) (f : ℕ → ℕ) (number : ℕ) : Type 0 where
  pub below : number < cube_count sizes
  pub at : (i : ℕ) → i < length sizes → slice_index (cube_at sizes number) i ≡ f i

number_step : (n : ℕ) (sizes : List ℕ) (f : ℕ → ℕ) (m : ℕ) → f 0 + 1 < n → NumberOf sizes (λ j. f (suc j)) m → NumberOf (n ∷ sizes) f (f 0 + (n - 1) * m)
number_step n sizes f m first rest =
    let small : f 0 < n - 1 = omega (arith, first) in
    let swapped : f 0 + (n - 1) * m ≡ m * (n - 1) + f 0 = omega (arith, mul_comm m (n - 1)) in
    let quotient : (f 0 + (n - 1) * m) / (n - 1) ≡ m = ap (λ (x : ℕ). x / (n - 1)) swapped ∙ div-mul-add m (n - 1) (f 0) small in
    let digit : (f 0 + (n - 1) * m) % (n - 1) ≡ f 0 = ap (λ (x : ℕ). x % (n - 1)) swapped ∙ mod-mul-add m (n - 1) (f 0) small in
    record { below = rw swapped (mul-add-lt m (n - 1) (f 0) (cube_count sizes) rest.below small); at = places quotient digit }
  where
    places : (f 0 + (n - 1) * m) / (n - 1) ≡ m → (f 0 + (n - 1) * m) % (n - 1) ≡ f 0 → (i : ℕ) → i < length (n ∷ sizes)
        → slice_index (cube_at (n ∷ sizes) (f 0 + (n - 1) * m)) i ≡ f i
    places quotient digit zero h = digit
    places quotient digit (suc i) h = ap (λ (x : ℕ). slice_index (cube_at sizes x) i) quotient ∙ rest.at i (omega (arith, h))

pub number_of : (sizes : List ℕ) (f : ℕ → ℕ) → PlacesInside sizes f → NumberOf sizes f (number_before sizes f (length sizes))
number_of [] f inside = record { below = omega arith; at = λ i h. absurd (omega (arith, h)) }
number_of (n ∷ sizes) f inside =
    let rest = number_of sizes (λ j. f (suc j)) (λ i h. inside (suc i) (omega (arith, h))) in
    subst (NumberOf (n ∷ sizes) f) (sym (shift_axis n sizes f (length sizes)))
    (number_step n sizes f (number_before sizes (λ j. f (suc j)) (length sizes)) (inside 0 (omega arith)) rest)

-- the part of the first i coordinates is below the number of cubes before the next one
pub part_below : (sizes : List ℕ) (f : ℕ → ℕ) (i : ℕ) → i ≤ length sizes → ((j : ℕ) → j < i → f j + 1 < slice_index sizes j)
    → number_before sizes f i < cube_count (take i sizes)
part_below sizes f zero h inside = omega arith
part_below sizes f (suc i) h inside =
    let before = part_below sizes f i (omega (arith, h)) (λ j q. inside j (omega (arith, q))) in
    let last : f i < slice_index sizes i - 1 = omega (arith, inside i (omega arith)) in
    let next : number_before sizes f i + f i * cube_count (take i sizes) < cube_count (take i sizes) * (slice_index sizes i - 1) =
    rw (swap (number_before sizes f i) (f i * cube_count (take i sizes)))
    (mul-add-lt (f i) (cube_count (take i sizes)) (number_before sizes f i) (slice_index sizes i - 1) last before) in
    subst (λ (n : ℕ). number_before sizes f i + f i * cube_count (take i sizes) < n)
    (sym (cube_count_more sizes i (omega (arith, h))) ∙ ap (λ (n : ℕ). cube_count (take n sizes)) (add-one i)) next
  where
    swap : (a b : ℕ) → a + b ≡ b + a
    swap a b = omega arith

-- one axis more: the sum fits, and is that of one axis more
pub next_part : (sizes : List ℕ) (f : ℕ → ℕ) (i number place stride : ℕ) → All (λ n. 1 ≤ n) sizes → product sizes ≤ 2 ^ 27 → i < length sizes
    → ((j : ℕ) → j < i + 1 → f j + 1 < slice_index sizes j) →
    number ≡ number_before sizes f i → place ≡ f i → stride ≡ cube_count (take i sizes)
    → (number + place * stride < 2 ^ 32) × (number + place * stride ≡ number_before sizes f (i + 1))
next_part sizes f i number place stride some few h inside number_is place_is stride_is =
    let sum_is : number + place * stride ≡ number_before sizes f (suc i) =
    ap (λ (x : ℕ). x + place * stride) number_is ∙ ap (λ (x : ℕ). number_before sizes f i + x * stride) place_is
    ∙ ap (λ (x : ℕ). number_before sizes f i + f i * x) stride_is in
    let below = part_below sizes f (suc i) (omega (arith, h)) (λ j q. inside j (omega (arith, q))) in
    let bound = few_before sizes some few (suc i) in
    (omega (arith, sum_is, below, bound), sum_is ∙ ap (number_before sizes f) (sym (add-one i)))
