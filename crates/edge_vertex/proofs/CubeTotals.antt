-- Values of points by the places of samples.
use Rattle.std.proofs.Common.{◌≡◌, ℕ, ◌+◌, ◌*◌, ◌/◌, ◌%◌, ◌<◌, true, false, List, [], ◌∷◌, refl, ap, ◌∙◌, arith, ℤ, pos, ◌+ℤ◌, ◌*ℤ◌}
use Rattle.std.specs.Prelude.{slice_index, ◌==◌}
use Rattle.std.specs.List.{list_all}
use Rattle.std.proofs.lemmas.Int.{ints}
use Rattle.std.proofs.lemmas.List.Folds.{list_all_at}
use Rattle.iso_model.specs.Turns.{total}
use Rattle.iso_model.specs.Values.{IsSamplePoint, IsCentre, sample_number, cube_samples, product, value_at}
use Rattle.edge_vertex.specs.Sums.{sample, cube_total}
use Rattle.edge_vertex.proofs.Places.{halves}
use Rattle.lists.proofs.MemberLaws.{even_all}
use Rattle.lists.proofs.Tests.{next_below}

-- at a sample's point
pub sample_value : (sizes : List ℕ) (samples : List ℤ) (p : List ℕ) (place : ℕ) → IsSamplePoint sizes p → place ≡ sample_number sizes (halves p)
    → value_at sizes samples p ≡ pos 8 *ℤ sample samples place
unfolding value_at
sample_value sizes samples p place is at =
    let even : list_all (λ c. c % 2 == 0) p ≡ true = even_all p (λ i h. let here = is.1 i (omega (arith, h, is.0)) in here.0) in
    rw (even, at) refl

-- at a centre
total_of : (a b c d e f g h : ℤ) → a +ℤ (b +ℤ (c +ℤ (d +ℤ (e +ℤ (f +ℤ (g +ℤ (h +ℤ pos 0))))))) ≡ ((a +ℤ b) +ℤ (c +ℤ d)) +ℤ ((e +ℤ f) +ℤ (g +ℤ h))
total_of a b c d e f g h = omega (arith, ints)

corner_place : (n m k x y z a b c : ℕ) → (x + a) + n * ((y + b) + m * ((z + c) + k * 0)) ≡ (x + n * (y + m * (z + k * 0))) + c * (n * m) + b * n + a
corner_place n m k x y z a b c = grind arith

corners_total : (samples : List ℤ) (n m k x y z : ℕ) →
    total (cube_samples (n ∷ m ∷ k ∷ []) samples (x ∷ y ∷ z ∷ [])) ≡ cube_total samples (sample_number (n ∷ m ∷ k ∷ []) (x ∷ y ∷ z ∷ [])) n (n * m)
corners_total samples n m k x y z =
    let first : ℕ = x + n * (y + m * (z + k * 0)) in
    let s : (a b c place : ℕ) → first + c * (n * m) + b * n + a ≡ place
    → sample samples ((x + a) + n * ((y + b) + m * ((z + c) + k * 0))) ≡ sample samples place =
    λ a b c place e. ap (sample samples) (corner_place n m k x y z a b c ∙ e) in
    rw (
      s 0 0 0 first (omega arith),
      s 1 0 0 (first + 1) (omega arith),
      s 0 1 0 (first + n) (omega arith),
      s 1 1 0 (first + n + 1) (omega arith),
      s 0 0 1 (first + n * m) (omega arith),
      s 1 0 1 (first + n * m + 1) (omega arith),
      s 0 1 1 (first + n * m + n) (omega arith),
      s 1 1 1 (first + n * m + n + 1) (omega arith),
    ) (total_of (sample samples first) (sample samples (first + 1)) (sample samples (first + n)) (sample samples (first + n + 1))
    (sample samples (first + n * m)) (sample samples (first + n * m + 1)) (sample samples (first + n * m + n)) (sample samples (first + n * m + n + 1)))

pub centre_value : (sizes : List ℕ) (samples : List ℤ) (p : List ℕ) (place : ℕ) → IsCentre sizes p → place ≡ sample_number sizes (halves p) →
    value_at sizes samples p ≡ cube_total samples place (slice_index sizes 0) (slice_index sizes 0 * slice_index sizes 1)
unfolding value_at
centre_value (n ∷ m ∷ k ∷ []) samples (a ∷ b ∷ c ∷ []) place is at =
    let here = is.2 0 (omega arith) in
    let odd : list_all (λ c. c % 2 == 0) (a ∷ b ∷ c ∷ []) ≡ false = list_all_at (λ c. c % 2 == 0) (a ∷ b ∷ c ∷ []) 0 0 (omega arith) (rw here.0 refl) in
    rw (odd, at) (corners_total samples n m k (a / 2) (b / 2) (c / 2))
centre_value [] samples p place is at = absurd (omega (arith, is.0))
centre_value (n ∷ []) samples p place is at = absurd (omega (arith, is.0))
centre_value (n ∷ m ∷ []) samples p place is at = absurd (omega (arith, is.0))
centre_value (n ∷ m ∷ k ∷ j ∷ sizes) samples p place is at = absurd (omega (arith, is.0))
centre_value (n ∷ m ∷ k ∷ []) samples [] place is at = absurd (omega (arith, is.1))
centre_value (n ∷ m ∷ k ∷ []) samples (a ∷ []) place is at = absurd (omega (arith, is.1))
centre_value (n ∷ m ∷ k ∷ []) samples (a ∷ b ∷ []) place is at = absurd (omega (arith, is.1))
centre_value (n ∷ m ∷ k ∷ []) samples (a ∷ b ∷ c ∷ e ∷ p) place is at = absurd (omega (arith, is.1))

-- the eight samples are there
inside_three : (n m k x y z : ℕ) → x + 1 < n → y + 1 < m → z + 1 < k → (x + n * (y + m * (z + k * 0))) + n * m + n + 1 < ((1 * n) * m) * k
inside_three n m k x y z hx hy hz =
    let inner : (y + 1) + m * (z + 1) < m * k = next_below (y + 1) m (z + 1) k hy hz in
    let outer : (x + 1) + n * ((y + 1) + m * (z + 1)) < n * (m * k) = next_below (x + 1) n ((y + 1) + m * (z + 1)) (m * k) hx inner in
    omega (arith, outer)

pub centre_inside : (sizes p : List ℕ) (place : ℕ) → IsCentre sizes p → place ≡ sample_number sizes (halves p) →
    place + slice_index sizes 0 * slice_index sizes 1 + slice_index sizes 0 + 1 < product sizes
centre_inside (n ∷ m ∷ k ∷ []) (a ∷ b ∷ c ∷ []) place is at =
    let x = is.2 0 (omega arith) in
    let y = is.2 1 (omega arith) in
    let z = is.2 2 (omega arith) in
    rw at (inside_three n m k (a / 2) (b / 2) (c / 2) x.1 y.1 z.1)
centre_inside [] p place is at = absurd (omega (arith, is.0))
centre_inside (n ∷ []) p place is at = absurd (omega (arith, is.0))
centre_inside (n ∷ m ∷ []) p place is at = absurd (omega (arith, is.0))
centre_inside (n ∷ m ∷ k ∷ j ∷ sizes) p place is at = absurd (omega (arith, is.0))
centre_inside (n ∷ m ∷ k ∷ []) [] place is at = absurd (omega (arith, is.1))
centre_inside (n ∷ m ∷ k ∷ []) (a ∷ []) place is at = absurd (omega (arith, is.1))
centre_inside (n ∷ m ∷ k ∷ []) (a ∷ b ∷ []) place is at = absurd (omega (arith, is.1))
centre_inside (n ∷ m ∷ k ∷ []) (a ∷ b ∷ c ∷ e ∷ p) place is at = absurd (omega (arith, is.1))
