-- The place of a sample among all samples, one axis at a time.
use Rattle.std.proofs.Common.{◌≡◌, ℕ, zero, suc, ◌+◌, ◌*◌, ◌/◌, ◌<◌, ◌≤◌, List, [], ◌∷◌, length, refl, ap, sym, ◌∙◌, arith, add-one, drop-cons}
use Rattle.std.specs.Prelude.{slice_index, drop, map}
use Rattle.std.proofs.lemmas.List.{get_or-map, length-map, drop_all}
use Rattle.std.proofs.Math.Nat.{mul-le-mul_right}
use Rattle.iso_model.specs.Values.{product, sample_number}
use Rattle.grid_split.proofs.CubeNumbers.{product_of}
use Rattle.lists.proofs.Tests.{next_below}

-- the point's sample along each axis
abbrev pub halves : List ℕ → List ℕ
halves p = map (λ c. c / 2) p

number_step : (sizes xs : List ℕ) (i : ℕ) → i < length sizes → i < length xs
    → sample_number (drop i sizes) (drop i xs) ≡ slice_index xs i + slice_index sizes i * sample_number (drop (i + 1) sizes) (drop (i + 1) xs)
number_step sizes xs i h k = rw (add-one, drop-cons sizes i 0, drop-cons xs i 0) refl

product_step : (sizes : List ℕ) (i : ℕ) → i < length sizes → product (drop i sizes) ≡ slice_index sizes i * product (drop (i + 1) sizes)
product_step sizes i h = rw (add-one, drop-cons sizes i 0) (product_of (slice_index sizes i) (drop (suc i) sizes))

rest_few : (sizes : List ℕ) → ((i : ℕ) → i < length sizes → 0 < slice_index sizes i) → (i : ℕ) → product (drop i sizes) ≤ product sizes
rest_few [] some i = rw (drop_all {X = ℕ} i [] (omega arith)) (omega arith)
rest_few (n ∷ sizes) some zero = omega arith
rest_few (n ∷ sizes) some (suc i) =
    let rest : product (drop i sizes) ≤ product sizes = rest_few sizes (λ j h. some (suc j) (omega (arith, h))) i in
    let whole : product (n ∷ sizes) ≡ n * product sizes = product_of n sizes in
    let first : 0 < n = some 0 (omega arith) in
    let more : 1 * product sizes ≤ n * product sizes = mul-le-mul_right (product sizes) first in
    omega (arith, rest, whole, more)

-- what the place is so far, where the axes from i on are counted
pub record PlaceFrom (sizes p : List ℕ) (i place : ℕ) : Type 0 where
  pub number : place ≡ sample_number (drop i sizes) (drop i (halves p))
  pub below : place < product (drop i sizes)

pub no_axes : (sizes p : List ℕ) (d : ℕ) → length sizes ≡ d → PlaceFrom sizes p d 0
no_axes sizes p d long =
    let none : drop d sizes ≡ [] = drop_all d sizes (omega (arith, long)) in
    record { number = rw none refl; below = rw none (omega arith) }

pub all_axes : (sizes p : List ℕ) (place : ℕ) → PlaceFrom sizes p 0 place → (place ≡ sample_number sizes (halves p)) × (place < product sizes)
all_axes sizes p place h = (h.number, h.below)

pub record NextPlace (sizes p : List ℕ) (i place : ℕ) : Type 0 where
  pub few : slice_index p i / 2 + slice_index sizes i * place ≤ product sizes
  pub next : PlaceFrom sizes p i (slice_index p i / 2 + slice_index sizes i * place)

pub one_axis_more : (sizes p : List ℕ) (i place : ℕ) → i < length sizes → length p ≡ length sizes
    → ((j : ℕ) → j < length sizes → slice_index p j / 2 < slice_index sizes j) → PlaceFrom sizes p (i + 1) place → NextPlace sizes p i place
one_axis_more sizes p i place h long inside from =
    let half : slice_index (halves p) i ≡ slice_index p i / 2 = get_or-map (λ c. c / 2) p i 0 0 (omega (arith, h, long)) in
    let at : sample_number (drop i sizes) (drop i (halves p))
    ≡ slice_index (halves p) i + slice_index sizes i * sample_number (drop (i + 1) sizes) (drop (i + 1) (halves p)) =
    number_step sizes (halves p) i h (omega (arith, h, long, length-map p (λ c. c / 2))) in
    let some =
    λ (j : ℕ) (k : j < length sizes).
    let here : slice_index p j / 2 < slice_index sizes j = inside j k in zero_below (slice_index p j / 2) (slice_index sizes j) here in
    let below : slice_index p i / 2 + slice_index sizes i * place < product (drop i sizes) =
    rw (product_step sizes i h) (next_below (slice_index p i / 2) (slice_index sizes i) place (product (drop (i + 1) sizes)) (inside i h) from.below) in
    record {
      few = omega (arith, below, rest_few sizes some i);
      next = record {
        number =
            sym
            (at ∙ ap (λ (x : ℕ). x + slice_index sizes i * sample_number (drop (i + 1) sizes) (drop (i + 1) (halves p))) half
            ∙ ap (λ (m : ℕ). slice_index p i / 2 + slice_index sizes i * m) (sym from.number));
        below = below;
      };
    }
  where
    zero_below : (a b : ℕ) → a < b → 0 < b
    zero_below a b q = omega (arith, q)
