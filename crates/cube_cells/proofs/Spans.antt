-- The sizes of a grid by its numbers of cubes.
use Rattle.std.proofs.Common.{◌≡◌, ℕ, ◌+◌, ◌-◌, ◌<◌, ◌≤◌, List, length, ◌∙◌, arith}
use Rattle.std.specs.Prelude.{All, slice_index}
use Rattle.std.proofs.lemmas.List.{get_or-map, length-map}
use Rattle.split_laws.proofs.Coordinates.{lists_same}
use Rattle.cube_cells.specs.CubePoints.{sizes_of}

pub length-sizes_of : (spans : List ℕ) → length (sizes_of spans) ≡ length spans
length-sizes_of spans = length-map spans (λ n. n + 1)

size_at : (spans : List ℕ) (i : ℕ) → i < length spans → slice_index (sizes_of spans) i ≡ slice_index spans i + 1
size_at spans i h = get_or-map (λ n. n + 1) spans i 0 0 h

pub span_at : (spans : List ℕ) (i : ℕ) → i < length spans → slice_index spans i ≡ slice_index (sizes_of spans) i - 1
span_at spans i h = omega (arith, size_at spans i h)

-- where each size is at least 1, the numbers of cubes tell the sizes
pub sizes_are : (sizes spans : List ℕ) → length spans ≡ length sizes → All (λ n. 1 ≤ n) sizes
    → ((i : ℕ) → i < length sizes → slice_index spans i ≡ slice_index sizes i - 1) → sizes_of spans ≡ sizes
sizes_are sizes spans long some at =
    lists_same (sizes_of spans) sizes (length-sizes_of spans ∙ long) (λ i h.
    let inside : i < length sizes = omega (arith, h, length-sizes_of spans, long) in
    let least : 1 ≤ slice_index sizes i = some i 0 inside in
    omega (arith, size_at spans i (omega (arith, inside, long)), at i inside, least))
