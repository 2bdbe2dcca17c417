-- What a complex keeps of a grid: the cubes along each axis, and by how much a cube's number grows along each axis.
use Rattle.std.specs.Prelude.{◌≡◌, ℕ, ◌-◌, ◌^◌, ◌<◌, ◌≤◌, List, length, take, slice_index, All}
use Rattle.iso_model.specs.declared.Kind.{Kind}
use Rattle.iso_model.specs.Splits.{cube_count, cell_count}
use Rattle.iso_model.specs.Values.{product}

-- a complex holds the sizes of a grid of at most 2^27 samples
pub record IsComplex (kind : Kind) (d : ℕ) (sizes spans strides : List ℕ) (count : ℕ) : Type 0 where
  pub long : length sizes ≡ d
  pub some : All (λ n. 1 ≤ n) sizes
  pub few : product sizes ≤ 2 ^ 27
  pub cubes_along : (length spans ≡ d) × ((i : ℕ) → i < d → slice_index spans i ≡ slice_index sizes i - 1)
  pub cubes_before : (length strides ≡ d) × ((i : ℕ) → i < d → slice_index strides i ≡ cube_count (take i sizes))
  pub cells : count ≡ cell_count kind sizes
