-- Steps from one cube of a grid to the next.
use Rattle.std.specs.Prelude.{◌≡◌, ℕ, suc, ◌+◌, ◌-◌, ◌<◌, ◌⊎◌, ℤ, pos, negsuc, ◌+ℤ◌, List, slice_index, slice_index_or}
use Rattle.iso_model.specs.Splits.{cube_count, cube_at}

-- one down, none, or one up
abbrev pub IsStep : ℤ → Type 0
IsStep s = (s ≡ negsuc 0) ⊎ ((s ≡ pos 0) ⊎ (s ≡ pos 1))

-- the place after a step
abbrev pub stepped : ℕ → ℤ → ℕ
stepped x (pos n) = x + n
stepped x (negsuc n) = x - suc n

-- the step leads below the first cube of an axis with this many samples, or past its last cube
abbrev pub LeavesAxis : ℕ → ℕ → ℤ → Type 0
LeavesAxis size x s = ((s ≡ negsuc 0) × (x ≡ 0)) ⊎ ((s ≡ pos 1) × (x + 2 ≡ size))

-- in some axis the shift leads out of the grid
abbrev pub LeavesCubes : ℕ → List ℕ → List ℕ → List ℤ → Type 0
LeavesCubes d sizes cube shift = (i : ℕ) × (i < d) × LeavesAxis (slice_index sizes i) (slice_index cube i) (slice_index_or shift i (pos 0))

-- the cube of this number stands where the shift leads
pub record IsShiftedCube (d : ℕ) (sizes cube : List ℕ) (shift : List ℤ) (number : ℕ) : Type 0 where
  pub below : number < cube_count sizes
  pub places : (i : ℕ) → i < d → pos (slice_index (cube_at sizes number) i) ≡ pos (slice_index cube i) +ℤ slice_index_or shift i (pos 0)
