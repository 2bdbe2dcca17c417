-- Where the neighbour across a facet stands, and where a facet has none.
use Rattle.std.specs.Prelude.{◌≡◌, ℕ, ◌+◌, ◌<◌, ◌⊎◌, ℤ, pos, negsuc, ◌+ℤ◌, slice_index, slice_index_or, length, List}
use Rattle.iso_model.specs.declared.Kind.{Kind}
use Rattle.iso_model.specs.Splits.{cell_count, cube_of, rank_of}
use Rattle.iso_model.specs.Neighbours.{IsAcross, shift_across}

-- the shift of the cube across a facet of a cell, in axis i
abbrev pub shift_at : Kind → List ℕ → ℕ → ℕ → ℕ → ℤ
shift_at kind sizes cell f i = slice_index_or (shift_across kind (length sizes) (rank_of kind sizes cell) f) i (pos 0)

-- the other cell stands in the shifted cube, and its rank is the one across
pub record StandsAcross (kind : Kind) (sizes : List ℕ) (cell f other : ℕ) : Type 0 where
  pub is_cell : other < cell_count kind sizes
  pub cube : (i : ℕ) → i < length sizes
      → pos (slice_index (cube_of kind sizes other) i) ≡ pos (slice_index (cube_of kind sizes cell) i) +ℤ shift_at kind sizes cell f i
  pub facet : (g : ℕ) × IsAcross kind (length sizes) (rank_of kind sizes cell) f (rank_of kind sizes other) g

-- in some axis the shift leads out of the grid: below its first cube, or past its last
abbrev pub LeavesGrid : Kind → List ℕ → ℕ → ℕ → Type 0
LeavesGrid kind sizes cell f = (i : ℕ) × (i < length sizes) ×
    (((shift_at kind sizes cell f i ≡ negsuc 0) × (slice_index (cube_of kind sizes cell) i ≡ 0))
    ⊎ ((shift_at kind sizes cell f i ≡ pos 1) × (slice_index (cube_of kind sizes cell) i + 2 ≡ slice_index sizes i)))
