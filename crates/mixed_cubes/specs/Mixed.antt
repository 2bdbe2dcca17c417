-- The cubes of a grid that have a sample at or above the isovalue and one below it.
use Rattle.std.specs.Prelude.{◌≡◌, ℕ, ◌+◌, ◌/◌, ◌⊎◌, Bool, false, not, ◌&&◌, None, List, length, ℤ, int_le}
use Rattle.std.specs.List.{list_any}
use Rattle.iso_model.specs.declared.Kind.{Kind}
use Rattle.iso_model.specs.Cells.{HasDimension, label_count}
use Rattle.iso_model.specs.Splits.{cells_per_cube, cube_at}
use Rattle.iso_model.specs.Values.{Grid, volume, cube_samples, label_of}

-- samples are mixed where one of them is at least the isovalue and one is below it
abbrev pub are_mixed : ℤ → List ℤ → Bool
are_mixed iso samples = list_any (λ s. int_le iso s) samples && list_any (λ s. not (int_le iso s)) samples

-- the cube of this number is mixed where the samples at its corners are
abbrev pub is_mixed : Grid → ℤ → ℕ → Bool
is_mixed g iso c = are_mixed iso (cube_samples g.sizes g.samples (cube_at g.sizes c))

-- a cell of a cube that is not mixed has one sign at all its corners: its label is 0, or the greatest
abbrev pub HasPlainLabel : Kind → Grid → ℤ → ℕ → Type 0
HasPlainLabel kind g iso cell =
    let label = label_of (volume kind g iso None) cell in
    HasDimension kind (length g.sizes) → is_mixed g iso (cell / cells_per_cube kind (length g.sizes)) ≡ false
    → (label ≡ 0) ⊎ (label + 1 ≡ label_count kind (length g.sizes))
