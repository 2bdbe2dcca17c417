-- Cubes whose corners all have one sign: no edge of their cells is bipolar, and the entries of these cells are empty.
use Rattle.std.specs.Prelude.{ℕ, ◌+◌, ◌<◌, ◌≡◌, ◌⊎◌, ⊤, Bool, false, List, [], ◌∷◌, length}
use Rattle.lists.specs.Members.{In}
use Rattle.iso_model.specs.Bipolar.{is_bipolar}
use Rattle.iso_model.specs.Cells.{edge_count}
use Rattle.iso_model.specs.Splits.{cube_at, cube_count, edge}
use Rattle.iso_model.specs.Tables.{Table, entry_of}
use Rattle.iso_model.specs.Values.{Volume, label_of}
use Rattle.edge_middles.specs.HeldMiddles.{cells_in}
use Rattle.edge_middles.specs.MeshMiddles.{HasBipolarEntry}
use Rattle.edge_middles.specs.WhatIsThere.{is_above_at}

-- a sample is at a corner of the cube at x: along each axis at it, or one further
abbrev pub IsCornerOf : List ℕ → List ℕ → Type 0
IsCornerOf [] [] = ⊤
IsCornerOf [] (k ∷ y) = ⊥
IsCornerOf (c ∷ x) [] = ⊥
IsCornerOf (c ∷ x) (k ∷ y) = ((k ≡ c) ⊎ (k ≡ c + 1)) × IsCornerOf x y

-- the samples at the corners of the cube at x all are at least the isovalue, or all are below it
abbrev pub HasOneSign : Volume → List ℕ → Bool → Type 0
HasOneSign v x above = (y : List ℕ) → IsCornerOf x y → is_above_at v y ≡ above

-- then no edge of the cells of the cube is bipolar
abbrev pub HasNoBipolarEdge : Volume → Type 0
HasNoBipolarEdge v = (cube : ℕ) (above : Bool) → cube < cube_count v.sizes → HasOneSign v (cube_at v.sizes cube) above
    → (cell e : ℕ) → In cell (cells_in v.kind v.sizes cube) → e < edge_count v.kind (length v.sizes) → is_bipolar v (edge v.kind v.sizes cell e) ≡ false

-- and the entries of its cells are empty
abbrev pub HasEmptyEntries : Volume → Table → Type 0
HasEmptyEntries v t = (cube : ℕ) (above : Bool) → cube < cube_count v.sizes → HasOneSign v (cube_at v.sizes cube) above
    → (cell : ℕ) → In cell (cells_in v.kind v.sizes cube) → HasBipolarEntry v t cell → entry_of t (label_of v cell) ≡ []
