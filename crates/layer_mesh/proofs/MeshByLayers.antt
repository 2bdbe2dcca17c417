-- The simplices of a grid, layer by layer: what a layer adds, and that all layers are the whole.
use Rattle.std.proofs.Common.{ap, arith, refl, sym, ◌∙◌}
use Rattle.std.specs.Prelude.{ℕ, ◌+◌, ◌-◌, ◌*◌, ◌<◌, ◌≤◌, ◌≡◌, ◌++◌, Bool, true, false, Contains, List, [], ◌∷◌, flat_map, length, map, slice_index, ℤ, if◌then◌else◌}
use Rattle.lists.specs.Orders.{numbers}
use Rattle.iso_model.specs.Bipolar.{bipolar_edges}
use Rattle.iso_model.specs.Cells.{HasDimension}
use Rattle.iso_model.specs.Placed.{cell_simplices, placed_mesh}
use Rattle.iso_model.specs.Splits.{cube_at, cube_count}
use Rattle.iso_model.specs.Tables.{Table}
use Rattle.iso_model.specs.Values.{Volume, cells}
use Rattle.iso_model.proofs.DimensionLaws.{dimension_cases}
use Rattle.edge_middles.specs.HeldMiddles.{cells_in}
use Rattle.edge_middles.specs.MeshMiddles.{kept_numbers}
use Rattle.edge_middles.proofs.MeshMiddles.{cube_by_cube, flat_map_twice, passed_over}
use Rattle.grid_rows.specs.declared.grids.GridRows.{GridRows}
use Rattle.grid_rows.specs.declared.grids.MiddleAxis.{MiddleAxis}
use Rattle.grid_rows.specs.RowNumbers.{cube_rows}
use Rattle.layer_scan.specs.GridPlanes.{AreRowsOf}
use Rattle.iso_model.proofs.CellCounts.{axes_between}
use Rattle.layer_mesh.specs.LayerCubes.{cube_simplices, cubes_below, layer_simplices, simplices_below}
use Rattle.layer_mesh.proofs.PlacesOfWords.{by_blocks, from_number}

place_same : (b r c s x : ℕ) → x + b * (c + r * s) ≡ b * (r * s) + (b * c + x)
place_same b r c s x = omega arith

next_layer : (b r s : ℕ) → b * (r * s) + b * r ≡ b * (r * (s + 1))
next_layer b r s = omega arith

-- what is below a layer and the layer are what is below the next one
pub layer_joined : (v : Volume) (t : Table) (rows : GridRows) (s : ℕ)
    → simplices_below v t (cubes_below rows s) ++ layer_simplices v t rows s ≡ simplices_below v t (cubes_below rows (s + 1))
layer_joined v t rows s =
    let b : ℕ = rows.length - 1 in
    let r : ℕ = cube_rows rows in
    let all : ℕ → List (List ℕ) = cube_simplices v t in
    let here : ℕ → List (List ℕ) = λ k. cube_simplices v t (b * (r * s) + k) in
    (λ i. flat_map all (numbers (b * (r * s))) ++ flat_map (λ c. flat_map (λ x. all (place_same b r c s x i)) (numbers b)) (numbers r))
    ∙ ap (λ ws. flat_map all (numbers (b * (r * s))) ++ ws) (by_blocks here b r)
    ∙ from_number all (b * (r * s)) (b * r) ∙ ap (λ n. flat_map all (numbers n)) (next_layer b r s)

-- the cubes below the last slice are all
pub all_cubes : (rows : GridRows) (sizes : List ℕ) → 2 ≤ length sizes → length sizes ≤ 4 → AreRowsOf sizes rows
    → cubes_below rows (slice_index sizes (length sizes - 1) - 1) ≡ cube_count sizes
all_cubes rows [] few most is = absurd (omega (arith, few))
all_cubes rows (a ∷ []) few most is = absurd (omega (arith, few))
all_cubes rows (a ∷ b ∷ []) few most is =
    by_counts (ap (λ (m : MiddleAxis). m.cubes) is.second) (ap (λ (m : MiddleAxis). m.cubes) is.third) ∙ turned
  where
    by_counts : rows.second.cubes ≡ 1 → rows.third.cubes ≡ 1 → (rows.length - 1) * (rows.second.cubes * rows.third.cubes * (b - 1)) ≡ (a - 1) * (1 * 1 * (b - 1))
    by_counts e f = (λ i. (is.first i - 1) * (e i * f i * (b - 1)))

    turned : (a - 1) * (1 * 1 * (b - 1)) ≡ (a - 1) * ((b - 1) * 1)
    turned = omega arith
all_cubes rows (a ∷ b ∷ c ∷ []) few most is =
    by_counts (ap (λ (m : MiddleAxis). m.cubes) is.second) (ap (λ (m : MiddleAxis). m.cubes) is.third) ∙ turned (a - 1) (b - 1) (c - 1)
  where
    by_counts : rows.second.cubes ≡ b - 1 → rows.third.cubes ≡ 1
        → (rows.length - 1) * (rows.second.cubes * rows.third.cubes * (c - 1)) ≡ (a - 1) * ((b - 1) * 1 * (c - 1))
    by_counts e f = (λ i. (is.first i - 1) * (e i * f i * (c - 1)))

    turned : (p q r : ℕ) → p * (q * 1 * r) ≡ p * (q * (r * 1))
    turned p q r = omega arith
all_cubes rows (a ∷ b ∷ c ∷ d ∷ []) few most is =
    by_counts (ap (λ (m : MiddleAxis). m.cubes) is.second) (ap (λ (m : MiddleAxis). m.cubes) is.third) ∙ turned (a - 1) (b - 1) (c - 1) (d - 1)
  where
    by_counts : rows.second.cubes ≡ b - 1 → rows.third.cubes ≡ c - 1
        → (rows.length - 1) * (rows.second.cubes * rows.third.cubes * (d - 1)) ≡ (a - 1) * ((b - 1) * (c - 1) * (d - 1))
    by_counts e f = (λ i. (is.first i - 1) * (e i * f i * (d - 1)))

    turned : (p q r s : ℕ) → p * (q * r * s) ≡ p * (q * (r * (s * 1)))
    turned p q r s = omega arith
all_cubes rows (a ∷ b ∷ c ∷ d ∷ e ∷ more) few most is = absurd (omega (arith, most))

pub all_simplices : (v : Volume) (t : Table) (rows : GridRows) → HasDimension v.kind (length v.sizes) → AreRowsOf v.sizes rows
    → simplices_below v t (cubes_below rows (slice_index v.sizes (length v.sizes - 1) - 1)) ≡ (placed_mesh v t).simplices
unfolding placed_mesh
all_simplices v t rows fits is =
    let within = axes_between (length v.sizes) (dimension_cases v.kind (length v.sizes) fits) in
    let cell : ℕ → List (List ℕ) = cell_simplices v t (bipolar_edges v) in
    let cube : ℕ → List (List ℕ) = λ n. flat_map cell (cells_in v.kind v.sizes n) in
    let kept : ℕ → Bool = λ n. v.kept (cube_at v.sizes n) in
    ap (simplices_below v t) (all_cubes rows v.sizes within.0 within.1 is)
    ∙ passed_over (cube_simplices v t) cube kept (numbers (cube_count v.sizes))
    (λ n c passes. ap (λ (b : Bool). if b then cube n else []) passes) (λ n c fails. ap (λ (b : Bool). if b then cube n else []) fails)
    ∙ sym (flat_map_twice cell (cells_in v.kind v.sizes) (kept_numbers v)) ∙ ap (flat_map cell) (sym (cube_by_cube v))
