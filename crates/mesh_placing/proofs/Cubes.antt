-- The cells of the mixed cubes have all simplices: the entries of the other cells are empty.
use Rattle.std.proofs.Common.{◌≡◌, ℕ, ◌+◌, ◌*◌, ◌-◌, ◌/◌, ◌%◌, ◌<◌, ◌≤◌, false, List, [], length, None, ℤ, sym, ap, ◌∙◌, arith}
use Rattle.std.specs.Prelude.{flat_map, filter, Contains}
use Rattle.std.specs.List.{range_with_len}
use Rattle.std.proofs.Math.Nat.{mul-le-mul_right}
use Rattle.std.proofs.lemmas.Nat.{div-mul-add, mod-mul-add}
use Rattle.std.proofs.lemmas.List.FromFn.{length-range_with_len, get_or-range_with_len}
use Rattle.iso_model.specs.declared.Kind.{Kind}
use Rattle.lists.specs.Orders.{numbers}
use Rattle.iso_model.specs.Splits.{Edge, cells_per_cube, cell_count, cube_count, is_odd_cell, is_odd_rank}
use Rattle.iso_model.specs.Values.{Grid, Volume, volume, cells, label_of}
use Rattle.iso_model.specs.Tables.{Table, entry_of}
use Rattle.iso_model.specs.Placed.{cell_simplices}
use Rattle.mixed_cubes.specs.Mixed.{is_mixed}
use Rattle.mixed_cubes.proofs.OneSign.{has_plain_label}
use Rattle.mesh_placing.specs.Placing.{FitsGrid, cube_cells, placed_tuples}
use Rattle.mesh_placing.proofs.FilledLists.{flat_map-numbers_times, flat_map-empty, flat_map-filter}
use Rattle.mesh_placing.proofs.Shapes.{cells-all, has, labelled, entry_sound}
use Rattle.mesh_placing.proofs.PlacedTuples.{plain_entry}

-- numbers that follow on one another
contained_in_range : (a n x : ℕ) → Contains (range_with_len a n) x → (a ≤ x) × (x < a + n)
contained_in_range a n x c =
    let inside : c.0 < n = omega (arith, c.1, length-range_with_len a n) in
    let at : a + c.0 ≡ x = sym (get_or-range_with_len a n c.0 x inside) ∙ c.2 in
    (omega (arith, at), omega (arith, at, inside))

-- a cell of a cube is in that cube
cube_of_cell : (kind : Kind) (d cube cell : ℕ) → Contains (cube_cells kind d cube) cell → cell / cells_per_cube kind d ≡ cube
cube_of_cell kind d cube cell c =
    let m : ℕ = cells_per_cube kind d in
    let at = contained_in_range (cube * m) m cell c in
    let rank : ℕ = cell - cube * m in
    let below : rank < m = omega (arith, at.0, at.1) in
    let is : cube * m + rank ≡ cell = omega (arith, at.0) in
    ap (λ (n : ℕ). n / m) (sym is) ∙ div-mul-add cube m rank below

-- the cells of a cube of a grid are cells of the grid
pub cube_inside : (kind : Kind) (sizes : List ℕ) (cube : ℕ) → cube < cube_count sizes
    → cube * cells_per_cube kind (length sizes) + cells_per_cube kind (length sizes) ≤ cell_count kind sizes
cube_inside kind sizes cube h =
    let m : ℕ = cells_per_cube kind (length sizes) in
    let whole : (cube + 1) * m ≤ cube_count sizes * m = mul-le-mul_right m (omega (arith, h)) in
    omega (arith, whole)

-- the cell of this rank in a cube has the parity of the rank
pub odd_in_cube : (kind : Kind) (d : ℕ) (sizes : List ℕ) (number per rank : ℕ) → length sizes ≡ d → per ≡ cells_per_cube kind d → rank < per
    → is_odd_cell kind sizes (number * per + rank) ≡ is_odd_rank kind d rank
odd_in_cube kind d sizes number per rank axes counted h =
    let here : per ≡ cells_per_cube kind (length sizes) = counted ∙ ap (cells_per_cube kind) (sym axes) in
    let rank_is : (number * per + rank) % cells_per_cube kind (length sizes) ≡ rank =
    ap (λ (n : ℕ). (number * per + rank) % n) (sym here) ∙ mod-mul-add number per rank h in
    ap (is_odd_rank kind (length sizes)) rank_is ∙ ap (λ (n : ℕ). is_odd_rank kind n rank) axes

-- a cell of a cube that is not mixed has no simplices
plain_cell : (kind : Kind) (g : Grid) (iso : ℤ) (t : Table) (edges : List Edge) (cell : ℕ) → FitsGrid kind g t
    → is_mixed g iso (cell / cells_per_cube kind (length g.sizes)) ≡ false → cell_simplices (volume kind g iso None) t edges cell ≡ []
plain_cell kind g iso t edges cell fits plain =
    let v : Volume = volume kind g iso None in
    let label : ℕ = label_of v cell in
    let below = labelled kind g iso t fits cell in
    let none : entry_of t label ≡ [] =
    plain_entry kind (length g.sizes) label (entry_of t label) (has kind g iso t fits) (fits.keeps_edges label below)
    (entry_sound kind g iso t fits label below) (has_plain_label kind g iso cell (has kind g iso t fits) plain) in
    ap (placed_tuples kind g.sizes edges cell) none

-- the simplices of the cells of the mixed cubes are those of all cells
pub mixed_simplices : (kind : Kind) (g : Grid) (iso : ℤ) (t : Table) (edges : List Edge) → FitsGrid kind g t
    → flat_map (λ cube. flat_map (cell_simplices (volume kind g iso None) t edges) (cube_cells kind (length g.sizes) cube))
    (filter (is_mixed g iso) (numbers (cube_count g.sizes)))
    ≡ flat_map (cell_simplices (volume kind g iso None) t edges) (cells (volume kind g iso None))
mixed_simplices kind g iso t edges fits =
    let f : ℕ → List (List ℕ) = cell_simplices (volume kind g iso None) t edges in
    let m : ℕ = cells_per_cube kind (length g.sizes) in
    flat_map-filter (λ cube. flat_map f (cube_cells kind (length g.sizes) cube)) (is_mixed g iso) (numbers (cube_count g.sizes))
    (λ cube c plain.
    flat_map-empty f (cube_cells kind (length g.sizes) cube)
    (λ cell i. plain_cell kind g iso t edges cell fits (ap (is_mixed g iso) (cube_of_cell kind (length g.sizes) cube cell i) ∙ plain)))
    ∙ flat_map-numbers_times f (cube_count g.sizes) m
    ∙ ap (flat_map f) (sym (cells-all kind g iso))
