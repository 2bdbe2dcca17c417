-- The midpoints that are there, height by height, row by row and place by place, in the order in which a scan meets them.
use Rattle.std.specs.Prelude.{ℕ, ◌*◌, ◌+◌, ◌-◌, ◌/◌, ◌%◌, ◌≤◌, ◌≡◌, ◌≢◌, List, [], ◌∷◌, ◌++◌, drop, flat_map, length, slice_index, if◌then◌else◌}
use Rattle.lists.specs.Orders.{numbers}
use Rattle.iso_model.specs.declared.Kind.TheVariants.{Pyramid}
use Rattle.iso_model.specs.Values.{Volume}
use Rattle.edge_middles.specs.GridMiddles.{is_there, middles_there}
use Rattle.edge_middles.specs.MeshMiddles.{middles_between}

-- the midpoint, where an edge is there
abbrev pub one_there : Volume → List ℕ → List (List ℕ)
one_there v middle = if is_there v middle then middle ∷ [] else []

-- the midpoints there of a row that has two points at each place along axis 0
abbrev pub row_there : Volume → (ℕ → ℕ) → (ℕ → ℕ) → List ℕ → List (List ℕ)
row_there v first second rest = flat_map (λ x. one_there v (first x ∷ rest) ++ one_there v (second x ∷ rest)) (numbers (slice_index v.sizes 0))

-- of a row at samples and between them
abbrev pub sample_row : Volume → List ℕ → List (List ℕ)
sample_row v rest = row_there v (λ x. 4 * x) (λ x. 4 * x + 2) rest

-- of a row of edges to centres
abbrev pub centre_row : Volume → List ℕ → List (List ℕ)
centre_row v rest = row_there v (λ x. 4 * x + 1) (λ x. 4 * x + 3) rest

-- the row of this number at a height, in a grid of these sizes along the axes after the first: along the middle axes it stands at half steps,
-- the first of them the fastest
abbrev pub row_at : List ℕ → ℕ → ℕ → List ℕ
row_at [] height number = []
row_at (n ∷ []) height number = height ∷ []
row_at (n ∷ m ∷ sizes) height number = 2 * (number % (2 * n - 1)) ∷ row_at (m ∷ sizes) height (number / (2 * n - 1))

-- how many such rows there are
abbrev pub rows_at : List ℕ → ℕ
rows_at [] = 1
rows_at (n ∷ []) = 1
rows_at (n ∷ m ∷ sizes) = (2 * n - 1) * rows_at (m ∷ sizes)

-- at an even height, in a slice or half way between two, there are the midpoints of its rows, row by row
abbrev pub GoRowByRow : Volume → ℕ → Type 0
GoRowByRow v height = height % 2 ≡ 0 → middles_between v height (height + 1)
    ≡ flat_map (λ number. sample_row v (row_at (drop 1 v.sizes) height number)) (numbers (rows_at (drop 1 v.sizes)))

-- at an odd height there are edges to centres alone, in two rows for each row of cubes
abbrev pub GoByCentres : Volume → ℕ → Type 0
GoByCentres v height = v.kind ≡ Pyramid → height % 2 ≡ 1 → middles_between v height (height + 1)
    ≡ flat_map (λ number. centre_row v ((2 * number + 1) ∷ height ∷ [])) (numbers (2 * (slice_index v.sizes 1 - 1)))

-- and in the other splits none
abbrev pub HasNoneAtOdd : Volume → ℕ → Type 0
HasNoneAtOdd v height = v.kind ≢ Pyramid → height % 2 ≡ 1 → middles_between v height (height + 1) ≡ []

-- the midpoints between two heights are those up to a height between them and those from it on
abbrev pub JoinsHeights : Volume → Type 0
JoinsHeights v = (low middle high : ℕ) → low ≤ middle → middle ≤ high
    → middles_between v low high ≡ middles_between v low middle ++ middles_between v middle high

-- all lie between the first slice and the last
abbrev pub HasAllBetween : Volume → Type 0
HasAllBetween v = (high : ℕ) → 4 * slice_index v.sizes (length v.sizes - 1) ≤ high + 3 → middles_between v 0 high ≡ middles_there v
