-- The rows of a grid by their numbers. The first middle axis is the fastest.
use Rattle.std.specs.Prelude.{ℕ, ◌+◌, ◌*◌, ◌/◌, ◌%◌, ◌≡◌, ◌==◌, List, [], ◌∷◌, ◌++◌}
use Rattle.grid_rows.specs.declared.grids.GridRows.{GridRows}
use Rattle.grid_rows.specs.declared.grids.EdgeRow.{EdgeRow}
use Rattle.grid_rows.specs.declared.grids.CubeRow.{CubeRow}
use Rattle.grid_rows.specs.MiddleAxes.{edge_span}

-- how many rows of samples a slice has, and how many rows of cubes there are between two
abbrev pub sample_rows : GridRows → ℕ
sample_rows rows = rows.second.samples * rows.third.samples

abbrev pub cube_rows : GridRows → ℕ
cube_rows rows = rows.second.cubes * rows.third.cubes

-- how many rows of cubes there are with a border of one row on each side
abbrev pub bordered_rows : GridRows → ℕ
bordered_rows rows = (rows.second.cubes + 2) * (rows.third.cubes + 2)

-- how many rows of edges there are in a slice or between two
abbrev pub edge_rows : GridRows → ℕ
edge_rows rows = edge_span rows.second * edge_span rows.third

-- the number of the row of samples, of edges, of cubes with their border, at i and j along the middle axes
abbrev pub sample_row : GridRows → ℕ → ℕ → ℕ
sample_row rows i j = i + rows.second.samples * j

abbrev pub edge_number : GridRows → ℕ → ℕ → ℕ
edge_number rows i j = i + edge_span rows.second * j

abbrev pub bordered : GridRows → ℕ → ℕ → ℕ
bordered rows i j = i + (rows.second.cubes + 2) * j

-- ---- rows of edges: i and j count half steps from sample to sample

-- the sample at or above a place
abbrev pub upper_half : ℕ → ℕ
upper_half i = (i + 1) / 2

-- the rows of cubes on both sides of i and of j, the first side below and the second above; one row twice where they are between samples
abbrev pub cubes_around : GridRows → ℕ → ℕ → List ℕ
cubes_around rows i j =
    bordered rows (upper_half i) (upper_half j) ∷ bordered rows (i / 2 + 1) (upper_half j)
    ∷ bordered rows (upper_half i) (j / 2 + 1) ∷ bordered rows (i / 2 + 1) (j / 2 + 1) ∷ []

-- the row of edges at i and j joins the samples at or below them with those at or above, goes along the axes where they are odd,
-- and touches the cubes on both sides of them
pub record StandsAt (rows : GridRows) (i j : ℕ) (row : EdgeRow) : Type 0 where
  pub near : row.near ≡ sample_row rows (i / 2) (j / 2)
  pub far : row.far ≡ sample_row rows (upper_half i) (upper_half j)
  pub along : row.along ≡ (i % 2 == 1) ∷ (j % 2 == 1) ∷ []
  pub cubes : row.cubes ≡ cubes_around rows i j

-- the row of edges of this number stands at the places that its number says
abbrev pub IsEdgeRow : GridRows → ℕ → EdgeRow → Type 0
IsEdgeRow rows number row = StandsAt rows (number % edge_span rows.second) (number / edge_span rows.second) row

-- ---- rows of cubes: i and j count whole steps

-- the rows of samples at the corners of the cubes at i and j
abbrev pub corners_around : GridRows → ℕ → ℕ → List ℕ
corners_around rows i j =
    sample_row rows i j ∷ sample_row rows (i + rows.second.step) j
    ∷ sample_row rows i (j + rows.third.step) ∷ sample_row rows (i + rows.second.step) (j + rows.third.step) ∷ []

-- the rows of edges at j, at and between the cubes' corners at i and the next place
abbrev pub three_edges : GridRows → ℕ → ℕ → List ℕ
three_edges rows i j =
    edge_number rows (2 * i) j ∷ edge_number rows (2 * i + rows.second.step) j ∷ edge_number rows (2 * i + 2 * rows.second.step) j ∷ []

-- the rows of edges at and between the corners of the cubes at i and j
abbrev pub edges_around : GridRows → ℕ → ℕ → List ℕ
edges_around rows i j =
    three_edges rows i (2 * j) ++ three_edges rows i (2 * j + rows.third.step) ++ three_edges rows i (2 * j + 2 * rows.third.step)

-- the row of cubes of this number stands at the places that its number says
abbrev pub IsCubeRow : GridRows → ℕ → CubeRow → Type 0
IsCubeRow rows number row =
    let i = number % rows.second.cubes in
    let j = number / rows.second.cubes in
    (row.number ≡ bordered rows (i + 1) (j + 1)) × (row.corners ≡ corners_around rows i j) × (row.edges ≡ edges_around rows i j)
