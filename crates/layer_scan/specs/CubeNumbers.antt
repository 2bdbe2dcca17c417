-- The numbers of the edges of a cube, by places for the midpoints that the edges of a cube can have.
use Rattle.std.specs.Prelude.{ℕ, ◌+◌, ◌-◌, ◌*◌, ◌/◌, ◌%◌, ◌<◌, ◌≤◌, ◌^◌, ◌≡◌, List, [], ◌∷◌, All, drop, length, nat_lt, slice_index}
use Rattle.std.specs.Prelude.{slice_index_or, if◌then◌else◌}
use Rattle.std.specs.Int.{bit_at}
use Rattle.iso_model.specs.declared.Kind.TheVariants.{Pyramid}
use Rattle.iso_model.specs.Cells.{HasDimension, edge_count}
use Rattle.iso_model.specs.Splits.{cells_per_cube, edge, midpoint}
use Rattle.iso_model.specs.Values.{Volume, product}
use Rattle.bit_rows.specs.Rows.{set_below}
use Rattle.edge_middles.specs.GridMiddles.{count_before}
use Rattle.edge_middles.specs.HeldMiddles.{middle_from}
use Rattle.edge_middles.specs.Middles.{joins_samples}
use Rattle.edge_middles.specs.RowLists.{row_at}
use Rattle.grid_rows.specs.declared.grids.GridRows.{GridRows}
use Rattle.grid_rows.specs.declared.planes.EdgePlane.{EdgePlane}
use Rattle.grid_rows.specs.declared.planes.EdgeWord.{EdgeWord}
use Rattle.grid_rows.specs.Planes.{edge_row, no_edge}
use Rattle.grid_rows.specs.RowNumbers.{cube_rows, edges_around}
use Rattle.layer_scan.specs.declared.cubes.CubeSlots.{CubeSlots}
use Rattle.layer_scan.specs.declared.edges.LayerEdges.{LayerEdges}
use Rattle.layer_scan.specs.GridEdges.{TellsWord}
use Rattle.layer_scan.specs.GridPlanes.{AreRowsOf}
use Rattle.layer_scan.specs.GridStates.{slice_count}

-- ---- the places of a cube's edges

-- the number whose digits, the lowest first, are the half steps of a midpoint along the axes
abbrev pub digits : ℕ → List ℕ → ℕ
digits base [] = 0
digits base (c ∷ middle) = c / 2 + base * digits base middle

-- the place of a midpoint, in quarter-units from the first corner of its cube: where it joins samples it is 0, 1 or 2 half steps from there along
-- each axis, and else 0 or 1 of them and a quarter, and these places come after those in three dimensions
abbrev pub place_of : List ℕ → ℕ
place_of middle = if joins_samples middle then digits 3 middle else 27 + digits 2 middle

-- ---- the numbers of a word's edges

-- how many edges come before a place of a word, and before the next ones in its row: the first edge at the place, the second, and the first at the
-- next place
abbrev pub ranked : EdgeWord → ℕ → ℕ → ℕ
ranked word place step =
    word.before + (set_below word.first place + set_below word.second place) + (if nat_lt 0 step then bit_at word.first place else 0)
    + (if nat_lt 1 step then bit_at word.second place else 0)

-- so many numbers for each of these words, from a place of an array on
abbrev pub HaveRanks : List ℕ → ℕ → ℕ → List EdgeWord → ℕ → ℕ → Type 0
HaveRanks numbers first each words count place =
    (k step : ℕ) → k < count → step < each → slice_index numbers (first + each * k + step) ≡ ranked (slice_index_or words k no_edge) place step

-- numbers below a place of an array stay
abbrev pub KeepsBelow : ℕ → List ℕ → List ℕ → Type 0
KeepsBelow first old new = (length new ≡ length old) × ((n : ℕ) → n < first → slice_index new n ≡ slice_index old n)

-- no more edges come before a word than a grid has
abbrev pub HasFewBefore : EdgeWord → Type 0
HasFewBefore word = word.before ≤ 2 ^ 31

-- nor before the first ones of these words
abbrev pub HaveFewBefore : ℕ → List EdgeWord → Type 0
HaveFewBefore count words = (k : ℕ) → k < count → HasFewBefore (slice_index_or words k no_edge)

-- ---- the words around a row of cubes

-- the rows of edges that row c of cubes touches
abbrev pub edges_of : GridRows → ℕ → List ℕ
edges_of rows c = edges_around rows (c % rows.second.cubes) (c / rows.second.cubes)

-- word w of each of these rows of a plane
abbrev pub AreWordsOf : EdgePlane → List ℕ → ℕ → List EdgeWord → Type 0
AreWordsOf plane rows w words = (k : ℕ) → k < length rows → slice_index_or words k no_edge ≡ slice_index_or (edge_row plane (slice_index rows k)) w no_edge

-- how many of those rows differ: along each middle axis that the grid has there are three
abbrev pub sides_of : GridRows → ℕ
sides_of rows = (2 * rows.second.step + 1) * (2 * rows.third.step + 1)

-- the words of the rows of edges that row c of cubes touches, of which pyramids have those to centres besides
pub record AreSlotsOf (edges : LayerEdges) (rows : GridRows) (c w : ℕ) (slots : CubeSlots) : Type 0 where
  pub sides : slots.side ≡ sides_of rows
  pub kind : slots.kind ≡ edges.kind
  pub below : AreWordsOf edges.below (edges_of rows c) w slots.below
  pub upright : AreWordsOf edges.upright (edges_of rows c) w slots.upright
  pub lower : AreWordsOf edges.lower (edges_of rows c) w slots.lower
  pub to_lower : edges.kind ≡ Pyramid → AreWordsOf edges.to_lower (2 * c ∷ (2 * c + 1) ∷ []) w slots.centres
  pub to_upper : edges.kind ≡ Pyramid → AreWordsOf edges.to_upper (2 * c ∷ (2 * c + 1) ∷ []) w (drop 2 slots.centres)

-- ---- in a grid

-- words tell of the edges in the rows around row c of cubes at a height
abbrev pub TellsAround : Volume → GridRows → ℕ → ℕ → ℕ → List EdgeWord → Type 0
TellsAround v rows height c w words = (k : ℕ) → k < 9
    → TellsWord v (λ x. 4 * x) (λ x. 4 * x + 2) (row_at (drop 1 v.sizes) height (slice_index (edges_of rows c) k)) w (slice_index_or words k no_edge)

-- the words tell of all edges of the cubes of word w of row c of layer s
pub record TellsSlots (v : Volume) (rows : GridRows) (s c w : ℕ) (slots : CubeSlots) : Type 0 where
  pub fits : HasDimension v.kind (length v.sizes)
  pub stand : AreRowsOf v.sizes rows
  pub few : product v.sizes ≤ 2 ^ 27
  pub inside : c < cube_rows rows
  pub layer_there : s + 1 < slice_count v
  pub kind : slots.kind ≡ v.kind
  pub sides : slots.side ≡ sides_of rows
  pub below : TellsAround v rows (4 * s) c w slots.below
  pub upright : TellsAround v rows (4 * s + 2) c w slots.upright
  pub lower : TellsAround v rows (4 * (s + 1)) c w slots.lower
  pub centres : v.kind ≡ Pyramid → (k : ℕ) → k < 4
      → TellsWord v (λ x. 4 * x + 1) (λ x. 4 * x + 3) ((2 * (2 * c + k % 2) + 1) ∷ (4 * s + 1 + 2 * (k / 2)) ∷ []) w (slice_index_or slots.centres k no_edge)

-- the number of the cube at x of row c of layer s
abbrev pub cube_number : GridRows → ℕ → ℕ → ℕ → ℕ
cube_number rows s c x = x + (rows.length - 1) * (c + cube_rows rows * s)

-- at the place of its midpoint each edge of each cell of the cube of this number has the number of midpoints before its own
abbrev pub CountsCubeEdges : Volume → ℕ → List ℕ → Type 0
CountsCubeEdges v cube numbers = (rank e : ℕ) → rank < cells_per_cube v.kind (length v.sizes) → e < edge_count v.kind (length v.sizes)
    → slice_index numbers (place_of (middle_from v.kind (length v.sizes) rank e))
    ≡ count_before v (midpoint (edge v.kind v.sizes (cube * cells_per_cube v.kind (length v.sizes) + rank) e))
