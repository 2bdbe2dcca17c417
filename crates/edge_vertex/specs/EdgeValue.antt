-- An edge as contracts see it, and the edges of a cell that are bipolar.
use Rattle.std.specs.Prelude.{◌≡◌, ℕ, ◌+◌, ◌*◌, ◌<◌, ◌⊎◌, ◌↔◌, true, None, Option, List, length, map, reverse, slice_index_or, Contains, ℤ, Result}
use Rattle.std.specs.Prelude.{OnOk, MatchOption}
use Rattle.grid_split.specs.declared.split.Edge.{Edge}
use Rattle.iso_model.specs.declared.Kind.{Kind}
use Rattle.iso_model.specs.Points.{plus}
use Rattle.iso_model.specs.Splits as Splits
use Rattle.iso_model.specs.Bipolar.{is_bipolar_in, place_in}
use Rattle.iso_model.specs.Values.{Grid, Volume, volume, label_of}
use Rattle.cube_cells.specs.declared.cubes.SignedCube.{SignedCube}
use Rattle.cube_cells.specs.SignedCubes.{WhereRead}

-- the two ends
abbrev pub edge_of : {D : ℕ} → Edge D → Splits.Edge
edge_of e = record { low = e.low; high = e.high }

-- the edges of a list
abbrev pub edges_of : {D : ℕ} → List (Edge D) → List Splits.Edge
edges_of edges = map edge_of edges

-- the sum of the two ends, last coordinate first
abbrev pub order_of : {D : ℕ} → Edge D → List ℕ
order_of e = reverse (plus e.low e.high)

-- an edge of a cell, by its number, where it is bipolar in the label
abbrev pub IsBipolarAt : Kind → List ℕ → ℕ → ℕ → ℕ → Splits.Edge → Type 0
IsBipolarAt kind sizes cell label k e = (is_bipolar_in kind (length sizes) label k ≡ true) × (Splits.edge kind sizes cell k ≡ e)

-- an edge of a cell that is bipolar in the label, among those whose numbers are below n
abbrev pub IsBipolarOf : Kind → List ℕ → ℕ → ℕ → ℕ → Splits.Edge → Type 0
IsBipolarOf kind sizes cell label n e = (k : ℕ) × (k < n) × IsBipolarAt kind sizes cell label k e

-- an edge that is bipolar in a cell below this one, among those whose numbers are below n
abbrev pub IsBipolarEdge : Volume → ℕ → ℕ → Splits.Edge → Type 0
IsBipolarEdge v n cells e = (cell : ℕ) × (cell < cells) × IsBipolarOf v.kind v.sizes cell (label_of v cell) n e

-- an edge that is bipolar in one of this many cells from the first one on, among those whose numbers are below n
abbrev pub IsBipolarFrom : Volume → ℕ → ℕ → ℕ → Splits.Edge → Type 0
IsBipolarFrom v n first count e = (rank : ℕ) × (rank < count) × IsBipolarOf v.kind v.sizes (first + rank) (label_of v (first + rank)) n e

-- the members of the one list are those of the other and the edges of which P holds
abbrev pub Adds : (Splits.Edge → Type 0) → List Splits.Edge → List Splits.Edge → Type 0
Adds P old new = (e : Splits.Edge) → Contains new e ↔ (Contains old e ⊎ P e)

-- the edges of the list are those that are bipolar in a cell of the volume, among those whose numbers are below n
abbrev pub AreBipolarEdges : Volume → ℕ → List Splits.Edge → Type 0
AreBipolarEdges v n edges = (e : Splits.Edge) → Contains edges e ↔ IsBipolarEdge v n (Splits.cell_count v.kind v.sizes) e

-- ---- the cells of a cube that was read, each cube with this many cells

-- edge k of the cell of this rank, where it is bipolar in the label
abbrev pub IsBipolarThere : Kind → ℕ → ℕ → ℕ → ℕ → Grid → ℤ → ℕ → Splits.Edge → Type 0
IsBipolarThere kind per rank label k g iso number e = IsBipolarAt kind g.sizes (number * per + rank) label k e

-- an edge of the cell of this rank that is bipolar in the label, among those whose numbers are below n
abbrev pub IsBipolarOfCell : Kind → ℕ → ℕ → ℕ → ℕ → Grid → ℤ → ℕ → Splits.Edge → Type 0
IsBipolarOfCell kind per rank label n g iso number e = IsBipolarOf kind g.sizes (number * per + rank) label n e

-- an edge that is bipolar in a cell of the cube, among those whose numbers are below n
abbrev pub IsBipolarOfCube : Kind → ℕ → ℕ → Grid → ℤ → ℕ → Splits.Edge → Type 0
IsBipolarOfCube kind per n g iso number e = IsBipolarFrom (volume kind g iso None) n (number * per) per e

-- where a call on a cube that was read is `Ok`, it has added the edges of which P holds there
abbrev pub AddsRead : {D : ℕ} {T E : Type 0} → SignedCube D → Result T E → (Grid → ℤ → ℕ → Splits.Edge → Type 0) → List (Edge D) → List (Edge D) → Type 0
AddsRead cube call P old new = WhereRead cube (λ g iso number. OnOk call (Adds (P g iso number) (edges_of old) (edges_of new)))

-- it has added the edges of the cell of this rank that are bipolar in the label, among those whose numbers are below n
abbrev pub AddsOfCell : {D : ℕ} {T E : Type 0} → SignedCube D → Result T E → Kind → ℕ → ℕ → ℕ → ℕ → List (Edge D) → List (Edge D) → Type 0
AddsOfCell cube call kind per rank label n old new = AddsRead cube call (IsBipolarOfCell kind per rank label n) old new

-- it has added edge k of the cell of this rank, where the edge is bipolar in the label
abbrev pub AddsIfBipolar : {D : ℕ} {T E : Type 0} → SignedCube D → Result T E → Kind → ℕ → ℕ → ℕ → ℕ → List (Edge D) → List (Edge D) → Type 0
AddsIfBipolar cube call kind per rank label k old new = AddsRead cube call (IsBipolarThere kind per rank label k) old new

-- ---- places

-- the place of an edge in a list, or that the edge is not there
abbrev pub TellsPlace : List Splits.Edge → Splits.Edge → Option ℕ → Type 0
TellsPlace edges e answer = MatchOption answer (place_in edges e ≡ length edges) (λ k. (k ≡ place_in edges e) × (k < length edges))

-- no edge stands twice
abbrev pub StandApart : {D : ℕ} → List (Edge D) → Type 0
StandApart {D = D} edges = (i j : ℕ) (d : Edge D) → i < j → j < length edges → slice_index_or edges i d ≡ slice_index_or edges j d → ⊥
