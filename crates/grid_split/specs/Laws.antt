-- The laws of a split: what holds of the cells of one cube, and of the cells of a grid of any sizes.
use Rattle.std.specs.Prelude.{◌≡◌, ◌<◌, ◌↔◌, ℕ, List, length}
use Rattle.iso_model.specs.declared.Kind.{Kind}
use Rattle.iso_model.specs.Cells.{facet_count}
use Rattle.iso_model.specs.Splits.{cells_per_cube, cell_count, Edge}
use Rattle.iso_model.specs.Neighbours.{facet_points, IsAcross, IsNeighbour, OnOuterBoundary, ShareLaw}
use Rattle.iso_model.specs.SplitLaws.{AcrossLeadsBack, AreJoined, KeepsTurns}
use Rattle.split_laws.specs.RoundEdges.{HasRing, IsEdge}
use Rattle.split_laws.specs.Standing.{StandsAcross, LeavesGrid}

-- across each facet of each cell there is a way back
abbrev pub LeadsBack : Kind → ℕ → Type 0
LeadsBack kind d = (rank f other g : ℕ) → rank < cells_per_cube kind d → f < facet_count kind d → AcrossLeadsBack kind d rank f other g

-- across each facet stands one facet of one cell
abbrev pub HasOneAcross : Kind → ℕ → Type 0
HasOneAcross kind d =
    (rank f o g p h : ℕ) → rank < cells_per_cube kind d → f < facet_count kind d
    → IsAcross kind d rank f o g → IsAcross kind d rank f p h → (o ≡ p) × (g ≡ h)

-- a seam joins the facets that stand across from each other
abbrev pub JoinsFacets : Kind → ℕ → Type 0
JoinsFacets kind d = (rank f other g : ℕ) → rank < cells_per_cube kind d → f < facet_count kind d → AreJoined kind d rank f other g

-- the turn of rows of points is kept by each cell, or turned where the cell is odd
abbrev pub KeepsAllTurns : Kind → ℕ → Type 0
KeepsAllTurns kind d = (rank : ℕ) (rows : List ((ℕ × ℕ) × (ℕ × ℕ))) → rank < cells_per_cube kind d → KeepsTurns kind d rank rows

-- what two cells of a grid share lies in a facet of each
abbrev pub SharesFacets : Kind → ℕ → Type 0
SharesFacets kind d = (sizes : List ℕ) → length sizes ≡ d → (cell other : ℕ) (es : List ℕ) → ShareLaw kind sizes cell other es

-- in three dimensions the cells that have an edge are one ring
abbrev pub HasRings : Kind → ℕ → Type 0
HasRings kind d = d ≡ 3 → (sizes : List ℕ) → length sizes ≡ d → (e : Edge) → IsEdge kind sizes e → HasRing kind sizes e

-- the neighbour across a facet is the cell that stands there
abbrev pub HasNeighboursAcross : Kind → ℕ → Type 0
HasNeighboursAcross kind d =
    (sizes : List ℕ) → length sizes ≡ d → (cell f other : ℕ) → cell < cell_count kind sizes → f < facet_count kind d
    → IsNeighbour kind sizes cell f other ↔ StandsAcross kind sizes cell f other

-- a facet lies on the outer boundary of a grid where the way across it leaves the grid
abbrev pub LeavesAtBoundary : Kind → ℕ → Type 0
LeavesAtBoundary kind d =
    (sizes : List ℕ) → length sizes ≡ d → (cell f : ℕ) → cell < cell_count kind sizes → f < facet_count kind d
    → OnOuterBoundary sizes (facet_points kind sizes cell f) ↔ LeavesGrid kind sizes cell f
