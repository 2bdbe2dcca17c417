-- The cells of a grid round an edge of three dimensions.
use Rattle.std.specs.Prelude.{◌≡◌, ℕ, nat_le, ◌+◌, ◌*◌, ◌<◌, ◌≤◌, ◌⊎◌, Bool, ⊤, List, [], ◌∷◌, length, slice_index, Contains}
use Rattle.std.specs.List.{list_all}
use Rattle.iso_model.specs.declared.Kind.{Kind}
use Rattle.iso_model.specs.Splits.{Edge, cells_per_cube, cell_count, cube_of, rank_of}
use Rattle.iso_model.specs.Neighbours.{HasEdge, IsRing}
use Rattle.split_checks.specs.declared.rounds.Place.{Place}
use Rattle.split_checks.specs.CellsRound.{IsBelow4, arc_of, stands}

-- the edge is one of a cell of the grid
abbrev pub IsEdge : Kind → List ℕ → Edge → Type 0
IsEdge kind sizes e = (cell : ℕ) × (cell < cell_count kind sizes) × HasEdge kind sizes cell e

-- the cells that have the edge are one ring, closed or not
abbrev pub HasRing : Kind → List ℕ → Edge → Type 0
HasRing kind sizes e = (ring : List ℕ) × (closed : Bool) × IsRing kind sizes e ring closed

-- the sums of ends are those of the middle cube and the way
pub record IsMiddle (low high cube way : List ℕ) : Type 0 where
  pub cubes : length cube ≡ 3
  pub ways : length way ≡ 3
  pub sums : (i : ℕ) → i < 3 → slice_index low i + slice_index high i ≡ 4 * slice_index cube i + slice_index way i
  pub small : IsBelow4 way

-- the cell of the grid at this place, from the middle cube
pub record StandsAt (kind : Kind) (sizes cube : List ℕ) (p : Place) (cell : ℕ) : Type 0 where
  pub is_cell : cell < cell_count kind sizes
  pub rank : rank_of kind sizes cell ≡ p.rank
  pub cubes : (i : ℕ) → i < 3 → slice_index (cube_of kind sizes cell) i + slice_index p.back i ≡ slice_index cube i

-- along an axis with this many samples, no cube stands this far back
abbrev pub IsMissingIn : ℕ → ℕ → ℕ → Type 0
IsMissingIn size x back = (x < back) ⊎ (size + back < x + 2)

-- in some axis no cube of the grid stands where the place says
abbrev pub IsMissing : List ℕ → List ℕ → Place → Type 0
IsMissing sizes cube p = (i : ℕ) × (i < 3) × IsMissingIn (slice_index sizes i) (slice_index cube i) (slice_index p.back i)

-- whether a cube stands at x, and one back, along an axis with this many samples
abbrev pub side_at : ℕ → ℕ → Bool × Bool
side_at size x = (nat_le (x + 2) size, nat_le 1 x)

-- the sides of the grid at the middle cube
abbrev pub sides_at : List ℕ → List ℕ → List (Bool × Bool)
sides_at sizes cube =
    side_at (slice_index sizes 0) (slice_index cube 0) ∷ side_at (slice_index sizes 1) (slice_index cube 1)
    ∷ side_at (slice_index sizes 2) (slice_index cube 2) ∷ []

-- in each axis the cube is within the samples
abbrev pub IsInside : List ℕ → List ℕ → Type 0
IsInside sizes cube = (i : ℕ) → i < 3 → slice_index cube i < slice_index sizes i

-- in three dimensions, at most eight places, whose cubes stand at the middle cube or one back in each axis; the middle cube is within the samples
pub record AreFit (kind : Kind) (sizes cube : List ℕ) (places : List Place) : Type 0 where
  pub axes : length sizes ≡ 3
  pub few : length places ≤ 8
  pub ranks : (p : Place) → Contains places p → p.rank < cells_per_cube kind 3
  pub backs : (p : Place) → Contains places p → (length p.back ≡ 3) × ((i : ℕ) → i < 3 → slice_index p.back i ≤ 1)
  pub inside : IsInside sizes cube

-- cells and places, one by one
abbrev pub AreAt : Kind → List ℕ → List ℕ → List Place → List ℕ → Type 0
AreAt kind sizes cube [] [] = ⊤
AreAt kind sizes cube [] (c ∷ cells) = ⊥
AreAt kind sizes cube (p ∷ places) [] = ⊥
AreAt kind sizes cube (p ∷ places) (c ∷ cells) = StandsAt kind sizes cube p c × AreAt kind sizes cube places cells

-- the cells at the places whose cubes are there, from the first gap on once round; closed where there is no gap
pub record IsArc (kind : Kind) (sizes cube : List ℕ) (places : List Place) (cells : List ℕ) (closed : Bool) : Type 0 where
  pub at : AreAt kind sizes cube (arc_of (sides_at sizes cube) places) cells
  pub whole : closed ≡ list_all (λ (p : Place). stands (sides_at sizes cube) p.back) places
