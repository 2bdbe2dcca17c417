-- The cells round an edge of three dimensions, by their ranks and by where their cubes stand.
--
-- An edge is told by the sum of its ends, in quarter-units: 4 times a cube, its middle cube, and the way of the edge, below 4 in each axis. The cubes
-- of the cells that have it stand in each axis at the middle cube, or one back.
use Rattle.std.specs.Prelude.{◌≡◌, ℕ, ◌+◌, ◌-◌, ◌*◌, ◌/◌, ◌%◌, ◌<◌, ◌≤◌, ◌==◌, Bool, true, ◌&&◌, ⊤, if◌then◌else◌, ℤ, pos, ◌+ℤ◌}
use Rattle.std.specs.Prelude.{List, [], ◌∷◌, ◌++◌, map, filter, length, slice_index, slice_index_or, Contains}
use Rattle.split_checks.specs.declared.rounds.Place.{Place}
use Rattle.iso_model.specs.declared.Kind.{Kind}
use Rattle.iso_model.specs.Points.{point}
use Rattle.iso_model.specs.Cells.{edge_count, edge_ends, edge_in_facet, facet_count}
use Rattle.iso_model.specs.Splits.{cells_per_cube}
use Rattle.iso_model.specs.SplitLaws.{corner_sum}
use Rattle.iso_model.specs.Neighbours.{IsAcross, shift_across}

-- ---- ways

-- the sum of the two ends of edge n of the cell of this rank, from the first corner of its cube
abbrev pub sum_of : Kind → ℕ → ℕ → List ℕ
sum_of kind rank n = corner_sum kind 3 rank (edge_ends kind 3 n)

-- the way of an edge with this sum of ends
abbrev pub way_of : List ℕ → List ℕ
way_of sum = map (λ c. c % 4) sum

-- some cell has an edge of this way
abbrev pub IsWay : Kind → List ℕ → Type 0
IsWay kind way = (rank : ℕ) × (n : ℕ) × (rank < cells_per_cube kind 3) × (n < edge_count kind 3) × (way_of (sum_of kind rank n) ≡ way)

-- in each axis a number below 4
abbrev pub IsBelow4 : List ℕ → Type 0
IsBelow4 way = (i : ℕ) → i < 3 → slice_index way i < 4

-- bit i is set where the high end of an edge of this way is further up axis i
abbrev pub number_of_way : List ℕ → ℕ
number_of_way way = slice_index way 0 / 2 + slice_index way 1 / 2 * 2 + slice_index way 2 / 2 * 4

-- ---- places

-- the cell at this place has the edge of this way, as its edge n
pub record HasWay (kind : Kind) (way : List ℕ) (p : Place) (n : ℕ) : Type 0 where
  pub is_rank : p.rank < cells_per_cube kind 3
  pub is_edge : n < edge_count kind 3
  pub axes : length p.back ≡ 3
  pub sum : sum_of kind p.rank n ≡ point 3 (λ i. slice_index way i + 4 * slice_index p.back i)

-- the cell at the place q stands across a facet of the cell at the place p that has the edge
pub record IsNextTo (kind : Kind) (way : List ℕ) (p q : Place) : Type 0 where
  pub edge : ℕ
  pub facet : ℕ
  pub other : ℕ
  pub has : HasWay kind way p edge
  pub is_facet : facet < facet_count kind 3
  pub facet_has : edge_in_facet kind 3 facet edge ≡ true
  pub across : IsAcross kind 3 p.rank facet q.rank other
  pub cube : (i : ℕ) → i < 3
      → pos (slice_index p.back i) ≡ pos (slice_index q.back i) +ℤ slice_index_or (shift_across kind 3 p.rank facet) i (pos 0)

-- each place is next to the one before it
abbrev pub AreInTurn : Kind → List ℕ → List Place → Type 0
AreInTurn kind way [] = ⊤
AreInTurn kind way (p ∷ []) = ⊤
AreInTurn kind way (p ∷ q ∷ rest) = IsNextTo kind way p q × AreInTurn kind way (q ∷ rest)

-- no place stands twice
abbrev pub AreOwn : List Place → Type 0
AreOwn [] = ⊤
AreOwn (p ∷ rest) = (¬ Contains rest p) × AreOwn rest

-- ---- the sides of the grid

-- in each axis, whether a cube of the grid stands at the middle cube, and whether one stands one back: those at the place do
abbrev pub stands : List (Bool × Bool) → List ℕ → Bool
stands [] back = true
stands (s ∷ sides) [] = true
stands (s ∷ sides) (b ∷ back) = (if b == 0 then s.0 else s.1) && stands sides back

-- the places before the first one whose cube is missing
abbrev pub before_gap : List (Bool × Bool) → List Place → List Place
before_gap sides [] = []
before_gap sides (p ∷ rest) = if stands sides p.back then p ∷ before_gap sides rest else []

-- the places after it whose cubes are there
abbrev pub after_gap : List (Bool × Bool) → List Place → List Place
after_gap sides [] = []
after_gap sides (p ∷ rest) = if stands sides p.back then after_gap sides rest else filter (λ (q : Place). stands sides q.back) rest

-- the places whose cubes are there, from the first gap on once round
abbrev pub arc_of : List (Bool × Bool) → List Place → List Place
arc_of sides places = after_gap sides places ++ before_gap sides places

-- ---- the fixed list

-- the cells round an edge of this way: each cell that has it, three at least; each next to the one before it, and the first next to the last; at the sides
-- of a grid the missing ones are one run of the list, so that the others are an arc; and where the edge lies in a plane of samples across an axis, there
-- are cells on both sides of that plane
pub record AreRound (kind : Kind) (way : List ℕ) (places : List Place) : Type 0 where
  pub has : (p : Place) → Contains places p → (n : ℕ) × HasWay kind way p n
  pub all : (p : Place) (n : ℕ) → HasWay kind way p n → Contains places p
  pub three : 3 ≤ length places
  pub own : (a b c : Bool × Bool) → AreOwn (arc_of (a ∷ b ∷ c ∷ []) places)
  pub arcs : (a b c : Bool × Bool) → AreInTurn kind way (arc_of (a ∷ b ∷ c ∷ []) places)
  pub round : (d : Place) → IsNextTo kind way (slice_index_or places (length places - 1) d) (slice_index_or places 0 d)
  pub both : (i : ℕ) → i < 3 → slice_index way i ≡ 0
      → ((p : Place) × Contains places p × (slice_index p.back i ≡ 0)) × ((p : Place) × Contains places p × (slice_index p.back i ≡ 1))
