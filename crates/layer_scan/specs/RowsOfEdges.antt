-- Rows of edges: which bipolar edges of kept cubes they have, and the numbers of these.
-- In a row two directions take turns. At x, the first edge goes from the near row's sample at x to the far row's sample at x, and the second to the
-- far row's sample at x + 1. The cubes at the first are those at x and at x - 1, and at the second those at x.
use Rattle.std.specs.Prelude.{ℕ, ◌+◌, ◌-◌, ◌*◌, ◌<◌, ◌≡◌, Bool, ◌&&◌, ◌||◌, nat_lt, List, [], ◌∷◌, length, slice_index_or, count_by, sum_by}
use Rattle.std.specs.List.{list_any}
use Rattle.lists.specs.Orders.{numbers}
use Rattle.iso_model.specs.Bipolar.{differ}
use Rattle.bit_rows.specs.Rows.{IsWordOf, row_bit}
use Rattle.grid_rows.specs.declared.planes.EdgePlane.{EdgePlane}
use Rattle.grid_rows.specs.declared.planes.EdgeWord.{EdgeWord}
use Rattle.grid_rows.specs.Planes.{edge_row, no_edge}
use Rattle.layer_scan.specs.declared.rows.CubesAround.{CubesAround}

-- ---- the kept cubes around a row of edges, in the rows of cubes that it touches

-- some cube at x is kept
abbrev pub around : List (List ℕ) → ℕ → Bool
around cubes x = list_any (λ row. row_bit row x) cubes

-- some cube at x - 1 is
abbrev pub around_before : List (List ℕ) → ℕ → Bool
around_before cubes x = nat_lt 0 x && around cubes (x - 1)

-- the four rows
abbrev pub rows_of : CubesAround → List (List ℕ)
rows_of cubes = cubes.low.now ∷ cubes.high.now ∷ cubes.other_low.now ∷ cubes.other_high.now ∷ []

-- each of them has so many words
abbrev pub HaveWords : ℕ → CubesAround → Type 0
HaveWords n cubes =
    (length cubes.low.now ≡ n) × (length cubes.high.now ≡ n) × (length cubes.other_low.now ≡ n) × (length cubes.other_high.now ≡ n)

-- ---- which edges there are

-- the first edge at x is there, where the split has this direction: a cube at it is kept, and the signs of its ends differ
abbrev pub first_edge : Bool → List ℕ → List ℕ → List (List ℕ) → ℕ → Bool
first_edge there near far cubes x = there && (differ (row_bit near x) (row_bit far x) && (around cubes x || around_before cubes x))

-- the second edge at x is there
abbrev pub second_edge : Bool → List ℕ → List ℕ → List (List ℕ) → ℕ → Bool
second_edge there near far cubes x = there && (differ (row_bit near x) (row_bit far (x + 1)) && around cubes x)

-- the edges from the centre of the cube at x to its corner at x, and to its corner at x + 1, are there: the cube is kept, and the signs differ
abbrev pub first_to_corner : List ℕ → List ℕ → List ℕ → ℕ → Bool
first_to_corner centres corners kept x = differ (row_bit centres x) (row_bit corners x) && row_bit kept x

abbrev pub second_to_corner : List ℕ → List ℕ → List ℕ → ℕ → Bool
second_to_corner centres corners kept x = differ (row_bit centres x) (row_bit corners (x + 1)) && row_bit kept x

-- ---- their numbers

-- the number of the first edge at or after x, where the row's edges are numbered from `count` on
abbrev pub number_at : (ℕ → Bool) → (ℕ → Bool) → ℕ → ℕ → ℕ
number_at first second count x = count + (count_by first (numbers x) + count_by second (numbers x))

-- word w of a row has the edges that pass in each direction, and the number of its first one
abbrev pub IsEdgeWord : (ℕ → Bool) → (ℕ → Bool) → ℕ → ℕ → EdgeWord → Type 0
IsEdgeWord first second count w word =
    IsWordOf first w word.first × IsWordOf second w word.second × (word.before ≡ number_at first second count (64 * w))

-- each word of a row does
abbrev pub AreNumbered : (ℕ → Bool) → (ℕ → Bool) → ℕ → List EdgeWord → Type 0
AreNumbered first second count row = (w : ℕ) → w < length row → IsEdgeWord first second count w (slice_index_or row w no_edge)

-- the number of the first edge in or after row n of a plane, whose edges are numbered row by row from `count` on
abbrev pub row_number : (ℕ → ℕ → Bool) → (ℕ → ℕ → Bool) → ℕ → ℕ → ℕ → ℕ
row_number firsts seconds words count n =
    count + sum_by (λ m. count_by (firsts m) (numbers (64 * words)) + count_by (seconds m) (numbers (64 * words))) (numbers n)

-- each of these rows of a plane has the edges that pass in each direction, numbered from row to row
abbrev pub AreNumberedRows : (ℕ → ℕ → Bool) → (ℕ → ℕ → Bool) → ℕ → ℕ → EdgePlane → Type 0
AreNumberedRows firsts seconds count rows plane =
    (n : ℕ) → n < rows → AreNumbered (firsts n) (seconds n) (row_number firsts seconds plane.words count n) (edge_row plane n)

-- a plane has so many rows of so many words
abbrev pub HasEdgeRows : ℕ → ℕ → EdgePlane → Type 0
HasEdgeRows rows words plane = (plane.words ≡ words) × (length plane.edges.items ≡ rows * words)
