-- The bipolar edges of a grid by their midpoints: which midpoints are there, and how many come before another.
use Rattle.std.specs.Prelude.{ℕ, ◌*◌, ◌-◌, ◌≡◌, Bool, true, ◌&&◌, List, [], ◌∷◌, length, map, filter, flat_map, count_by}
use Rattle.std.specs.List.{list_any}
use Rattle.lists.specs.Orders.{numbers}
use Rattle.iso_model.specs.Points.{comes_first}
use Rattle.iso_model.specs.Splits.{cube_at, cube_count}
use Rattle.iso_model.specs.Values.{Volume}
use Rattle.iso_model.specs.Bipolar.{bipolar_edges, is_bipolar, place_in}
use Rattle.edge_middles.specs.HeldMiddles.{holds}
use Rattle.edge_middles.specs.Middles.{edge_at, is_middle}

-- all points of a grid in quarter-units, along each axis from 0 at its first sample to 4 (n - 1) at its last, in ascending order,
-- last coordinate first
abbrev pub quarter_points : List ℕ → List (List ℕ)
quarter_points [] = [] ∷ []
quarter_points (n ∷ sizes) = flat_map (λ rest. map (λ c. c ∷ rest) (numbers (4 * n - 3))) (quarter_points sizes)

-- where the kept cubes of a grid stand, in the order of their numbers
unfoldable pub kept_cubes : Volume → List (List ℕ)
kept_cubes v = filter v.kept (map (cube_at v.sizes) (numbers (cube_count v.sizes)))

-- a bipolar edge is there at a midpoint: it can be the midpoint of an edge, a kept cube holds it, and the edge that it says is bipolar
abbrev pub is_there : Volume → List ℕ → Bool
is_there v middle = is_middle v.kind middle && list_any (λ x. holds x middle) (kept_cubes v) && is_bipolar v (edge_at middle)

-- the midpoints at which a bipolar edge is there, in ascending order, last coordinate first
unfoldable pub middles_there : Volume → List (List ℕ)
middles_there v = filter (is_there v) (quarter_points v.sizes)

-- how many of them come before a midpoint
abbrev pub count_before : Volume → List ℕ → ℕ
count_before v middle = count_by (λ p. comes_first p middle) (middles_there v)

-- the bipolar edges of kept cells are those at the midpoints that are there, in this order
abbrev pub AreByMiddles : Volume → Type 0
AreByMiddles v = bipolar_edges v ≡ map edge_at (middles_there v)

-- the place of an edge in the list of bipolar edges is the number of midpoints before its own
abbrev pub HasPlace : Volume → List ℕ → Type 0
HasPlace v middle = length middle ≡ length v.sizes → is_there v middle ≡ true
    → place_in (bipolar_edges v) (edge_at middle) ≡ count_before v middle
