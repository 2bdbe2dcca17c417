-- A cell of a cube is the canonical cell with its axes in another order, some of them reversed. Tested for each rank:
-- that it is, and that the order and the reversals together have the parity of the rank.
use Rattle.std.specs.Prelude.{ℕ, ◌-◌, ◌==◌, nat_lt, nat_le, nat_eq, Bool, true, false, not, ◌&&◌, List, [], ◌∷◌, map, length, Option, Some, None}
use Rattle.std.specs.Prelude.{slice_index, slice_index_or, if◌then◌else◌}
use Rattle.std.specs.List.{list_all, position_or_len}
use Rattle.iso_model.specs.declared.Kind.{Kind}
use Rattle.iso_model.specs.declared.Kind.TheVariants.{Cube, Simplex, Pyramid}
use Rattle.lists.specs.Orders.{numbers, orders, is_odd_order, same_list}
use Rattle.iso_model.specs.Points.{axes, point}
use Rattle.iso_model.specs.Cells.{corner_count, corner_point}
use Rattle.iso_model.specs.Splits.{axis_order, base_axis, base_side, corner_offset, is_odd_rank}

-- the axis of the canonical cell that lies along each axis
abbrev pub columns : Kind → ℕ → ℕ → List ℕ
columns Cube d rank = axes d
columns Simplex d rank = places_in (axis_order d rank) (axes d)
  where
    places_in : List ℕ → List ℕ → List ℕ
    places_in order xs = map (λ i. position_or_len (nat_eq i) order) xs
columns Pyramid d rank = map (λ i. if i == base_axis rank then 2 else if nat_lt i (base_axis rank) then i else i - 1) (axes d)

-- the axes along which it is reversed
abbrev pub reversed : Kind → ℕ → ℕ → List Bool
reversed Cube d rank = map (λ _. false) (axes d)
reversed Simplex d rank = map (λ _. false) (axes d)
reversed Pyramid d rank = map (λ i. (i == base_axis rank) && (base_side rank == 1)) (axes d)

-- a coordinate of the placed corner
abbrev pub placed : List ℕ → List Bool → List ℕ → ℕ → ℕ
placed cols revs p i = if slice_index_or revs i false then 2 - slice_index p (slice_index cols i) else slice_index p (slice_index cols i)

abbrev pub keeps_corner : Kind → ℕ → ℕ → List ℕ → List Bool → ℕ → Bool
keeps_corner kind d rank cols revs k =
    same_list (corner_offset kind d rank k) (point d (placed cols revs (corner_point kind d k)))
    && (length (corner_point kind d k) == d) && list_all (λ x. nat_le x 2) (corner_point kind d k)

-- whether an odd number of the axes of an order is reversed
abbrev pub odd_reversals : List Bool → List ℕ → Bool
odd_reversals revs [] = false
odd_reversals revs (i ∷ order) = if slice_index_or revs i false then not (odd_reversals revs order) else odd_reversals revs order

abbrev pub differs : Bool → Bool → Bool
differs true b = not b
differs false b = b

-- an order of the columns, and the order of the canonical columns that they are
abbrev pub keeps_parity : ℕ → List ℕ → List Bool → Bool → List ℕ → Bool
keeps_parity d cols revs odd order =
    list_all (λ i. nat_lt i d) order && (length order == d)
    && not (differs (differs (is_odd_order order) (odd_reversals revs order)) (differs odd (is_odd_order (map (slice_index cols) order))))

-- the list without one copy of x, if it is there
abbrev pub keep_first : List ℕ → Option (List (List ℕ)) → Option (List (List ℕ))
keep_first y None = None
keep_first y (Some ys) = Some (y ∷ ys)

abbrev pub pull : List ℕ → List (List ℕ) → Option (List (List ℕ))
pull x [] = None
pull x (y ∷ ys) = if same_list x y then Some ys else keep_first y (pull x ys)

abbrev pub goes_on : (List (List ℕ) → Bool) → Option (List (List ℕ)) → Bool
goes_on t None = false
goes_on t (Some ys) = t ys

-- the two lists have the same members, as many times
abbrev pub rearranged : List (List ℕ) → List (List ℕ) → Bool
rearranged [] [] = true
rearranged [] (y ∷ ys) = false
rearranged (x ∷ xs) ys = goes_on (rearranged xs) (pull x ys)

abbrev pub turns_well : ℕ → List ℕ → List Bool → Bool → Bool
turns_well d cols revs odd = list_all (keeps_parity d cols revs odd) (orders d) && rearranged (map (map (slice_index cols)) (orders d)) (orders d)

abbrev pub are_axes : ℕ → List ℕ → Bool
are_axes d cols = (length cols == d) && list_all (λ j. nat_lt j d) cols

abbrev pub is_placed : Kind → ℕ → ℕ → List ℕ → List Bool → Bool → Bool
is_placed kind d rank cols revs odd =
    are_axes d cols && list_all (keeps_corner kind d rank cols revs) (numbers (corner_count kind d)) && turns_well d cols revs odd

abbrev pub is_placed_rank : Kind → ℕ → ℕ → Bool
is_placed_rank kind d rank = is_placed kind d rank (columns kind d rank) (reversed kind d rank) (is_odd_rank kind d rank)

abbrev pub all_placed : Kind → ℕ → List ℕ → Bool
all_placed kind d ranks = list_all (is_placed_rank kind d) ranks
