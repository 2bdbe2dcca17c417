-- Points of cells of two cubes that touch. A cube is moved by -1, 0 or 1 in each axis; a move has one more: 0, 1 or 2.
use Rattle.std.specs.Prelude.{ℕ, ◌+◌, ◌-◌, ◌*◌, ◌/◌, ◌==◌, Bool, true, false, ◌&&◌, List, [], ◌∷◌, map, slice_index_or}
use Rattle.std.specs.List.{list_all, list_any}
use Rattle.iso_model.specs.declared.Kind.{Kind}
use Rattle.lists.specs.Orders.{numbers}
use Rattle.iso_model.specs.Cells.{corner_count, facet_corners}
use Rattle.iso_model.specs.Splits.{corner_offset}

-- the offset in a cube is at the same point as the other offset in the moved cube
abbrev pub meets : List ℕ → List ℕ → List ℕ → Bool
meets [] [] [] = true
meets [] [] (y ∷ other) = false
meets [] (m ∷ ms) other = false
meets (x ∷ xs) [] other = false
meets (x ∷ xs) (m ∷ ms) [] = false
meets (x ∷ xs) (m ∷ ms) (y ∷ other) = (x + 2 == 2 * m + y) && meets xs ms other

-- the move by which the other offset meets the offset, where there is one
abbrev pub move_to : List ℕ → List ℕ → List ℕ
move_to [] other = []
move_to (x ∷ xs) [] = []
move_to (x ∷ xs) (y ∷ other) = (x + 2 - y) / 2 ∷ move_to xs other

-- the cube is not moved
abbrev pub stays : List ℕ → Bool
stays ms = list_all (λ m. m == 1) ms

-- the offsets of the corners of a cell
abbrev pub offsets : Kind → ℕ → ℕ → List (List ℕ)
offsets kind d rank = map (corner_offset kind d rank) (numbers (corner_count kind d))

-- those of a facet, of the offsets of the cell
abbrev pub facet_of : Kind → ℕ → List (List ℕ) → ℕ → List (List ℕ)
facet_of kind d cell f = map (λ k. slice_index_or cell k []) (facet_corners kind d f)

-- two sets of offsets are at the same points
abbrev pub same_places : List ℕ → List (List ℕ) → List (List ℕ) → Bool
same_places move here there = list_all (λ p. list_any (λ q. meets p move q) there) here && list_all (λ q. list_any (λ p. meets p move q) here) there
