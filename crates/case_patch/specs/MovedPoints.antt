-- The points of a labelling of a cube by their numbers, and where a move carries them.
use Rattle.std.specs.Prelude.{◌≡◌, ℕ, ◌+◌, ◌-◌, nat_lt, nat_eq, List, map, filter, length, slice_index, if◌then◌else◌}
use Rattle.std.specs.List.{position_or_len}
use Rattle.iso_model.specs.declared.Kind.TheVariants.{Cube}
use Rattle.iso_model.specs.Entries.{label_edges, label_corners, label_points}
use Rattle.cube_moves.specs.declared.moves.Move.{Move as CodeMove}
use Rattle.iso_model.specs.Moves.{Move, Carries, move_corner, move_edge}
use Rattle.lists.specs.Orders.{numbers}
use Rattle.lists.specs.Bits.{is_set, set_number}

-- the place of a number in a list
abbrev pub place : List ℕ → ℕ → ℕ
place xs x = position_or_len (nat_eq x) xs

-- the number of the point to which a move carries point i, where the points are those of some edges and then of some corners
abbrev pub carried_among : ℕ → Move → List ℕ → List ℕ → List ℕ → List ℕ → ℕ → ℕ
carried_among d by es ks fs ls i =
    if nat_lt i (length es) then place fs (move_edge d by (slice_index es i))
    else length fs + place ls (move_corner d by (slice_index ks (i - length es)))

-- the same of the points of a labelling and of the one to which the move carries it
abbrev pub carried_point : ℕ → Move → ℕ → ℕ → ℕ → ℕ
carried_point d by label other i =
    carried_among d by (label_edges Cube d label) (label_corners Cube d label) (label_edges Cube d other) (label_corners Cube d other) i

-- the same for a move as the code has it
abbrev pub carried_along : (d : ℕ) → CodeMove d → List ℕ → List ℕ → List ℕ → List ℕ → ℕ → ℕ
carried_along d by es ks fs ls i = carried_among d (record { axes = by.axes; flips = by.flips }) es ks fs ls i

-- the numbers of all points, in their order
abbrev pub AreCarriedAlong : (d : ℕ) → CodeMove d → List ℕ → List ℕ → List ℕ → List ℕ → List ℕ → Type 0
AreCarriedAlong d by es ks fs ls list = list ≡ map (carried_along d by es ks fs ls) (numbers (length es + length ks))

-- the numbers to which a move carries all points of a labelling, in their order
pub record AreCarriedNumbers (d : ℕ) (axes : List ℕ) (flips label : ℕ) (list : List ℕ) : Type 0 where
  pub other : ℕ
  pub carries : Carries d (record { axes = axes; flips = flips }) label other
  pub numbered : list ≡ map (carried_point d (record { axes = axes; flips = flips }) label other) (numbers (length (label_points Cube d label)))

-- a set of points by its number, carried back along a list of the numbers of points: those of which the number is a member
abbrev pub carried_by : List ℕ → ℕ → ℕ
carried_by list set = set_number (filter (λ i. is_set set (slice_index list i)) (numbers (length list)))
