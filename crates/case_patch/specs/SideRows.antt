-- The rows whose turn tells the side of a tuple of edges, one by one.
use Rattle.std.specs.Prelude.{ℕ, ◌+◌, ℤ, nat_lt, List, map, slice_index, if◌then◌else◌}
use Rattle.iso_model.specs.declared.Kind.{Kind}
use Rattle.iso_model.specs.Cells.{corner_point, edge_midpoint}
use Rattle.iso_model.specs.Turns.{difference, side_rows}
use Rattle.iso_model.specs.Acceptance.{positive_end, negative_end}

-- from the negative to the positive end of an edge
abbrev pub direction : Kind → ℕ → ℕ → ℕ → List ℤ
direction kind d label e = difference (corner_point kind d (positive_end kind d label e)) (corner_point kind d (negative_end kind d label e))

-- the row at a place: from the midpoint of the first edge to that of the next edge after the place, and behind the last the direction of the first edge
abbrev pub side_row : Kind → ℕ → ℕ → List ℕ → ℕ → List ℤ
side_row kind d label w place =
    if nat_lt (place + 1) d then difference (edge_midpoint kind d (slice_index w (place + 1))) (edge_midpoint kind d (slice_index w 0))
    else direction kind d label (slice_index w 0)

-- the rows, all of them
abbrev pub rows_of : Kind → ℕ → ℕ → List ℕ → List (List ℤ)
rows_of kind d label w = side_rows (map (edge_midpoint kind d) w) (direction kind d label (slice_index w 0))
