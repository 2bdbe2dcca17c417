-- Which points lie in the facets of a cell, where the points are given by the edges of the midpoints and the corners that follow them.
use Rattle.std.specs.Prelude.{ℕ, ◌+◌, ◌-◌, Bool, not, nat_lt, ◌==◌, List, filter, length, slice_index, bit_and, if◌then◌else◌}
use Rattle.std.specs.List.{list_all}
use Rattle.iso_model.specs.declared.Kind.{Kind}
use Rattle.iso_model.specs.Cells.{edge_in_facet, corner_in_facet}
use Rattle.lists.specs.Orders.{numbers}
use Rattle.lists.specs.Bits.{is_set, set_number}

-- the point of this number lies in facet f of the cell: a midpoint where its edge does, and else where its corner does
abbrev pub is_in_facet : Kind → ℕ → List ℕ → List ℕ → ℕ → ℕ → Bool
is_in_facet kind d es ks f i =
    if nat_lt i (length es) then edge_in_facet kind d f (slice_index es i) else corner_in_facet kind f (slice_index ks (i - length es))

-- a set of points lies within none of the others, where sets are written as numbers
abbrev pub is_off : ℕ → List ℕ → Bool
is_off set others = list_all (λ other. not (bit_and set other == set)) others

-- the set of the points in facet f, as a number
abbrev pub facet_set : Kind → ℕ → List ℕ → List ℕ → ℕ → ℕ
facet_set kind d es ks f = set_number (filter (is_in_facet kind d es ks f) (numbers (length es + length ks)))

-- the point of this number is one of a set of edges, where it is a midpoint, and else of a set of corners
abbrev pub is_of : ℕ → ℕ → List ℕ → List ℕ → ℕ → Bool
is_of edge_set corner_set es ks i =
    if nat_lt i (length es) then is_set edge_set (slice_index es i) else is_set corner_set (slice_index ks (i - length es))
