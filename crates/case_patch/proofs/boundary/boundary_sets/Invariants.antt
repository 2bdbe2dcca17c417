use Rattle.std.proofs.Common.{◌≡◌, ◌+◌, map, filter, length}
use Rattle.lists.specs.Orders.{numbers}
use Rattle.case_patch.specs.BoundarySets.{is_in_facet}
use Rattle.lists.specs.Bits.{set_number}
use Rattle.case_patch.proofs.boundary.boundary_sets.Given as goal

-- the sets of the facets so far
abbrev pub invariant-loop-facet : goal.invariant-loop-facet
invariant-loop-facet g l =
    l.sets.items
    ≡ map (λ f. set_number (filter (is_in_facet g.C.Cell.KIND g.row.D l.edges l.corners f) (numbers (length l.edges + length l.corners))))
    (numbers l.facet)
