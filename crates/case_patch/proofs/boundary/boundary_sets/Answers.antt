use Rattle.std.proofs.Common.{ℕ, ◌+◌, ◌∷◌, ◌++◌, [], ◌∙◌, ap, sym, List, map, filter, length}
use Rattle.lists.specs.Orders.{numbers}
use Rattle.case_patch.specs.BoundarySets.{is_in_facet}
use Rattle.case_patch.proofs.AppendedLists.{mapped_more}
use Rattle.lists.specs.Bits.{set_number}
use Rattle.case_patch.proofs.boundary.boundary_sets.Goals as goal

pub loop-facet-preserved : goal.loop-facet-preserved
loop-facet-preserved g c =
    let set =
    λ (f : ℕ).
    set_number
    (filter (is_in_facet g.C.Cell.KIND g.row.D c.args.edges.now c.args.corners.now f)
    (numbers (length c.args.edges.now + length c.args.corners.now))) in
    c.in_ok-add_set.ensures ∙ ap (λ (xs : List ℕ). xs ++ c.facet_points.result ∷ []) c.loop-facet.invariant
    ∙ ap (λ (x : ℕ). map set (numbers c.loop-facet.facet) ++ x ∷ []) c.facet_points.ensures ∙ sym (mapped_more set c.loop-facet.facet)
