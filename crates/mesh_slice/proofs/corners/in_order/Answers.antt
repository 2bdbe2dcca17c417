use Rattle.std.proofs.lemmas.List.Sorted.{IsNonDecreasingBy-from_sort}
use Rattle.mesh_laws.proofs.OnceInLists.{is_sorted}
use Rattle.mesh_slice.proofs.corners.in_order.Goals as goal

pub returns : goal.returns
returns c =
    is_sorted c.args.simplex.now c.sort_unstable.new.self c.sort_unstable.ensures.permutation
    (IsNonDecreasingBy-from_sort (λ x. x) _ c.sort_unstable.ensures.sorted)
