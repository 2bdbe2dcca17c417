use Rattle.std.proofs.Common.{arith, subst, take, List, ℕ, ◌≡◌, ◌∙◌, ap}
use Rattle.std.proofs.lemmas.List.{take_all}
use Rattle.std.specs.List.Sorted.{IsPermutation}
use Rattle.std.proofs.lemmas.List.Sorted.{IsNonDecreasingBy-from_sort}
use Rattle.mesh_laws.specs.Rounds.{qs_of}
use Rattle.mesh_laws.proofs.rounds.gather_ends.Goals as goal

pub returns : goal.returns
returns c =
    let all : take c.loop-corner.corner-index c.args.corners.now ≡ c.args.corners.now = take_all _ _ (omega arith) in (
      IsNonDecreasingBy-from_sort (λ x. x) _ c.sort_unstable.ensures.sorted,
      subst (λ (xs : List ℕ). IsPermutation xs c.sort_unstable.new.self.items) (c.loop-corner.invariant ∙ ap qs_of all) c.sort_unstable.ensures.permutation,
    )
