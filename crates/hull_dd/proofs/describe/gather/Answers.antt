-- The facets through the chosen points of one generator more, on one of which its tight set lies.
use Rattle.std.proofs.Common.{ℕ, List, All, Contains, subst, arith}
use Rattle.std.proofs.lemmas.List.Elements.{All-contains_itself}
use Rattle.halfspace.specs.Choices.{AreSomeFacets}
use Rattle.hull_dd.specs.Steps.{IsWithinAny}
use Rattle.hull_dd.proofs.Ends.{within_more}
use Rattle.hull_dd.proofs.describe.gather.Given as given
use Rattle.hull_dd.proofs.describe.gather.Goals as goal
use Rattle.hull_dd.proofs.describe.gather.Goals.{then-first-points+in_ok-consider, else-first-points}

kept : (g : given.Over) (c : goal.Else-not-is_within_any g) → All (Contains c.if-first-points.facets.items) c.loop-generator.facets.items
kept g c = elim c.if-first-points.branch [
  | then-first-points+in_ok-consider w ↦ rw w.facets-is w.consider.ensures.kept
  | else-first-points w ↦ rw w.facets-is (All-contains_itself c.loop-generator.facets.items)
]

known : (g : given.Over) (c : goal.Else-not-is_within_any g) → AreSomeFacets g.row.D c.args.points.now c.if-first-points.facets.items
known g c = elim c.if-first-points.branch [
  | then-first-points+in_ok-consider w ↦ rw w.facets-is w.consider.ensures.known
  | else-first-points w ↦ rw w.facets-is c.loop-generator.invariant.known
]

pub loop-generator-preserved : goal.loop-generator-preserved
loop-generator-preserved g c = record {
  known = known g c;
  within = within_more g.row.D c.args.generators.now c.loop-generator.facets.items c.if-first-points.facets.items c.loop-generator.generator-index
      c.generator-item.result (omega arith) c.generator-item.is (kept g c)
      (subst (λ (xs : List ℕ). IsWithinAny c.generator-item.result.tight xs) c.deref.ensures.value (c.is_within_any.ensures c.if-not-is_within_any.false))
      c.loop-generator.invariant.within;
}
