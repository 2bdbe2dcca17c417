-- Each facet is found, and a sort only changes the order.
use Rattle.std.proofs.Common.{List, subst}
use Rattle.std.proofs.lemmas.List.Sorted.{IsNonDecreasingBy-from_sort}
use Rattle.halfspace.proofs.FoundSets.{all_facets}
use Rattle.hull_dd.specs.declared.generators.Generator.{Generator}
use Rattle.hull_dd.specs.Steps.{AreWithinAny}
use Rattle.hull_dd.proofs.Ends.{facet_found}
use Rattle.hull_dd.proofs.describe.described_facets.Goals as goal

pub returns : goal.returns
returns g c =
    all_facets g.row.D c.args.points.now c.gather.new.facets.items c.sort_unstable.new.self.items c.sort_unstable.ensures.permutation
    (IsNonDecreasingBy-from_sort (λ x. x) c.sort_unstable.new.self.items c.sort_unstable.ensures.sorted) c.in_ok-gather.ensures.known
    (facet_found g.row.D c.requires.least c.requires.greatest c.args.points.now c.requires.wide c.describe.new.generators.items
    (c.in_ok-describe.ensures c.if-not-branch.false) c.gather.new.facets.items
    c.in_ok-gather.ensures.known
    (subst (λ (xs : List (Generator g.row.D)). AreWithinAny xs c.gather.new.facets.items) c.deref.ensures.value
    (c.in_ok-gather.ensures.within c.if-not-branch-2.false)))
