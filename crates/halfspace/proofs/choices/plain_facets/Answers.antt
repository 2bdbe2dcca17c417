-- Each facet has a choice that is tried, and a sort only changes the order.
use Rattle.std.proofs.Common.{arith}
use Rattle.std.proofs.lemmas.List.Sorted.{IsNonDecreasingBy-from_sort}
use Rattle.halfspace.proofs.Bases.{facet_choice}
use Rattle.halfspace.proofs.FoundSets.{all_facets}
use Rattle.halfspace.proofs.choices.plain_facets.Goals as goal

pub returns : goal.returns
returns g c =
    all_facets g.row.D c.args.points.now c.choose.new.facets.items c.sort_unstable.new.self.items c.sort_unstable.ensures.permutation
    (IsNonDecreasingBy-from_sort (λ x. x) c.sort_unstable.new.self.items c.sort_unstable.ensures.sorted) c.choose.ensures.known
    (λ set facet. let h = facet_choice g.row.D c.requires.greatest c.args.points.now c.know_lengths.ensures set facet in
    c.in_ok-choose.ensures.tried h.choice h.ascending (let e = h.full in omega arith) set facet h.within h.spans)
