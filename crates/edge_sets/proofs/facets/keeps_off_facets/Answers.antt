use Rattle.std.proofs.Common.{sym, ◌∙◌, subst, ◌≡◌, true, List, ℕ}
use Rattle.std.specs.Prelude.{not}
use Rattle.std.specs.List.{list_all, list_any}
use Rattle.std.proofs.lemmas.List.{take_all}
use Rattle.edge_sets.proofs.FacetRule.{facet_rule, facet_fails}
use Rattle.lists.specs.Bits.{is_set}
use Rattle.edge_sets.proofs.facets.keeps_off_facets.Goals as goal

pub returns-then-lies_in_some : goal.returns-then-lies_in_some
returns-then-lies_in_some g c = λ kind s.
    facet_fails kind g.row.D c.args.facets.now c.args.tuples.now c.loop-tuple.tuple-index c.tuple-item.result s c.loop-tuple-test.true c.tuple-item.is
    c.if-lies_in_some.ensures

pub returns : goal.returns
returns g c = λ kind s.
    let facets = c.args.facets.now in
    let all = take_all c.loop-tuple.tuple-index c.args.tuples.now c.loop-tuple-test.false in
    sym (facet_rule kind g.row.D facets c.args.tuples.now s
    ∙ subst (λ (l : List (List ℕ)). list_all (λ w. not (list_any (λ set. list_all (is_set set) w) facets)) l ≡ true) all c.loop-tuple.invariant)
