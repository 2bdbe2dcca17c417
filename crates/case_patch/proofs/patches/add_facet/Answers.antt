use Rattle.std.proofs.Common.{◌≡◌, ◌+◌, ◌∷◌, ◌++◌, [], ◌∙◌, ap, sym, subst, List, ℕ, map, take, Contains, arith}
use Rattle.std.proofs.lemmas.List.{take_all, take_more}
use Rattle.pulling_tri.specs.PointSets.{point_set}
use Rattle.case_patch.specs.Tuples.{Adds, IsNamed, IsTupleOf}
use Rattle.case_patch.proofs.AddedTuples.{OfSome, of_more, adds_same}
use Rattle.case_patch.proofs.patches.add_facet.Goals as goal

pub loop-simplex-preserved : goal.loop-simplex-preserved
loop-simplex-preserved g c =
    let more : take (c.loop-simplex.simplex-index + 1) c.deref-simplex-items.result.now
    ≡ take c.loop-simplex.simplex-index c.deref-simplex-items.result.now ++ c.simplex-item.result ∷ [] =
    take_more c.deref-simplex-items.result.now c.loop-simplex.simplex-index c.simplex-item.result c.loop-simplex-test.true
    ∙ ap (λ (x : List ℕ). take c.loop-simplex.simplex-index c.deref-simplex-items.result.now ++ x ∷ []) (sym c.simplex-item.is) in
    subst (λ (xs : List (List ℕ)). Adds (OfSome (IsNamed c.args.edges.now) xs) c.args.tuples.now.items c.add_named.new.tuples.items) (sym more)
    (of_more (IsNamed c.args.edges.now) (take c.loop-simplex.simplex-index c.deref-simplex-items.result.now) c.simplex-item.result
    c.args.tuples.now.items c.loop-simplex.tuples.items c.add_named.new.tuples.items
    c.loop-simplex.invariant c.in_ok-add_named.ensures)

pub returns : goal.returns
returns g c =
    let all : take c.loop-simplex.simplex-index c.deref-simplex-items.result.now ≡ c.in_ok-simplices.simplices.items =
    take_all c.loop-simplex.simplex-index c.deref-simplex-items.result.now (omega arith) ∙ c.deref-simplex-items.ensures.value in
    adds_same (OfSome (IsNamed c.args.edges.now) c.in_ok-simplices.simplices.items)
    (IsTupleOf (Contains (map point_set c.args.facets.now)) g.row.D c.args.edges.now (point_set c.args.facet)) c.args.tuples.now.items
    c.loop-simplex.tuples.items
    (λ t. (λ p. (p.0, (c.in_ok-simplices.ensures.each p.0).0 p.1, p.2), λ q. (q.0, (c.in_ok-simplices.ensures.each q.0).1 q.1, q.2)))
    (subst (λ (xs : List (List ℕ)). Adds (OfSome (IsNamed c.args.edges.now) xs) c.args.tuples.now.items c.loop-simplex.tuples.items) all
    c.loop-simplex.invariant)
