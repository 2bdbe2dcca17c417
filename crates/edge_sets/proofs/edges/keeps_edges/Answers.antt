use Rattle.std.proofs.Common.{refl, subst, ◌≡◌, true, List, ℕ}
use Rattle.std.specs.List.{list_all}
use Rattle.std.proofs.lemmas.List.{take_all}
use Rattle.edge_sets.specs.Sets.{is_sound_in}
use Rattle.edge_sets.proofs.EdgeRule.{IsCover, cover_none, cover_more, all_more, unsound, edges_rule}
use Rattle.edge_sets.proofs.edges.keeps_edges.Goals as goal

pub loop-tuple-init : goal.loop-tuple-init
loop-tuple-init g c = record { sound = refl; cover = cover_none }

pub loop-tuple-preserved : goal.loop-tuple-preserved
loop-tuple-preserved g c = record {
  sound =
      all_more c.args.bipolar c.args.tuples.now c.loop-tuple.tuple-index c.tuple-item.result c.loop-tuple-test.true c.tuple-item.is
      c.loop-tuple.invariant.sound c.in-Some.ensures.sound;
  cover =
      cover_more c.loop-tuple.covered c.in-Some.edges c.joined-covered.result c.args.tuples.now c.loop-tuple.tuple-index c.tuple-item.result
      c.loop-tuple-test.true c.tuple-item.is
      c.loop-tuple.invariant.cover c.in-Some.ensures.set c.joined-covered.ensures;
}

pub returns-in-None : goal.returns-in-None
returns-in-None g c =
    λ kind label s.
    unsound kind g.row.D label c.args.bipolar c.args.tuples.now c.loop-tuple.tuple-index c.tuple-item.result s c.loop-tuple-test.true
    c.tuple-item.is c.in-None.ensures.unsound

pub returns : goal.returns
returns g c = λ kind label s.
    edges_rule kind g.row.D label c.args.bipolar c.loop-tuple.covered c.args.tuples.now s
    (subst (λ (l : List (List ℕ)). list_all (is_sound_in c.args.bipolar) l ≡ true)
    (take_all c.loop-tuple.tuple-index c.args.tuples.now c.loop-tuple-test.false) c.loop-tuple.invariant.sound)
    (subst (λ (l : List (List ℕ)). IsCover c.loop-tuple.covered l) (take_all c.loop-tuple.tuple-index c.args.tuples.now c.loop-tuple-test.false)
    c.loop-tuple.invariant.cover)
