-- A generator that has the point inside is added.
use Rattle.std.proofs.Common.{arith}
use Rattle.std.proofs.lemmas.List.Elements.{All-contains_itself}
use Rattle.hull_dd.proofs.Staying.{stay_more, tested_above, not_above, contained_more, inside_more, inside_same, has_inside}
use Rattle.hull_dd.proofs.step.stay.Goals as goal
use Rattle.hull_dd.proofs.step.stay.Goals.{then-slacks-k-gt0+in-Ok, else-slacks-k-gt0}

pub loop-k-init : goal.loop-k-init
loop-k-init g c = record {
  kept = All-contains_itself c.args.next.now.items;
  inside = λ k e l. absurd (omega arith);
  ones = λ i points set m ones. ones;
}

pub loop-k-preserved : goal.loop-k-preserved
loop-k-preserved g c = elim c.if-slacks-k-gt0.branch [
  | then-slacks-k-gt0+in-Ok w ↦ record {
    kept = rw w.next-is (rw w.in-Ok.ensures.items (contained_more c.args.next.now.items c.loop-k.next.items c.index-generators-k.result
        c.loop-k.invariant.kept));
    inside = rw w.next-is (rw w.in-Ok.ensures.items (inside_more g.row.D c.args.generators.now c.args.slacks.now c.loop-k.next.items c.loop-k.k
        c.index-generators-k.result (omega arith) c.index-generators-k.is c.loop-k.invariant.inside));
    ones = λ i. stay_more g.row.D i c.args.generators.now c.args.slacks.now c.args.next.now.items c.loop-k.next.items c.if-slacks-k-gt0.next.items
        c.loop-k.k c.index-generators-k.result
        (c.loop-k.invariant.ones i) (omega arith) c.index-generators-k.is (tested_above c.args.slacks.now c.loop-k.k c.requires.small (omega arith)
        w.if-slacks-k-gt0.true) (rw w.next-is w.in-Ok.ensures.items);
  }
  | else-slacks-k-gt0 w ↦ record {
    kept = rw w.next-is c.loop-k.invariant.kept;
    inside = rw w.next-is (inside_same g.row.D c.args.generators.now c.args.slacks.now c.loop-k.next.items c.loop-k.k
        (not_above c.args.slacks.now c.loop-k.k c.requires.small (omega arith) w.if-slacks-k-gt0.false) c.loop-k.invariant.inside);
    ones = rw w.next-is c.loop-k.invariant.ones;
  }
]

pub returns-clause-inside : goal.returns-clause-inside
returns-clause-inside g c = λ x e. has_inside g.row.D x c.args.generators.now c.args.slacks.now c.loop-k.next.items e
    (λ k d l. c.loop-k.invariant.inside k d (omega arith))
