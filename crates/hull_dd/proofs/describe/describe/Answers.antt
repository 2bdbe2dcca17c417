-- A point that is new is added, and one that is there stays.
use Rattle.std.proofs.Common.{List, sym, subst, arith}
use Rattle.hull_dd.specs.declared.generators.Generator.{Generator}
use Rattle.hull_dd.specs.Generators.{with_point, Generate}
use Rattle.hull_dd.proofs.Ends.{bit_found, set_with, before_more, before_added}
use Rattle.hull_dd.proofs.describe.describe.Goals as goal
use Rattle.hull_dd.proofs.describe.describe.Goals.{then-seen-i-eq0+in_ok-add_point+else-not-branch, else-seen-i-eq0}

pub loop-i-preserved : goal.loop-i-preserved
loop-i-preserved g c = elim c.if-seen-i-eq0.branch [
  | then-seen-i-eq0+in_ok-add_point+else-not-branch w ↦ (
      let added = set_with c.loop-i.seen c.loop-i.i c.if-seen-i-eq0.seen (omega arith) w.seen-is in
      let next : Generate g.row.D c.args.points.now (with_point c.loop-i.seen c.loop-i.i) w.add_point.new.next.items =
      w.in_ok-add_point.ensures w.if-not-branch.false c.loop-i.seen
      (subst (λ (xs : List (Generator g.row.D)). Generate g.row.D c.args.points.now c.loop-i.seen xs) (sym w.deref.ensures.value)
      c.loop-i.invariant.generate) in
      record {
        generate = rw w.generators-is (rw w.swap.ensures.x_after (rw added next));
        before = rw added (before_added c.loop-i.seen c.loop-i.i c.loop-i.invariant.before);
      }
      )
  | else-seen-i-eq0 w ↦ record {
    generate = rw (w.generators-is, w.seen-is) c.loop-i.invariant.generate;
    before = rw w.seen-is (before_more c.loop-i.seen c.loop-i.i c.loop-i.invariant.before (bit_found c.loop-i.seen c.loop-i.i w.if-seen-i-eq0.false));
  }
]
