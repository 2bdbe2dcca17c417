-- A meet that lies within some tight set, and one that is not asked for.
use Rattle.std.proofs.Common.{arith, sym, ◌∙◌}
use Rattle.std.specs.Prelude.{bit_and}
use Rattle.hull_dd.proofs.Covering.{within_with, meets_more, meets_same, meets_all}
use Rattle.hull_dd.proofs.Staying.{not_below}
use Rattle.hull_dd.proofs.step.are_meets_within.Goals as goal
use Rattle.hull_dd.proofs.step.are_meets_within.Goals.{else-slacks-k-lt0-via-then-slacks-k-lt0+else-not-is_within_some, else-slacks-k-lt0-via-else-slacks-k-lt0}

pub loop-k-preserved : goal.loop-k-preserved
loop-k-preserved g c = elim c.else-slacks-k-lt0.branch [
  | else-slacks-k-lt0-via-then-slacks-k-lt0+else-not-is_within_some w ↦ meets_more g.row.D c.args.i c.args.set c.args.generators.now c.args.slacks.now
      c.args.next.now c.loop-k.k c.index-generators-k.result
      (omega arith) c.index-generators-k.is
      (within_with g.row.D (bit_and c.args.set c.index-generators-k.result.tight) c.args.i c.args.next.now c.requires.number
      (sym w.is_within_some.ensures ∙ w.if-not-is_within_some.false))
      c.loop-k.invariant
  | else-slacks-k-lt0-via-else-slacks-k-lt0 w ↦ meets_same g.row.D c.args.i c.args.set c.args.generators.now c.args.slacks.now c.args.next.now c.loop-k.k
      (not_below c.args.slacks.now c.loop-k.k c.requires.small (omega arith) w.if-slacks-k-lt0.false) c.loop-k.invariant
]

pub returns : goal.returns
returns g c = λ t x e. meets_all g.row.D c.args.i c.args.set x c.args.generators.now c.args.slacks.now c.args.next.now e
    (λ k d l p. c.loop-k.invariant k d (omega arith) p)
