-- The set of a generator that is tight at the point, and the meets of one that has it inside.
use Rattle.std.proofs.Common.{◌≡◌, ◌∙◌, ℤ, pos, ◌<ℤ◌, List, arith, sym, slice_index_or}
use Rattle.hull_dd.specs.Generators.{with_point}
use Rattle.hull_dd.specs.Steps.{slacks_at, IsWithinSome, AreMeetsWithin}
use Rattle.hull_dd.proofs.Covering.{within_with, on_more, pairs_more, all_within}
use Rattle.hull_dd.proofs.Staying.{not_above, not_zero_test}
use Rattle.hull_dd.proofs.step.are_all_within.Given as given
use Rattle.hull_dd.proofs.step.are_all_within.Goals as goal
use Rattle.hull_dd.proofs.step.are_all_within.Goals.{else-slacks-k-eq0-via-then-slacks-k-eq0+else-not-is_within_some}
use Rattle.hull_dd.proofs.step.are_all_within.Goals.{else-slacks-k-eq0-via-else-slacks-k-eq0}
use Rattle.hull_dd.proofs.step.are_all_within.Goals.{else-slacks-k-gt0-via-then-slacks-k-gt0+else-not-are_meets_within}
use Rattle.hull_dd.proofs.step.are_all_within.Goals.{else-slacks-k-gt0-via-else-slacks-k-gt0}

on_here : (g : given.Over) (c : goal.Joined-else-slacks-k-gt0 g) → slice_index_or c.args.slacks.now c.loop-k.k (pos 0) ≡ pos 0
    → IsWithinSome (with_point c.index-generators-k.result.tight c.args.i) c.args.next.now
on_here g c z = elim c.else-slacks-k-eq0.branch [
  | else-slacks-k-eq0-via-then-slacks-k-eq0+else-not-is_within_some w ↦ within_with g.row.D c.index-generators-k.result.tight c.args.i c.args.next.now
      c.requires.number
      (sym w.is_within_some.ensures ∙ w.if-not-is_within_some.false)
  | else-slacks-k-eq0-via-else-slacks-k-eq0 w ↦ absurd (not_zero_test c.args.slacks.now c.loop-k.k w.if-slacks-k-eq0.false z)
]

meets_here : (g : given.Over) (c : goal.Joined-else-slacks-k-gt0 g) → pos 0 <ℤ slice_index_or c.args.slacks.now c.loop-k.k (pos 0) → (x : List ℤ)
    → c.args.slacks.now ≡ slacks_at x c.args.generators.now
    → AreMeetsWithin x c.args.i c.index-generators-k.result.tight c.args.generators.now c.args.next.now
meets_here g c p x e = elim c.else-slacks-k-gt0.branch [
  | else-slacks-k-gt0-via-then-slacks-k-gt0+else-not-are_meets_within w ↦ w.are_meets_within.ensures w.if-not-are_meets_within.false x e
  | else-slacks-k-gt0-via-else-slacks-k-gt0 w ↦ absurd (not_above c.args.slacks.now c.loop-k.k c.requires.small (omega arith) w.if-slacks-k-gt0.false p)
]

pub loop-k-preserved : goal.loop-k-preserved
loop-k-preserved g c = record {
  on = on_more g.row.D c.args.i c.args.generators.now c.args.slacks.now c.args.next.now c.loop-k.k c.index-generators-k.result (omega arith)
      c.index-generators-k.is (on_here g c) c.loop-k.invariant.on;
  meets = pairs_more g.row.D c.args.i c.args.generators.now c.args.slacks.now c.args.next.now c.loop-k.k c.index-generators-k.result (omega arith)
      c.index-generators-k.is (meets_here g c) c.loop-k.invariant.meets;
}

pub returns : goal.returns
returns g c = λ t x e. all_within g.row.D c.args.i x c.args.generators.now c.args.slacks.now c.args.next.now e
    (λ k d l p. c.loop-k.invariant.on k d (omega arith) p) (λ k d l p y f. c.loop-k.invariant.meets k d (omega arith) p y f)
