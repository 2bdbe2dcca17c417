use Rattle.std.proofs.Common.{ℕ, ◌<◌, pos, ◌<ℤ◌, slice_index_or, All, Contains}
use Rattle.hull_dd.specs.declared.generators.Generator.{Generator}
use Rattle.hull_dd.specs.Steps.{KeepsOnes}
use Rattle.hull_dd.proofs.step.stay.Given as goal

-- the generators so far
abbrev pub invariant-loop-k : goal.invariant-loop-k
invariant-loop-k g l = record {
  kept : All (Contains l.next.items) l.initial.next.items;
  inside : (k : ℕ) (e : Generator g.row.D) → k < l.k → pos 0 <ℤ slice_index_or l.slacks k (pos 0) → Contains l.next.items (slice_index_or l.generators k e);
  ones : (i : ℕ) → KeepsOnes g.row.D i l.generators l.slacks l.initial.next.items l.next.items;
}
