use Rattle.std.proofs.Common.{◌≡◌, ℕ, ◌<◌, ℤ, pos, ◌<ℤ◌, List, slice_index_or}
use Rattle.hull_dd.specs.declared.generators.Generator.{Generator}
use Rattle.hull_dd.specs.Generators.{with_point}
use Rattle.hull_dd.specs.Steps.{slacks_at, IsWithinSome, AreMeetsWithin}
use Rattle.hull_dd.proofs.step.are_all_within.Given as goal

-- the generators so far
abbrev pub invariant-loop-k : goal.invariant-loop-k
invariant-loop-k g l = record {
  on : (k : ℕ) (e : Generator g.row.D) → k < l.k → slice_index_or l.slacks k (pos 0) ≡ pos 0
      → IsWithinSome (with_point (slice_index_or l.generators k e).tight l.fn.i) l.next;
  meets : (k : ℕ) (e : Generator g.row.D) → k < l.k → pos 0 <ℤ slice_index_or l.slacks k (pos 0)
      → (x : List ℤ) → l.slacks ≡ slacks_at x l.generators → AreMeetsWithin x l.fn.i (slice_index_or l.generators k e).tight l.generators l.next;
}
