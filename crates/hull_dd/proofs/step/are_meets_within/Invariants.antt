use Rattle.std.proofs.Common.{ℕ, ◌<◌, pos, ◌<ℤ◌, slice_index_or}
use Rattle.std.specs.Prelude.{bit_and}
use Rattle.hull_dd.specs.declared.generators.Generator.{Generator}
use Rattle.hull_dd.specs.Generators.{with_point}
use Rattle.hull_dd.specs.Steps.{IsWithinSome}
use Rattle.hull_dd.proofs.step.are_meets_within.Given as goal

-- the meets so far
abbrev pub invariant-loop-k : goal.invariant-loop-k
invariant-loop-k g l =
    (k : ℕ) (e : Generator g.row.D) → k < l.k → slice_index_or l.slacks k (pos 0) <ℤ pos 0 → IsWithinSome
    (with_point (bit_and l.set (slice_index_or l.generators k e).tight) l.fn.i) l.next
