use Rattle.std.proofs.Common.{◌≡◌, ℕ, ◌<◌, false, slice_index_or}
use Rattle.hull_dd.specs.declared.generators.Generator.{Generator}
use Rattle.hull_dd.specs.Generators.{is_within}
use Rattle.hull_dd.proofs.prune.is_within_some.Given as goal

-- the set lies within none so far
abbrev pub invariant-loop-generator : goal.invariant-loop-generator
invariant-loop-generator g l = (k : ℕ) (d : Generator g.row.D) → k < l.generator-index → is_within l.set (slice_index_or l.generators k d).tight ≡ false
