use Rattle.std.proofs.Common.{ℕ, ◌<◌, slice_index_or}
use Rattle.halfspace.specs.Choices.{AreSomeFacets}
use Rattle.hull_dd.specs.declared.generators.Generator.{Generator}
use Rattle.hull_dd.specs.Steps.{IsWithinAny}
use Rattle.hull_dd.proofs.describe.gather.Given as goal

-- the generators so far
abbrev pub invariant-loop-generator : goal.invariant-loop-generator
invariant-loop-generator g l = record {
  known : AreSomeFacets g.row.D l.points l.facets.items;
  within : (k : ℕ) (d : Generator g.row.D) → k < l.generator-index → IsWithinAny (slice_index_or l.generators k d).tight l.facets.items;
}
