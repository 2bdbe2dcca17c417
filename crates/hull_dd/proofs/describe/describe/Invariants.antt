use Rattle.std.proofs.Common.{◌≡◌, ℕ, ◌<◌}
use Rattle.std.specs.Int.{bit_at}
use Rattle.hull_dd.specs.Generators.{Generate}
use Rattle.hull_dd.proofs.describe.describe.Given as goal

-- the generators of the points so far
abbrev pub invariant-loop-i : goal.invariant-loop-i
invariant-loop-i g l = record {
  generate : Generate g.row.D l.points l.seen l.generators.items;
  before : (j : ℕ) → j < l.i → bit_at l.seen j ≡ 1;
}
