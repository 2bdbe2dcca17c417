use Rattle.std.proofs.Common.{◌≡◌, ℕ, ◌<◌, ◌≤◌, get_or}
use Rattle.cube_moves.proofs.least.least_flips.Given as goal

-- the least one so far, and the first flips that lead to it
abbrev pub invariant-loop-flips : goal.invariant-loop-flips
invariant-loop-flips g l = record {
  within : l.first < l.flips;
  is_there : l.least ≡ get_or l.labels l.first 0;
  is_least : (f : ℕ) → f < l.flips → l.least ≤ get_or l.labels f 0;
  is_first : (f : ℕ) → f < l.first → l.least < get_or l.labels f 0;
}
