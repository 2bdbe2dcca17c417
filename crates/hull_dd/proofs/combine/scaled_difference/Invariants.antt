use Rattle.std.proofs.Common.{◌≡◌, ℕ, ◌<◌, ◌*ℤ◌, ◌-ℤ◌, get_or, pos, length}
use Rattle.hull_dd.proofs.combine.scaled_difference.Given as goal

-- the numbers so far
abbrev pub invariant-loop-i : goal.invariant-loop-i
invariant-loop-i g l = record {
  all : length l.row ≡ l.i-end;
  same : (k : ℕ) → k < l.i → get_or l.row k (pos 0) ≡ l.fn.p *ℤ get_or l.xs k (pos 0) -ℤ l.fn.q *ℤ get_or l.ys k (pos 0);
}
