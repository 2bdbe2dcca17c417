use Rattle.std.proofs.Common.{◌≡◌, ℕ, ◌<◌, get_or, pos, length, ◌-ℤ◌}
use Rattle.label_rules.proofs.side.step.Given as goal

-- the coordinates so far
abbrev pub invariant-loop-axis : goal.invariant-loop-axis
invariant-loop-axis g l = (length l.step ≡ l.axis-end) × ((k : ℕ) → k < l.axis → get_or l.step k (pos 0) ≡ get_or l.to k (pos 0) -ℤ get_or l.from k (pos 0))
