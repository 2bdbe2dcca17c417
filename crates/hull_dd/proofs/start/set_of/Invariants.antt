use Rattle.std.proofs.Common.{take}
use Rattle.hull_dd.specs.Starts.{IsSetOf}
use Rattle.hull_dd.proofs.start.set_of.Given as goal

-- the set of the points so far
abbrev pub invariant-loop-i : goal.invariant-loop-i
invariant-loop-i g l = IsSetOf (take l.i-index l.choice) l.set
