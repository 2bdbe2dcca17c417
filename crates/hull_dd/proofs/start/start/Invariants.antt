use Rattle.hull_dd.proofs.Starts.{HasOpposites}
use Rattle.hull_dd.proofs.start.start.Given as goal

-- the generators so far
abbrev pub invariant-loop-k : goal.invariant-loop-k
invariant-loop-k g l = HasOpposites g.row.D l.points l.corners l.k l.generators.items
