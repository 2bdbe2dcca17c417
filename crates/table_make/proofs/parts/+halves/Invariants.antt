use Rattle.std.proofs.Common.{◌-◌}
use Rattle.table_make.proofs.parts.+halves.Given as goal

abbrev pub decreases-join+arg2 : goal.decreases-join+arg2
decreases-join+arg2 g l = l.half

abbrev pub decreases-join+arg3 : goal.decreases-join+arg3
decreases-join+arg3 g l = l.count - l.half

abbrev pub decreases-pieces : goal.decreases-pieces
decreases-pieces g l = l.count
