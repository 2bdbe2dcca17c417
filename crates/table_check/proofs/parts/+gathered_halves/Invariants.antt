use Rattle.std.proofs.Common.{◌-◌}
use Rattle.table_check.proofs.parts.+gathered_halves.Given as goal

abbrev pub decreases-join+arg2 : goal.decreases-join+arg2
decreases-join+arg2 g l = l.half

abbrev pub decreases-join+arg3 : goal.decreases-join+arg3
decreases-join+arg3 g l = l.count - l.half

abbrev pub decreases-gather_parts : goal.decreases-gather_parts
decreases-gather_parts g l = l.count
