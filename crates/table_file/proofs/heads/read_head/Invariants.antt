use Rattle.table_file.specs.Heads.{version_number}
use Rattle.table_file.proofs.HeadLaws.{HasReached}
use Rattle.table_file.proofs.heads.read_head.Given as goal

abbrev pub invariant-loop-number : goal.invariant-loop-number
invariant-loop-number l = HasReached (version_number l.version) l.bytes l.reached l.number
