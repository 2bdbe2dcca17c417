use Rattle.std.proofs.Common.{arith}
use Rattle.table_file.proofs.TupleRows.{small_counts}
use Rattle.table_file.proofs.index.read_index.Goals as goal

pub judge_offset-requires-clause-labels : goal.judge_offset-requires-clause-labels
judge_offset-requires-clause-labels g c =
    omega (arith, (small_counts c.args.kind g.row.D c.requires.head.fits).labels, c.in_ok-records.ensures.labels)
