use Rattle.std.proofs.Common.{arith}
use Rattle.table_file.proofs.IndexedWritingLaws.{few_labels}
use Rattle.table_file.proofs.indexed_writing.measure.Goals as goal

pub returns-clause-few_records : goal.returns-clause-few_records
returns-clause-few_records g c =
    let e = c.labels-label-end.ensures in
    omega (
      arith,
      few_labels c.args.table.now g.row.D c.labels-label-end.result e.table e.dimension e.labels,
      c.loop-label.invariant.few_records,
      c.loop-label.auto.label-end,
    )

pub returns-clause-few_bytes : goal.returns-clause-few_bytes
returns-clause-few_bytes g c =
    let e = c.labels-label-end.ensures in
    omega (
      arith,
      few_labels c.args.table.now g.row.D c.labels-label-end.result e.table e.dimension e.labels,
      c.loop-label.invariant.few_bytes,
      c.loop-label.auto.label-end,
    )
