use Rattle.std.proofs.Common.{arith}
use Rattle.std.proofs.lemmas.List.{length-map}
use Rattle.table_file.proofs.TupleRows.{small_counts}
use Rattle.table_file.proofs.tables.Table.labels.Goals as goal

pub overflow_cast-result : goal.overflow_cast-result
overflow_cast-result g c =
    let small = small_counts c.self.inside.kind g.row.D c.self.invariant.fits in
    omega (arith, small.labels, c.self.invariant.whole, length-map c.self.inside.entries.items (λ entry. entry.items), c.len.ensures)
