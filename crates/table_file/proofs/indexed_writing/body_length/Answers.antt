use Rattle.std.proofs.Common.{length}
use Rattle.lists.proofs.Tests.{not_empty}
use Rattle.table_file.proofs.IndexedWritingLaws.{body_long}
use Rattle.table_file.proofs.indexed_writing.body_length.Goals as goal

pub returns-else-is_empty-clause-length : goal.returns-else-is_empty-clause-length
returns-else-is_empty-clause-length g c =
    let some = not_empty (length c.args.tuples.now) c.is_empty.result c.is_empty.ensures c.if-is_empty.false in
    body_long c.args.kind g.row.D c.args.tuples.now c.requires.entry some
