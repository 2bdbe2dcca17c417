use Rattle.std.proofs.Common.{◌∙◌, ap, ◌++◌, List, ℕ, length}
use Rattle.lists.proofs.Tests.{not_empty}
use Rattle.table_file.proofs.IndexedWritingLaws.{record_put}
use Rattle.table_file.proofs.indexed_writing.append_record.Goals as goal

pub returns : goal.returns
returns g c =
    record_put c.args.label c.args.place c.args.tuples.now c.args.bytes.now.items c.append.new.bytes.items
    (not_empty (length c.args.tuples.now) c.is_empty.result c.is_empty.ensures c.if-is_empty.false)
    (c.in_ok-append.ensures ∙ ap (λ (l : List ℕ). c.args.bytes.now.items ++ l) c.record.ensures)
