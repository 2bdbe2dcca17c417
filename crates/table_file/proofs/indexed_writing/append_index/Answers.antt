use Rattle.std.proofs.Common.{arith, ◌<◌, length}
use Rattle.table_file.proofs.IndexedWritingLaws.{one_more_record, next_body}
use Rattle.table_file.proofs.indexed_writing.append_index.Goals as goal

pub loop-label-preserved : goal.loop-label-preserved
loop-label-preserved g c =
    let es = c.args.table.now.entries in
    let i = c.loop-label.label in
    let inside : i < length es = omega (arith, c.labels-label-end.ensures.entries, c.loop-label-test.true) in
    let longer = next_body es i c.tuples-tuples.result.now inside c.tuples-tuples.ensures.tuples in
    record {
      put =
          one_more_record es c.args.place i c.loop-label.next c.tuples-tuples.result.now c.args.bytes.now.items c.loop-label.bytes.items
          c.append_record.new.bytes.items inside c.tuples-tuples.ensures.tuples c.loop-label.invariant.next c.loop-label.invariant.put
          c.in_ok-append_record.ensures;
      next = omega (arith, c.loop-label.invariant.next, c.body_length.ensures.length, longer);
      few = omega (arith, c.loop-label.invariant.few, c.body_length.ensures.few);
    }
