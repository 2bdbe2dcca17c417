use Rattle.std.proofs.Common.{sym, ap, ◌∙◌, arith, ◌<◌, ◌++◌, length, List, ℕ}
use Rattle.iso_model.specs.declared.Kind.{Kind}
use Rattle.iso_formats.specs.TableFile.{head_bytes}
use Rattle.table_file.proofs.Progress.{table_bytes-nil}
use Rattle.table_file.proofs.WritingLaws.{put_entry}
use Rattle.table_file.proofs.writing.encode.Goals as goal

pub loop-label-init : goal.loop-label-init
loop-label-init g c =
    c.in_ok-append.ensures ∙ ap (λ (l : List ℕ). l ++ c.head.result) c.in-Ok.ensures.items ∙ c.head.ensures
    ∙ ap (λ (k : Kind). head_bytes 1 k g.row.D) c.kind.ensures.kind ∙ sym (table_bytes-nil c.args.table.now.kind g.row.D)

pub loop-label-preserved : goal.loop-label-preserved
loop-label-preserved g c =
    let table = c.args.table.now in
    let inside : c.loop-label.label < length table.entries = omega (arith, c.labels-label-end.ensures.entries, c.loop-label-test.true) in
    put_entry table.kind g.row.D table.entries c.loop-label.label c.loop-label.bytes.items c.append-in-loop-label.new.bytes.items
    c.append-in-loop-label-2.new.bytes.items
    c.to_be_bytes.result c.as_flattened.result.now c.tuples-tuples.result.now inside c.loop-label.invariant c.tuples-tuples.ensures.tuples
    c.to_be_bytes.ensures c.as_flattened.ensures.value
    c.in_ok-append-2.ensures c.in_ok-append-3.ensures
