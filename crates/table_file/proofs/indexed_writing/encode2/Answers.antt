use Rattle.std.proofs.Common.{arith, ◌∙◌, ap}
use Rattle.iso_formats.specs.TableFile.{head_bytes}
use Rattle.iso_model.specs.declared.Kind.{Kind}
use Rattle.table_file.proofs.IndexedWritingLaws.{all_written}
use Rattle.table_file.proofs.indexed_writing.encode2.Goals as goal

pub append_index-requires : goal.append_index-requires
append_index-requires g c = (omega arith, omega (arith, c.index_end-2.ensures, c.measure-records.ensures.few_records))

pub returns : goal.returns
returns g c =
    let table = c.args.table.now in
    all_written table g.row.D c.measure-records.result.records c.index_end-2.result c.in-Ok.bytes.items c.append.new.bytes.items c.append-2.new.bytes.items
    c.append_index.new.bytes.items c.append_bodies.new.bytes.items c.head.result c.to_be_bytes.result c.kind.ensures.dimension
    c.measure-records.ensures.records c.index_end-2.ensures c.in-Ok.ensures.items c.in_ok-append.ensures
    (c.head.ensures ∙ ap (λ (k : Kind). head_bytes 2 k g.row.D) c.kind.ensures.kind) c.in_ok-append-2.ensures c.to_be_bytes.ensures
    c.in_ok-append_index.ensures c.in_ok-append_bodies.ensures
