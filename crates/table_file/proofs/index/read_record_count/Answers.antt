use Rattle.std.proofs.Common.{arith}
use Rattle.iso_formats.specs.TableFile2.{record_count}
use Rattle.iso_formats.proofs.TableFieldLaws.{before_all, cut_fault, wrong_fault, field_good, count_judged}
use Rattle.iso_formats.proofs.TableWalkLaws.{le_from}
use Rattle.std.proofs.lemmas.Bool.{lt-leb}
use Rattle.table_file.proofs.index.read_record_count.Goals as goal

pub returns-then-bytes-lt20-clause-cause : goal.returns-then-bytes-lt20-clause-cause
returns-then-bytes-lt20-clause-cause g c =
    cut_fault c.args.kind g.row.D c.args.bytes.now record_count tt (before_all c.args.kind g.row.D c.args.bytes.now) (omega (arith, c.if-bytes-lt20.true))

pub returns-then-records-labels-clause-cause : goal.returns-then-records-labels-clause-cause
returns-then-records-labels-clause-cause g c =
    wrong_fault c.args.kind g.row.D c.args.bytes.now record_count tt (before_all c.args.kind g.row.D c.args.bytes.now) (omega (arith, c.if-bytes-lt20.false))
    (lt-leb _ _ (omega (arith, c.if-records-labels.true, c.u32_at-records.ensures, c.labels.ensures)))

pub returns-clause-right : goal.returns-clause-right
returns-clause-right g c =
    count_judged c.args.kind g.row.D c.args.bytes.now
    (field_good c.args.kind g.row.D c.args.bytes.now record_count (omega (arith, c.if-bytes-lt20.false))
    (le_from _ _ (omega (arith, c.if-records-labels.false, c.u32_at-records.ensures, c.labels.ensures))))
