use Rattle.std.proofs.Common.{subst, ap}
use Rattle.std.proofs.lemmas.Result.{IfErr-weaker}
use Rattle.iso_formats.specs.TableFile2.{HasHeadOf}
use Rattle.table_file.specs.Heads.{version_number}
use Rattle.table_file.proofs.FileCauses.{first_cause, first_whole, second_only_memory}
use Rattle.table_file.proofs.reading.read_version.Goals as goal

pub returns-in-One-clause-whole : goal.returns-in-One-clause-whole
returns-in-One-clause-whole g c = λ w.
    let head = subst (λ v. HasHeadOf v c.args.bytes.now c.args.kind g.row.D) (ap version_number c.in-One.is) c.requires.head in
    c.read_table.ensures.whole (first_whole c.args.kind g.row.D c.args.bytes.now head w)

pub returns-in-One-clause-cause : goal.returns-in-One-clause-cause
returns-in-One-clause-cause g c =
    let head = subst (λ v. HasHeadOf v c.args.bytes.now c.args.kind g.row.D) (ap version_number c.in-One.is) c.requires.head in
    IfErr-weaker c.read_table.result _ _ (λ fault f. first_cause c.args.kind g.row.D c.args.bytes.now fault head f) c.read_table.ensures.cause

pub returns-in-Two-clause-whole : goal.returns-in-Two-clause-whole
returns-in-Two-clause-whole g c = λ w.
    let head = subst (λ v. HasHeadOf v c.args.bytes.now c.args.kind g.row.D) (ap version_number c.in-Two.is) c.requires.head in
    IfErr-weaker c.read_indexed.result _ _ (λ fault f. second_only_memory c.args.kind g.row.D c.args.bytes.now fault head f w) c.read_indexed.ensures.cause
