use Rattle.std.proofs.Common.{subst}
use Rattle.std.specs.Prelude.{IfOk}
use Rattle.iso_formats.specs.HeaderLines.{Content}
use Rattle.nrrd_raw.specs.States.{AddsLine}
use Rattle.nrrd_raw.proofs.StatedLaws.{adds-passed}
use Rattle.nrrd_raw.proofs.fields.stated.Stated.with_line.Goals as goal

pub returns-in-PassedOver-clause-kept : goal.returns-in-PassedOver-clause-kept
returns-in-PassedOver-clause-kept c = λ texts text e h n. adds-passed _ _ _ _ _ texts text c.args.number _ c.in-PassedOver.ensures e h

pub returns-in-Field-clause-kept : goal.returns-in-Field-clause-kept
returns-in-Field-clause-kept c =
    subst (λ (k : Content). IfOk c.with_field.result (λ next. AddsLine c.args.self next c.args.number k)) c.in-Field.ensures c.with_field.ensures.kept
