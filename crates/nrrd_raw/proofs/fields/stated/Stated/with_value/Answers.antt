use Rattle.std.proofs.Common.{sym, subst}
use Rattle.std.specs.Prelude.{IfOk}
use Rattle.iso_formats.specs.declared.Field.{Field}
use Rattle.iso_formats.specs.HeaderLines.{named_field, field_name}
use Rattle.nrrd_raw.specs.States.{AddsLine}
use Rattle.nrrd_raw.proofs.fields.stated.Stated.with_value.Goals as goal

pub returns-in-SampleType-clause-kept : goal.returns-in-SampleType-clause-kept
returns-in-SampleType-clause-kept c =
    subst
    (λ (f : Field). IfOk c.with_sample_type.result (λ next. AddsLine c.args.self next c.args.number (named_field (field_name f) c.args.value.now)))
    (sym c.in-SampleType.is) c.with_sample_type.ensures.kept

pub returns-in-Dimension-clause-kept : goal.returns-in-Dimension-clause-kept
returns-in-Dimension-clause-kept c =
    subst
    (λ (f : Field). IfOk c.with_dimension.result (λ next. AddsLine c.args.self next c.args.number (named_field (field_name f) c.args.value.now)))
    (sym c.in-Dimension.is) c.with_dimension.ensures.kept

pub returns-in-Sizes-clause-kept : goal.returns-in-Sizes-clause-kept
returns-in-Sizes-clause-kept c =
    subst (λ (f : Field). IfOk c.with_sizes.result (λ next. AddsLine c.args.self next c.args.number (named_field (field_name f) c.args.value.now)))
    (sym c.in-Sizes.is) c.with_sizes.ensures.kept

pub returns-in-Encoding-clause-kept : goal.returns-in-Encoding-clause-kept
returns-in-Encoding-clause-kept c =
    subst (λ (f : Field). IfOk c.with_encoding.result (λ next. AddsLine c.args.self next c.args.number (named_field (field_name f) c.args.value.now)))
    (sym c.in-Encoding.is) c.with_encoding.ensures.kept

pub returns-in-Endian-clause-kept : goal.returns-in-Endian-clause-kept
returns-in-Endian-clause-kept c =
    subst (λ (f : Field). IfOk c.with_endian.result (λ next. AddsLine c.args.self next c.args.number (named_field (field_name f) c.args.value.now)))
    (sym c.in-Endian.is) c.with_endian.ensures.kept
