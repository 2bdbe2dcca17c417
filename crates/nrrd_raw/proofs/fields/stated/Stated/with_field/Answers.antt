use Rattle.std.proofs.Common.{◌∙◌, ℕ, List, sym, subst}
use Rattle.std.specs.Prelude.{IfOk, IfErr}
use Rattle.iso_formats.specs.HeaderLines.{named_field}
use Rattle.nrrd_raw.specs.States.{AddsLine, HasCause}
use Rattle.nrrd_raw.proofs.WordLaws.{lower-lower}
use Rattle.nrrd_raw.proofs.StatedLaws.{adds-skip, adds-other}
use Rattle.nrrd_raw.proofs.fields.stated.Stated.with_field.Goals as goal

pub returns-then-is_zero-clause-kept : goal.returns-then-is_zero-clause-kept
returns-then-is_zero-clause-kept c = λ texts text e h n.
    adds-skip _ _ _ _ _ texts text _ c.args.value.now c.args.number (lower-lower c.args.name.now) c.in-Skip.ensures
    (sym c.is_zero.ensures ∙ c.if-is_zero.true) e h

pub returns-else-has-clause-kept : goal.returns-else-has-clause-kept
returns-else-has-clause-kept c =
    subst (λ (name : List ℕ). IfOk c.with_value.result (λ next. AddsLine c.args.self next c.args.number (named_field name c.args.value.now)))
    (sym c.in-Read.ensures) c.with_value.ensures.kept

pub returns-else-has-clause-cause : goal.returns-else-has-clause-cause
returns-else-has-clause-cause c =
    subst (λ (name : List ℕ). IfErr c.with_value.result (HasCause c.args.self c.args.number (named_field name c.args.value.now)))
    (sym c.in-Read.ensures) c.with_value.ensures.cause

pub returns-in-Other-clause-kept : goal.returns-in-Other-clause-kept
returns-in-Other-clause-kept c = λ texts text e h n.
    adds-other _ _ _ _ _ texts text _ c.args.value.now c.args.number c.in-Other.ensures.0 c.in-Other.ensures.1 c.in-Other.ensures.2 e h
