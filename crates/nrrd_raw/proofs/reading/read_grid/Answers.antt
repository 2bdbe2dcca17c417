use Rattle.std.proofs.Common.{◌+◌, ◌^◌, inl, inr, arith, subst, sym, ap, Option, List, ℕ}
use Rattle.std.proofs.lemmas.Bool.{cases_lt}
use Rattle.iso_model.specs.Values.{product}
use Rattle.iso_base.specs.Shelves.{TakesAtMost}
use Rattle.nrrd_raw.proofs.TakenLaws.{TakesAtMost-grid, TakesAtMost-more}
use Rattle.std.proofs.lemmas.Result.{err_from_is_err_and}
use Rattle.nrrd_raw.proofs.ReadingLaws.{grid-read, grid-samples_fault, grid-header_fault}
use Rattle.iso_formats.specs.GridFile.{sample_limit}
use Rattle.nrrd_raw.specs.Undecided.{EndsOpenFile, TakesSuch}
use Rattle.nrrd_raw.proofs.OpenFileLaws.{blamed_header, blames_samples, header_ends, samples_end}
use Rattle.nrrd_raw.proofs.reading.read_grid.Goals as goal

pub returns-clause-taken : goal.returns-clause-taken
returns-clause-taken g c =
    let header = c.in_ok-header.header in
    elim (cases_lt (2 ^ 27) (product header.sizes)) [
      | inl large ↦
          subst (λ (now : Option (List ℕ)). TakesAtMost (2 ^ 29 + 65537) (g.S.Shelf.rest c.args.shelf.now) now)
          (sym (ap g.S.Shelf.rest (c.read_samples.ensures.untouched large)))
          (TakesAtMost-more 65536 (2 ^ 29 + 65537) _ _ c.read_header.ensures.taken (omega arith))
      | inr few ↦
          TakesAtMost-grid (product header.sizes) header.width _ _ _ c.read_header.ensures.taken c.read_samples.ensures.taken few
          c.in_ok-header.ensures.regular.wide
    ]

pub returns-in_err-header-clause-cause : goal.returns-in_err-header-clause-cause
returns-in_err-header-clause-cause g c =
    let p = err_from_is_err_and c.from_residual.result c.from_residual.ensures.1 in
    rw (p.1, p.2) (grid-header_fault (g.S.Shelf.rest c.args.shelf.now) c.in_err-header.field-0.0 c.in_err-header.ensures.cause)

pub returns-clause-spelled : goal.returns-clause-spelled
returns-clause-spelled g c =
    grid-read c.read_samples.result (g.S.Shelf.rest c.args.shelf.now) _ c.in_ok-header.header c.in_ok-header.ensures.read
    c.read_samples.ensures.spelled

pub returns-clause-cause : goal.returns-clause-cause
returns-clause-cause g c =
    grid-samples_fault c.read_samples.result (g.S.Shelf.rest c.args.shelf.now) _ c.in_ok-header.header c.in_ok-header.ensures.read
    c.read_samples.ensures.cause

pub returns-in_err-header-clause-no_further : goal.returns-in_err-header-clause-no_further
returns-in_err-header-clause-no_further g c = header_ends _ _ c.read_header.ensures.no_further

pub returns-in_err-header-clause-undecided : goal.returns-in_err-header-clause-undecided
returns-in_err-header-clause-undecided g c =
    let p = err_from_is_err_and c.from_residual.result c.from_residual.ensures.1 in
    rw (p.1, p.2) (blamed_header (g.S.Shelf.rest c.args.shelf.now) _ c.in_err-header.field-0.0 c.in_err-header.ensures.undecided)

pub returns-clause-no_further : goal.returns-clause-no_further
returns-clause-no_further g c =
    let header = c.in_ok-header.header in
    elim (cases_lt sample_limit (product header.sizes)) [
      | inl large ↦
          subst (λ (now : Option (List ℕ)). TakesSuch EndsOpenFile (g.S.Shelf.rest c.args.shelf.now) now)
          (sym (ap g.S.Shelf.rest (c.read_samples.ensures.untouched large)))
          (header_ends _ _ c.read_header.ensures.no_further)
      | inr few ↦ samples_end _ _ _ header c.in_ok-header.ensures.read c.read_header.ensures.no_further few c.read_samples.ensures.taken
    ]

pub returns-clause-undecided : goal.returns-clause-undecided
returns-clause-undecided g c =
    blames_samples c.read_samples.result _ _ _ c.in_ok-header.header c.in_ok-header.ensures.read c.read_header.ensures.no_further
    c.read_samples.ensures.undecided
