use Rattle.std.proofs.Common.{◌≡◌, ℕ, ◌<◌, [], List, length, arith, rules}
use Rattle.std.proofs.lemmas.Result.{err_from_is_err_and}
use Rattle.std.proofs.KnownBytes.{Consumes-nil}
use Rattle.nrrd_raw.specs.Slices.{step_length, slice_count, SliceReader}
use Rattle.nrrd_raw.proofs.SliceLaws.{step-end}
use Rattle.nrrd_raw.proofs.OpenLaws.{blame-kept}
use Rattle.nrrd_raw.proofs.samples.slices.SliceReader.step.Goals as goal

pub returns-in_err-see_end-clause-undecided : goal.returns-in_err-see_end-clause-undecided
returns-in_err-see_end-clause-undecided g c =
    let all : c.args.self.now.given ≡ slice_count c.args.self.now.header = search rules in
    let p = err_from_is_err_and c.from_residual.result c.from_residual.ensures.1 in
    rw (p.1, p.2)
    (blame-kept c.in_err-see_end.field-0.0 (λ (bs : List ℕ). length bs < step_length c.args.self.now) _ _ _ [] (Consumes-nil _)
    (omega (arith, step-end c.args.self.now all)) c.in_err-see_end.ensures.undecided)
