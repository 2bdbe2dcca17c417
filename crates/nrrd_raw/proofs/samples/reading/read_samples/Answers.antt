use Rattle.std.proofs.Common.{◌≤◌, ◌+◌, ◌*◌, ◌^◌, arith}
use Rattle.nrrd_raw.specs.FaultCauses.{data_length}
use Rattle.nrrd_raw.proofs.TakenLaws.{TakesAtMost-then}
use Rattle.std.proofs.lemmas.Result.{err_from_is_err_and}
use Rattle.nrrd_raw.proofs.ReadLaws.{HasSampleFault-too_large, HasSampleFault-cut, HasSampleFault-trailing}
use Rattle.nrrd_raw.proofs.samples.reading.read_samples.Goals as goal

pub returns-then-count-gt-SAMPLE_LIMIT-clause-cause :
    goal.returns-then-count-gt-SAMPLE_LIMIT-clause-cause
returns-then-count-gt-SAMPLE_LIMIT-clause-cause g c =
    HasSampleFault-too_large c.args.header.now _ c.sample_count-count.result (omega arith) c.sample_count-count.ensures

pub returns-in_err-take_samples-clause-cause : goal.returns-in_err-take_samples-clause-cause
returns-in_err-take_samples-clause-cause g c =
    let few : c.sample_count-count.result ≤ 2 ^ 27 = omega arith in
    let p = err_from_is_err_and c.from_residual.result c.from_residual.ensures.1 in
    rw (p.1, p.2)
    (HasSampleFault-cut c.args.header.now _ _ c.sample_count-count.result c.in_err-take_samples.field-0.0 (rw c.sample_count-count.ensures at few)
    c.sample_count-count.ensures c.in_err-take_samples.ensures.causes c.in_err-take_samples.ensures.cut)

pub returns-in_err-see_end-clause-taken : goal.returns-in_err-see_end-clause-taken
returns-in_err-see_end-clause-taken g c =
    TakesAtMost-then (c.sample_count-count.result * c.args.header.now.width) 1 (data_length c.args.header.now + 1) _ _ _
    c.take_samples.ensures.taken c.see_end.ensures.taken (rw c.sample_count-count.ensures (omega arith))

pub returns-in_err-see_end-clause-cause : goal.returns-in_err-see_end-clause-cause
returns-in_err-see_end-clause-cause g c =
    let few : c.sample_count-count.result ≤ 2 ^ 27 = omega arith in
    let p = err_from_is_err_and c.from_residual-in_err-see_end.result c.from_residual-in_err-see_end.ensures.1 in
    rw (p.1, p.2)
    (HasSampleFault-trailing c.args.header.now _ _ _ c.sample_count-count.result _ c.in_err-see_end.field-0.0
    (rw c.sample_count-count.ensures at few) c.sample_count-count.ensures c.in_ok-take_samples.ensures.read c.in_err-see_end.ensures.causes
    c.in_err-see_end.ensures.trailing)
