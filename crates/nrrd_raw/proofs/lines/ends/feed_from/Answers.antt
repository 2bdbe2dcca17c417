use Rattle.std.proofs.Common.{◌≡◌, nat_eq, true, slice_index, length, arith}
use Rattle.std.proofs.lemmas.Bool.Decides.{nat_tests}
use Rattle.nrrd_raw.proofs.PlaceOfLines.{first_from}
use Rattle.nrrd_raw.proofs.lines.ends.feed_from.Goals as goal

pub returns-then-bytes-at-eq10-clause-first : goal.returns-then-bytes-at-eq10-clause-first
returns-then-bytes-at-eq10-clause-first c =
    let here : nat_eq 10 (slice_index c.args.bytes.now c.loop-at.at) ≡ true = grind (arith, nat_tests) in
    first_from (nat_eq 10) c.args.bytes.now c.args.from c.loop-at.at (omega arith) (omega arith) c.loop-at.invariant (λ _. here)

pub returns-clause-first : goal.returns-clause-first
returns-clause-first c =
    let all : c.loop-at.at ≡ length c.args.bytes.now = omega arith in
    first_from (nat_eq 10) c.args.bytes.now c.args.from (length c.args.bytes.now) (omega arith) (omega arith) (rw all at c.loop-at.invariant)
    (λ h. absurd (omega arith))
