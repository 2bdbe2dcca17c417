use Rattle.std.proofs.Common.{◌≡◌, nat_eq, true, slice_index, length, arith, sym}
use Rattle.std.proofs.lemmas.Bool.Decides.{nat_tests}
use Rattle.std.proofs.lemmas.List.Sums.{position_or_len_is}
use Rattle.nrrd_raw.proofs.lines.content.colon_in.Goals as goal

pub returns-then-text-at-eq58-clause-first : goal.returns-then-text-at-eq58-clause-first
returns-then-text-at-eq58-clause-first c =
    let here : nat_eq 58 (slice_index c.args.text.now c.loop-at.at) ≡ true = grind (arith, nat_tests) in
    sym (position_or_len_is (nat_eq 58) c.args.text.now c.loop-at.at 0 (omega arith) c.loop-at.invariant (λ _. here))

pub returns-clause-first : goal.returns-clause-first
returns-clause-first c =
    let all : c.loop-at.at ≡ length c.args.text.now = omega arith in
    sym (position_or_len_is (nat_eq 58) c.args.text.now (length c.args.text.now) 0 (omega arith) (rw all at c.loop-at.invariant) (λ h. absurd (omega arith)))
