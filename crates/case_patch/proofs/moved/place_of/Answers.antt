use Rattle.std.proofs.Common.{sym, arith, length}
use Rattle.std.specs.Prelude.{nat_eq}
use Rattle.std.proofs.lemmas.Bool.{eq-eqb}
use Rattle.std.proofs.lemmas.List.Sums.{position_or_len_is}
use Rattle.case_patch.proofs.moved.place_of.Goals as goal

pub returns-then-member-number-clause-value : goal.returns-then-member-number-clause-value
returns-then-member-number-clause-value c =
    sym (position_or_len_is (nat_eq c.args.number) c.args.list.now c.loop-at.at 0 (omega arith) c.loop-at.invariant
    (λ h. eq-eqb _ _ (sym c.if-member-number.true)))

pub returns-clause-value : goal.returns-clause-value
returns-clause-value c =
    sym (position_or_len_is (nat_eq c.args.number) c.args.list.now (length c.args.list.now) 0 (omega arith) (λ k h. c.loop-at.invariant k (omega arith))
    (λ h. absurd (omega arith)))
