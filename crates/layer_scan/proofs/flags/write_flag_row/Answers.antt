use Rattle.std.proofs.Common.{ap, arith}
use Rattle.std.proofs.lemmas.Bool.{false≢true}
use Rattle.std.specs.Prelude.{Bool, List, false, length, nat_lt, slice_index_or, ℕ, ◌&&◌, ◌*◌, ◌≤◌, ◌≡◌}
use Rattle.lists.proofs.Tests.{lt_of, same_tests}
use Rattle.layer_scan.specs.FlaggedCubes.{is_flagged}
use Rattle.layer_scan.proofs.WordTests.{one_more_word, row_from_words}
use Rattle.layer_scan.proofs.flags.write_flag_row.Goals as goal

pub loop-w-init : goal.loop-w-init
loop-w-init c = λ j lt. absurd (omega (arith, lt))

pub loop-w-preserved : goal.loop-w-preserved
loop-w-preserved c =
    one_more_word (is_flagged c.args.flags.now) c.loop-w.row c.loop-w.w c.flag_word.result (omega arith) c.loop-w.invariant c.flag_word.ensures

pub returns : goal.returns
returns c =
    let flags : List Bool = c.args.flags.now in
    let past = λ (x : ℕ) (h : 64 * length c.loop-w.row ≤ x).
    let none : nat_lt x (length flags) ≡ false = same_tests (nat_lt x (length flags)) false
    (λ t. let lt = lt_of x (length flags) t in absurd (omega arith)) (λ t. absurd (false≢true t)) in
    ap (λ t. t && slice_index_or flags x false) none in
    record {
      long = c.loop-w.auto.row;
      bits = row_from_words (is_flagged flags) c.loop-w.row (λ j lt. c.loop-w.invariant j (omega (arith, lt))) past;
    }
