use Rattle.std.proofs.Common.{ap, arith, sym, ◌∙◌}
use Rattle.std.specs.Prelude.{List, false, length, ℕ, ◌&&◌, ◌*◌, ◌+◌, ◌≤◌, ◌≡◌}
use Rattle.bit_rows.specs.Rows.{row_bit}
use Rattle.layer_scan.specs.Centres.{is_above_in}
use Rattle.layer_scan.proofs.WordTests.{one_more_word, own_word, row_from_words, row_past}
use Rattle.layer_scan.proofs.centres.write_centre_row.Goals as goal

pub loop-w-init : goal.loop-w-init
loop-w-init c = λ j lt. absurd (omega (arith, lt))

pub word-requires-clause-inside : goal.word-requires-clause-inside
word-requires-clause-inside c = λ k low t.
    c.requires.inside (64 * c.loop-w.w + k) (sym (own_word c.args.kept.now c.loop-w.w k low) ∙ t)

pub loop-w-preserved : goal.loop-w-preserved
loop-w-preserved c =
    let kept : List ℕ = c.args.kept.now in
    let w : ℕ = c.loop-w.w in
    one_more_word (λ x. row_bit kept x && is_above_in c.args.row.now x) c.loop-w.centres w c.word.result (omega arith) c.loop-w.invariant
    (λ k low. c.word.ensures k low ∙ ap (λ t. t && is_above_in c.args.row.now (64 * w + k)) (own_word kept w k low))

pub returns : goal.returns
returns c =
    let kept : List ℕ = c.args.kept.now in
    let past = λ (x : ℕ) (h : 64 * length c.loop-w.centres ≤ x).
    let none : row_bit kept x ≡ false = row_past kept x (omega arith) in
    ap (λ t. t && is_above_in c.args.row.now x) none in
    record {
      long = c.loop-w.auto.centres;
      bits = row_from_words (λ x. row_bit kept x && is_above_in c.args.row.now x) c.loop-w.centres
          (λ j lt. c.loop-w.invariant j (omega (arith, lt))) past;
    }
