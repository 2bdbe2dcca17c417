use Rattle.std.proofs.Common.{◌≡◌, ◌∙◌, false, slice_index, length, drop, arith, rules, sym, ap}
use Rattle.std.proofs.lemmas.List.{take_rest}
use Rattle.std.proofs.lemmas.List.Sums.{prefix_len_is}
use Rattle.iso_formats.specs.HeaderLines.{is_blank}
use Rattle.nrrd_raw.proofs.lines.content.trimmed_start.Goals as goal

pub returns-then-not-is_blank : goal.returns-then-not-is_blank
returns-then-not-is_blank c =
    let here : is_blank (slice_index c.args.text.now c.loop-at.at) ≡ false = search rules in
    take_rest c.args.text.now c.loop-at.at
    ∙ ap (λ n. drop n c.args.text.now) (sym (prefix_len_is is_blank c.args.text.now c.loop-at.at 0 (omega arith) c.loop-at.invariant (λ _. here)))

pub returns : goal.returns
returns c =
    let all : c.loop-at.at ≡ length c.args.text.now = omega arith in
    take_rest c.args.text.now (length c.args.text.now)
    ∙ ap (λ n. drop n c.args.text.now)
    (sym
    (prefix_len_is is_blank c.args.text.now (length c.args.text.now) 0 (omega arith) (rw all at c.loop-at.invariant)
    (λ h. absurd (omega arith))))
