use Rattle.std.proofs.Common.{◌≡◌, ◌<◌, ◌-◌, false, slice_index, length, take, arith, sym, ap, ◌∙◌}
use Rattle.std.specs.List.{suffix_len}
use Rattle.iso_formats.specs.HeaderLines.{is_blank}
use Rattle.nrrd_raw.proofs.PlaceOfLines.{suffix_len_is}
use Rattle.nrrd_raw.proofs.lines.content.trimmed_end.Goals as goal
use Rattle.nrrd_raw.proofs.lines.content.trimmed_end.Goals.{then-loop-end-test+else-is_blank, else-loop-end-test}

pub returns : goal.returns
returns c =
    let here : 0 < c.loop-end.end → is_blank (slice_index c.args.text.now (c.loop-end.end - 1)) ≡ false =
    λ h. elim c.loop-end-test.branch [
      | then-loop-end-test+else-is_blank w ↦ sym w.is_blank.ensures ∙ w.if-is_blank.false
      | else-loop-end-test w ↦ absurd (omega arith)
    ] in
    let len = suffix_len_is is_blank c.args.text.now c.loop-end.end c.loop-end.invariant.within c.loop-end.invariant.blank here in
    let same : c.loop-end.end ≡ length c.args.text.now - suffix_len is_blank c.args.text.now = omega (arith, len, c.loop-end.invariant.within) in
    ap (λ n. take n c.args.text.now) same
