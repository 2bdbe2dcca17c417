use Rattle.std.proofs.Common.{◌≡◌, ℕ, ◌<◌, false, slice_index}
use Rattle.iso_formats.specs.HeaderLines.{is_blank}
use Rattle.nrrd_raw.proofs.fields.numerals.word_end.Given as goal

abbrev pub invariant-loop-at : goal.invariant-loop-at
invariant-loop-at l = (k : ℕ) → l.from < k → k < l.at → is_blank (slice_index l.value k) ≡ false
