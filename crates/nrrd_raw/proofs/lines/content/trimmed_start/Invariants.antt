use Rattle.std.proofs.Common.{◌≡◌, ℕ, ◌<◌, true, slice_index}
use Rattle.iso_formats.specs.HeaderLines.{is_blank}
use Rattle.nrrd_raw.proofs.lines.content.trimmed_start.Given as goal

abbrev pub invariant-loop-at : goal.invariant-loop-at
invariant-loop-at l = (k : ℕ) → k < l.at → is_blank (slice_index l.text k) ≡ true
