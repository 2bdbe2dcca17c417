use Rattle.std.proofs.Common.{◌≡◌, ℕ, ◌<◌, ◌≤◌, true, length, slice_index}
use Rattle.iso_formats.specs.HeaderLines.{is_blank}
use Rattle.nrrd_raw.proofs.lines.content.trimmed_end.Given as goal

abbrev pub invariant-loop-end : goal.invariant-loop-end
invariant-loop-end l = record {
  within : l.end ≤ length l.text;
  blank : (k : ℕ) → l.end ≤ k → k < length l.text → is_blank (slice_index l.text k) ≡ true;
}

abbrev pub decreases-loop-end : goal.decreases-loop-end
decreases-loop-end l = l.end
