use Rattle.std.proofs.Common.{◌≡◌, ◌<◌, ◌≤◌, ◌-◌, false, length, drop, slice_index}
use Rattle.iso_formats.specs.HeaderLines.{is_blank, words_of}
use Rattle.nrrd_raw.specs.Shapes.{HasShape, AreSizes}
use Rattle.nrrd_raw.proofs.SizeLaws.{ReadsWords}
use Rattle.nrrd_raw.proofs.fields.numerals.sizes_of.Given as goal

abbrev pub invariant-loop-at : goal.invariant-loop-at
invariant-loop-at l = record {
  shape : HasShape l.count l.places;
  sized : AreSizes l.places;
  within : l.at ≤ length l.value;
  word : l.at < length l.value → is_blank (slice_index l.value l.at) ≡ false;
  read : ReadsWords (words_of l.value) (words_of (drop l.at l.value)) l.count l.places;
}

abbrev pub decreases-loop-at : goal.decreases-loop-at
decreases-loop-at l = length l.value - l.at
