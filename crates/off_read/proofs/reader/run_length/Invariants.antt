use Rattle.std.specs.Prelude.{◌≡◌, true, take}
use Rattle.std.specs.List.{list_all}
use Rattle.off_read.specs.Scans.{is_word_byte}
use Rattle.off_read.proofs.reader.run_length.Given as goal

abbrev pub invariant-loop-place : goal.invariant-loop-place
invariant-loop-place l = list_all is_word_byte (take l.place l.bytes) ≡ true
