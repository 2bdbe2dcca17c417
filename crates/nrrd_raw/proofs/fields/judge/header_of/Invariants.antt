use Rattle.std.proofs.Common.{ℕ, ◌≤◌, ◌-◌, ◌+◌, List, [], length}
use Rattle.std.specs.Prelude.{slice_index_or, IsTrue}
use Rattle.iso_formats.specs.HeaderLines.{HasLines, is_first_line}
use Rattle.nrrd_raw.proofs.JudgeLaws.{ReadingOf}
use Rattle.nrrd_raw.proofs.fields.judge.header_of.Given as goal

abbrev pub invariant-lines : goal.invariant-lines
invariant-lines l = record {
  behind : 2 ≤ l.number;
  bound : l.number ≤ l.at + 1;
  within : l.at ≤ length l.bytes;
  read : (texts : List (List ℕ)) (p : HasLines l.bytes texts []) → IsTrue (is_first_line (slice_index_or texts 0 []))
      → ReadingOf texts p.lines l.bytes l.at (l.number - 1) l.stated;
}

abbrev pub decreases-lines : goal.decreases-lines
decreases-lines l = length l.bytes - l.at
