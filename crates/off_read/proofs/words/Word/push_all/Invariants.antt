use Rattle.std.specs.Prelude.{ℕ, List, take, ◌++◌}
use Rattle.off_read.specs.WordForms.{IsSoFar}
use Rattle.off_read.proofs.words.Word.push_all.Given as goal

abbrev pub invariant-loop-byte : goal.invariant-loop-byte
invariant-loop-byte l = (text : List ℕ) → IsSoFar l.initial.self text → IsSoFar l.self (text ++ take l.byte-index l.bytes)
