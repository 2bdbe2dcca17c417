-- The faults of reading a mesh as causes of the definition.
use Rattle.std.specs.Prelude.{ℕ, Option, Some, None, Result, IfErr}
use Rattle.iso_base.specs.Shelves.{IsFairBlame}
use Rattle.iso_formats.specs.MeshFile.{MeshFault, wrong_header, wrong_count, wrong_coordinate, wrong_size, wrong_index, extra_word, short_of_words}
use Rattle.off_read.specs.declared.faults.OffFault.{OffFault}
use Rattle.off_read.specs.declared.faults.OffFault.TheVariants.{Header, Count, Coordinate, FaceSize, Index, Extra, Short, Shelf}

-- the cause that a fault names: that of a word that does not fit
abbrev pub word_cause : OffFault → Option MeshFault
word_cause (Header n) = Some (wrong_header n)
word_cause (Count n) = Some (wrong_count n)
word_cause (Coordinate n) = Some (wrong_coordinate n)
word_cause (FaceSize n) = Some (wrong_size n)
word_cause (Index n) = Some (wrong_index n)
word_cause (Extra n) = Some (extra_word n)
word_cause fault = None

-- the cause that a fault names: that of a word that does not fit, or that words are missing. Another fault names none
abbrev pub cause_of : OffFault → Option MeshFault
cause_of (Short n) = Some (short_of_words n)
cause_of fault = word_cause fault

-- the count with which a fault blames the shelf
abbrev pub blame_of : OffFault → Option ℕ
blame_of (Shelf count) = Some count
blame_of fault = None

-- a refusal blames the shelf only where its count of faults rose, and with the count after the call
abbrev pub BlamesFairly : {S T : Type 0} → (S → ℕ) → S → S → Result T OffFault → Type 0
BlamesFairly faults old new result = IfErr result (λ fault. IsFairBlame (faults old) (faults new) (blame_of fault))
