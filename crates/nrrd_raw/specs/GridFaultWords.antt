-- When a fault may be answered.
use Rattle.std.specs.Prelude.{ℕ, Bool, true, false, Option, Some, None, Result, IfErr}
use Rattle.iso_base.specs.Shelves.{IsFairBlame}
use Rattle.nrrd_raw.specs.declared.faults.GridFault.{GridFault}
use Rattle.nrrd_raw.specs.declared.faults.GridFault.TheVariants.{TooLarge, DataShort, Trailing, Shelf, Memory}

-- the count with which a fault blames the shelf
abbrev pub blame_of : GridFault → Option ℕ
blame_of (Shelf count) = Some count
blame_of fault = None

-- a refusal blames the shelf only where its count of faults rose, and with the count after the call
abbrev pub BlamesFairly : {S T : Type 0} → (S → ℕ) → S → S → Result T GridFault → Type 0
BlamesFairly faults old new result = IfErr result (λ fault. IsFairBlame (faults old) (faults new) (blame_of fault))

-- a cause that a header may have, or the shelf is blamed
abbrev pub is_header_fault : GridFault → Bool
is_header_fault (TooLarge count) = false
is_header_fault (DataShort count) = false
is_header_fault Trailing = false
is_header_fault Memory = false
is_header_fault fault = true

-- a cause that the samples behind a header may have, or the shelf is blamed, or memory was refused
abbrev pub is_sample_fault : GridFault → Bool
is_sample_fault (TooLarge count) = true
is_sample_fault (DataShort count) = true
is_sample_fault Trailing = true
is_sample_fault (Shelf count) = true
is_sample_fault Memory = true
is_sample_fault fault = false

-- the samples' bytes are too few or too many, or the shelf is blamed, or memory was refused
abbrev pub is_data_fault : GridFault → Bool
is_data_fault (DataShort count) = true
is_data_fault Trailing = true
is_data_fault (Shelf count) = true
is_data_fault Memory = true
is_data_fault fault = false

-- a byte follows the samples, or the shelf is blamed
abbrev pub is_end_fault : GridFault → Bool
is_end_fault Trailing = true
is_end_fault (Shelf count) = true
is_end_fault fault = false

-- the samples' bytes are too few, or the shelf is blamed, or memory was refused
abbrev pub is_piece_fault : GridFault → Bool
is_piece_fault (DataShort count) = true
is_piece_fault (Shelf count) = true
is_piece_fault Memory = true
is_piece_fault fault = false
