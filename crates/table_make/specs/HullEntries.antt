-- Lists of entries that the construction gives.
use Rattle.std.specs.Prelude.{◌≡◌, ℕ, ◌+◌, ◌-◌, ◌<◌, ◌≤◌, List, [], length, slice_index_or, Vec, Result, IfOk}
use Rattle.std.proofs.Common.{Global}
use Rattle.iso_model.specs.declared.Kind.{Kind}
use Rattle.iso_model.specs.Entries.{IsEntryOf}
use Rattle.iso_base.specs.Parts.{start_of}
use Rattle.table_file.specs.Holding.{lists_of}

-- the entries of the labels from `low` on and below `high`, in their order
pub record AreHullEntries (kind : Kind) (d low high : ℕ) (entries : List (List (List ℕ))) : Type 0 where
  pub count : length entries ≡ high - low
  pub each : (label : ℕ) → low ≤ label → label < high → IsEntryOf kind d label (slice_index_or entries (label - low) [])

-- the entries of so many pieces from piece `low` on, where n labels are in so many parts
abbrev pub ArePieces : Kind → ℕ → ℕ → ℕ → ℕ → ℕ → List (List (List ℕ)) → Type 0
ArePieces kind d n parts low count entries = AreHullEntries kind d (start_of n parts low) (start_of n parts (low + count)) entries

-- an answer has the entries of so many pieces from piece `low` on, where there was memory for them
abbrev pub AnswersPieces : {E : Type 0} → Kind → ℕ → ℕ → ℕ → ℕ → ℕ → Result (Vec (Vec (List ℕ) Global) Global) E → Type 0
AnswersPieces kind d n parts low count answer = IfOk answer (λ v. ArePieces kind d n parts low count (lists_of v.items))
