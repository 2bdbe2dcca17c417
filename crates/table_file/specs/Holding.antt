-- Lists of entries, and the tables that hold them.
use Rattle.std.specs.Prelude.{◌≡◌, ℕ, List, map, length, All, Vec}
use Rattle.std.proofs.Common.{Global}
use Rattle.iso_model.specs.declared.Kind.{Kind}
use Rattle.iso_model.specs.Cells.{label_count}
use Rattle.iso_model.specs.Tables.{IsEntry, Table}

-- the lists of these vectors
abbrev pub lists_of : {X : Type 0} → List (Vec X Global) → List (List X)
lists_of vectors = map (λ v. v.items) vectors

-- the table of this kind and dimension that has these entries
abbrev pub table_with : Kind → ℕ → List (Vec (List ℕ) Global) → Table
table_with kind d entries = record { kind = kind; dimension = d; entries = lists_of entries }

-- there is one for each label, and each is an entry
abbrev pub AreEntries : Kind → ℕ → List (Vec (List ℕ) Global) → Type 0
AreEntries kind d entries = (length entries ≡ label_count kind d) × All (IsEntry kind d) (lists_of entries)
