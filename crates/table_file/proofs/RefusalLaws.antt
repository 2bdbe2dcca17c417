-- Bytes at which no entry stands are no table.
use Rattle.std.specs.Prelude.{◌≡◌, ◌<◌, ℕ, List, length, drop}
use Rattle.std.proofs.Common.{refl, inl, inr}
use Rattle.iso_model.specs.declared.Kind.{Kind}
use Rattle.iso_model.specs.Cells.{label_count}
use Rattle.iso_formats.specs.TableFile.{IsWholeTable}
use Rattle.table_file.specs.declared.faults.TableFault.{TableFault}
use Rattle.table_file.specs.declared.faults.TableFault.TheVariants.{Magic, Kind as KindFault, EdgeNumber, Short, Extra, Index, Count, Memory}
use Rattle.table_file.specs.HeldEntries.{IsEntryFault}
use Rattle.table_file.proofs.EntryLaws.{no_entry_wrong, no_entry_cut, entry_begins}
use Rattle.table_file.proofs.Progress.{HasRead, not_whole-entry}

pub only_memory : (kind : Kind) (d : ℕ) (bytes : List ℕ) (es : List (List (List ℕ))) (place : ℕ) (fault : TableFault) → HasRead kind d bytes es place
    → length es < label_count kind d → IsEntryFault kind d bytes place fault → IsWholeTable bytes → fault ≡ Memory
only_memory kind d bytes es place (Magic p) r few f w = absurd f
only_memory kind d bytes es place (KindFault p) r few f w = absurd f
only_memory kind d bytes es place (EdgeNumber p) r few f w =
    absurd (not_whole-entry kind d bytes es place r few (no_entry_wrong kind d (drop place bytes) f.0 f.2) w)
only_memory kind d bytes es place (Short p) r few f w = elim f.1 as (λ _. Short p ≡ Memory) [
  | inl none ↦ absurd (not_whole-entry kind d bytes es place r few (λ g y s e. none (length g) (entry_begins kind d g (drop place bytes) y s e)) w)
  | inr cut ↦ absurd (not_whole-entry kind d bytes es place r few (no_entry_cut kind d (drop place bytes) cut) w)
]
only_memory kind d bytes es place (Extra p) r few f w = absurd f
only_memory kind d bytes es place (Index p) r few f w = absurd f
only_memory kind d bytes es place (Count p) r few f w = absurd f
only_memory kind d bytes es place Memory r few f w = refl
