-- The entries of kept cells, where the table is accepted and of the kind and dimension of the volume.
use Rattle.std.proofs.Common.{◌≡◌, ℕ, ◌<◌, length, sym, subst}
use Rattle.iso_model.specs.declared.Kind.{Kind}
use Rattle.iso_model.specs.Cells.{label_count}
use Rattle.iso_model.specs.Seams.{seams}
use Rattle.iso_model.specs.Values.{Volume, label_of}
use Rattle.iso_model.specs.Tables.{Table, IsTable, entry_of}
use Rattle.iso_model.specs.Acceptance.{IsAccepted}
use Rattle.entry_laws.proofs.LabelLaws.{LabelLaws, label_laws}
use Rattle.entry_laws.proofs.SeamLaws.{matches_across}
use Rattle.volume_pieces.proofs.AcrossMatches.{EntriesMatch}
use Rattle.volume_pieces.proofs.Labels.{label_few}
use Rattle.lists.proofs.MemberLaws.{In_from_place}

-- a table is accepted, and of the kind and dimension of the volume
pub record Serves (v : Volume) (t : Table) : Type 0 where
  pub is_table : IsTable t
  pub is_accepted : IsAccepted t
  pub kind : t.kind ≡ v.kind
  pub dimension : t.dimension ≡ length v.sizes

-- the entries of a table match across seams
own_match : (t : Table) → IsTable t → IsAccepted t → EntriesMatch t.kind t.dimension t
own_match t table accepted s here there m face has less_here less_there meet ascends all =
    matches_across t s here there m face table accepted (In_from_place (seams t.kind t.dimension) s has.0 has.1 has.2) less_here less_there meet ascends all

module _ (v : Volume) (t : Table) (serves : Serves v t) where
  -- what holds of the table's kind and dimension holds of those of the volume
  moved : (P : Kind → ℕ → Type 0) → P t.kind t.dimension → P v.kind (length v.sizes)
  moved P holds = subst (P v.kind) serves.dimension (subst (λ (q : Kind). P q t.dimension) serves.kind holds)

  moved_back : (P : Kind → ℕ → Type 0) → P v.kind (length v.sizes) → P t.kind t.dimension
  moved_back P holds = subst (λ (q : Kind). P q t.dimension) (sym serves.kind) (subst (P v.kind) (sym serves.dimension) holds)

  -- the laws of the entry of a cell
  pub cell_laws : (c : ℕ) → LabelLaws v.kind (length v.sizes) (label_of v c) (entry_of t (label_of v c))
  cell_laws c =
      moved (λ q d. LabelLaws q d (label_of v c) (entry_of t (label_of v c)))
      (label_laws t (label_of v c) serves.is_table serves.is_accepted (moved_back (λ q d. label_of v c < label_count q d) (label_few v c)))

  -- the entries match across the seams of the volume
  pub entries_match : EntriesMatch v.kind (length v.sizes) t
  entries_match = moved (λ q d. EntriesMatch q d t) (own_match t serves.is_table serves.is_accepted)
