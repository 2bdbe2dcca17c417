-- Reading and writing table files are inverse to each other.
use Rattle.std.specs.Prelude.{ℕ, List, slice_index, take}
use Rattle.std.proofs.Common.{refl, ap, arith, inl, inr}
use Rattle.iso_model.specs.declared.Kind.{Kind}
use Rattle.iso_model.specs.Tables.{Table}
use Rattle.iso_formats.specs.TableFile.{table_bytes, SpellsTable}
use Rattle.iso_formats.specs.TableFile2.{table_bytes2, SpellsTable2, HasHeadOf}
use Rattle.table_file.specs.declared.heads.Version.{Version}
use Rattle.table_file.specs.declared.heads.Version.TheVariants.{One, Two}
use Rattle.table_file.specs.Inverse.{IsReadBack, IsWrittenBack}
use Rattle.table_file.proofs.FileLaws.{one_file_table}

pub read_back : (version : Version) (t : Table) → IsReadBack version t
read_back One t whole = (inl (whole, refl), λ u held. one_file_table (table_bytes t) t u (inl (whole, refl)) held)
read_back Two t whole = (inr (whole, refl), λ u held. one_file_table (table_bytes2 t) t u (inr (whole, refl)) held)

-- the eighth byte tells the version
head_of_second : (bytes : List ℕ) (t : Table) (kind : Kind) (d : ℕ) → HasHeadOf 1 bytes kind d → SpellsTable2 bytes t → ⊥
unfolding table_bytes2
head_of_second bytes t kind d head held =
    omega (arith, ap (λ (l : List ℕ). slice_index l 7) head.same, ap (λ (l : List ℕ). slice_index (take 16 l) 7) held.1)

head_of_first : (bytes : List ℕ) (t : Table) (kind : Kind) (d : ℕ) → HasHeadOf 2 bytes kind d → SpellsTable bytes t → ⊥
unfolding table_bytes
head_of_first bytes t kind d head held =
    omega (arith, ap (λ (l : List ℕ). slice_index l 7) head.same, ap (λ (l : List ℕ). slice_index (take 16 l) 7) held.1)

pub written_back : (version : Version) (bytes : List ℕ) (t : Table) → IsWrittenBack version bytes t
written_back One bytes t head (inl held) = held.1
written_back One bytes t head (inr held) = absurd (head_of_second bytes t t.kind t.dimension head held)
written_back Two bytes t head (inl held) = absurd (head_of_first bytes t t.kind t.dimension head held)
written_back Two bytes t head (inr held) = held.1
