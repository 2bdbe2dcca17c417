-- The file of a table, of either version, is the file of one table.
use Rattle.std.specs.Prelude.{ℕ, List, slice_index}
use Rattle.std.proofs.Common.{sym, ap, ◌∙◌, arith, inl, inr}
use Rattle.iso_model.specs.Tables.{Table}
use Rattle.iso_formats.specs.TableFile.{table_bytes, SpellsTable}
use Rattle.iso_formats.specs.TableFile2.{table_bytes2, SpellsTable2, HasOneTable}
use Rattle.iso_formats.proofs.TableIndexLaws.{one_table2}
use Rattle.table_file.proofs.WritingLaws.{spelled_once}

-- the bytes of version 1 are not those of version 2: the eighth byte is another
pub not_both_versions : (bytes : List ℕ) (t u : Table) → SpellsTable bytes t → SpellsTable2 bytes u → ⊥
unfolding table_bytes table_bytes2
not_both_versions bytes t u a b = omega (arith, ap (λ (l : List ℕ). slice_index l 7) (sym a.1 ∙ b.1))

pub one_file_table : (bytes : List ℕ) → HasOneTable bytes
one_file_table bytes t u (inl a) (inl b) = sym (spelled_once bytes t u a b)
one_file_table bytes t u (inl a) (inr b) = absurd (not_both_versions bytes t u a b)
one_file_table bytes t u (inr a) (inl b) = absurd (not_both_versions bytes u t b a)
one_file_table bytes t u (inr a) (inr b) = sym (one_table2 bytes t u a b)
