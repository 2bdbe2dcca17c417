-- Reading a file of version 2, as the code does it.
use Rattle.std.specs.Prelude.{◌≡◌, ℕ, ◌+◌, ◌*◌, ◌<◌, ◌≤◌, Bool, true, false, List, [], ◌∷◌, ◌++◌, length, All}
use Rattle.std.proofs.Common.{sym, ap, ◌∙◌, subst, arith}
use Rattle.iso_model.specs.declared.Kind.{Kind}
use Rattle.iso_model.specs.Cells.{label_count}
use Rattle.iso_formats.specs.TableFile.{entry_bytes}
use Rattle.iso_formats.specs.TableFile2.{HasHeadOf, NoneFailsBefore, HasBodyFault, at_extra, stated, label_at, body_place, file_end, index_end, record_offset}
use Rattle.iso_formats.proofs.TablePlaces.{stands_front}
use Rattle.iso_formats.proofs.TableFieldLaws.{extra_fault_behind, first_offset}
use Rattle.iso_formats.proofs.TableReadLaws.{HasReadOn, has_read_none, has_read_filled, all_records}
use Rattle.table_file.specs.Bodies.{IsNextBody, IsBodyRead}

pub not_both : (b : Bool) → b ≡ true → b ≡ false → ⊥
not_both b e f = let no : true ≡ false = sym e ∙ f in cc

pub started : (kind : Kind) (d : ℕ) (bytes : List ℕ) (records : ℕ) → HasHeadOf 2 bytes kind d → All (λ b. b < 256) bytes → records ≡ stated bytes
    → index_end records ≤ length bytes → NoneFailsBefore kind d bytes (index_end (stated bytes)) → HasReadOn kind d bytes [] 0 (index_end records)
started kind d bytes records head small same inside before =
    let there : index_end (stated bytes) ≤ length bytes = subst (λ n. index_end n ≤ length bytes) same inside in
    subst (λ n. HasReadOn kind d bytes [] 0 (index_end n)) (sym same)
    (has_read_none kind d bytes head small (omega (arith, inside)) there
    (λ h. first_offset kind d bytes (before (record_offset 0) h (omega (arith, h)))) before)

pub next_body_of : (kind : Kind) (d : ℕ) (bytes : List ℕ) (es : List (List (List ℕ))) (k place : ℕ) → HasReadOn kind d bytes es k place → k < stated bytes
    → stated bytes ≤ 65536 → IsNextBody kind d bytes k place
next_body_of kind d bytes es k place r h few = record {
  head = r.head;
  few = few;
  counted = h;
  index = omega (arith, r.inside, r.ends);
  at = r.at;
  offset = r.offset h;
  inside = r.inside;
  before = r.before;
}

pub one_more_body : (kind : Kind) (d : ℕ) (bytes : List ℕ) (es : List (List (List ℕ))) (k place far : ℕ) (ws : List (List ℕ))
    → HasReadOn kind d bytes es k place → k < stated bytes → label_at bytes k ≡ length es → IsBodyRead kind d bytes k place ws
    → far ≡ place + 4 + length ws * d → HasReadOn kind d bytes (es ++ ws ∷ []) (k + 1) far
one_more_body kind d bytes es k place far ws r h label b is =
    let same : place + 4 + d * length ws ≡ far = omega (arith, is) in
    subst (λ p. HasReadOn kind d bytes (es ++ ws ∷ []) (k + 1) p) same
    (has_read_filled kind d bytes es k place ws r h label b.entry.sound b.some (stands_front bytes place (entry_bytes ws) _ b.entry.split) b.next b.before)

pub extra_behind : (kind : Kind) (d : ℕ) (bytes : List ℕ) (es : List (List (List ℕ))) (k place : ℕ) → HasReadOn kind d bytes es k place
    → length es ≡ label_count kind d → place < length bytes → HasBodyFault kind d bytes (at_extra place)
extra_behind kind d bytes es k place r all more =
    let done = all_records kind d bytes es k place r (omega (arith, all)) in
    let end : file_end bytes d ≡ place = ap (λ n. body_place bytes d n) (sym done) ∙ r.at in
    subst (λ p. HasBodyFault kind d bytes (at_extra p)) end
    (extra_fault_behind kind d bytes (subst (λ p. NoneFailsBefore kind d bytes p) (sym end) r.before) (omega (arith, end, more)))
