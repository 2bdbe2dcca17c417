-- The bytes of a table entry by entry.
use Rattle.std.specs.Prelude.{◌≡◌, ℕ, ◌+◌, ◌*◌, ◌^◌, ◌<◌, ◌≤◌, List, [], ◌++◌, flat_map, length, take}
use Rattle.std.proofs.Common.{get_or, sym, ap, ◌∙◌, arith}
use Rattle.std.proofs.lemmas.List.{append-nil, nil_from_length, append_assoc, take_more, take_all, length-append}
use Rattle.std.proofs.Math.Nat.{mul-le-mul_left}
use Rattle.iso_model.specs.declared.Kind.{Kind}
use Rattle.iso_model.specs.Cells.{HasDimension, label_count}
use Rattle.iso_model.specs.Tables.{Table, IsEntry}
use Rattle.iso_formats.specs.TableFile.{table_bytes, big_endian, SpellsTable}
use Rattle.iso_formats.proofs.TableLaws.{table_reads_on}
use Rattle.iso_formats.proofs.TableRows.{length-rows}
use Rattle.table_file.proofs.TupleRows.{small_counts}
use Rattle.table_file.proofs.Progress.{labels_same, table_of, table_bytes-nil, table_bytes-push}

pub written_more : (kind : Kind) (d : ℕ) (es : List (List (List ℕ))) (i : ℕ) → i < length es
    → (table_bytes (table_of kind d (take i es)) ++ big_endian 4 (length (get_or es i []))) ++ flat_map (λ (w : List ℕ). w) (get_or es i [])
    ≡ table_bytes (table_of kind d (take (i + 1) es))
written_more kind d es i h =
    append_assoc (table_bytes (table_of kind d (take i es))) (big_endian 4 (length (get_or es i []))) (flat_map (λ (w : List ℕ). w) (get_or es i []))
    ∙ sym (table_bytes-push kind d (take i es) (get_or es i []))
    ∙ ap (λ (l : List (List (List ℕ))). table_bytes (table_of kind d l)) (sym (take_more es i [] h))

pub length-table_bytes-nil : (kind : Kind) (d : ℕ) → length (table_bytes (table_of kind d [])) ≡ 16
length-table_bytes-nil kind d = ap (λ (l : List ℕ). length l) (table_bytes-nil kind d)

pub written_all : (t : Table) (d i : ℕ) → t.dimension ≡ d → length t.entries ≤ i → table_bytes (table_of t.kind d (take i t.entries)) ≡ table_bytes t
written_all t d i same h =
    ap (λ (l : List (List (List ℕ))). table_bytes (table_of t.kind d l)) (take_all i t.entries h)
    ∙ ap (λ (n : ℕ). table_bytes (table_of t.kind n t.entries)) (sym same)

-- the length of one more entry, and how long entries are at most
pub record IsLonger (kind : Kind) (d : ℕ) (es : List (List (List ℕ))) (i long : ℕ) (tuples : List (List ℕ)) : Type 0 where
  pub is : long + 4 + length tuples * d ≡ length (table_bytes (table_of kind d (take (i + 1) es)))
  pub few : length tuples * d ≤ 1073741824

entry_few : (n d : ℕ) → n ≤ 2 ^ 28 → d ≤ 4 → n * d ≤ 1073741824
entry_few n d a b = omega (arith, a, mul-le-mul_left n b)

pub longer : (kind : Kind) (d : ℕ) (es : List (List (List ℕ))) (i long : ℕ) (tuples : List (List ℕ)) → HasDimension kind d → i < length es
    → long ≡ length (table_bytes (table_of kind d (take i es))) → tuples ≡ get_or es i [] → IsEntry kind d tuples → IsLonger kind d es i long tuples
longer kind d es i long tuples fits h is read s =
    let front = table_bytes (table_of kind d (take i es)) in
    let count = big_endian 4 (length (get_or es i [])) in
    let flat = flat_map (λ (w : List ℕ). w) (get_or es i []) in
    let rows = length-rows _ d tuples s.1 in
    let long_flat = ap (λ (l : List (List ℕ)). length (flat_map (λ (w : List ℕ). w) l)) read in
    record {
      is =
          omega (
            arith,
            is,
            ap (λ (l : List ℕ). length l) (written_more kind d es i h),
            length-append (front ++ count) flat,
            length-append front count,
            rows,
            long_flat,
          );
      few = entry_few (length tuples) d s.0 (small_counts kind d fits).dimension;
    }

-- one more entry was put behind the others
pub put_entry : (kind : Kind) (d : ℕ) (es : List (List (List ℕ))) (i : ℕ) (before middle after count flat : List ℕ) (tuples : List (List ℕ)) → i < length es
    → before ≡ table_bytes (table_of kind d (take i es)) → tuples ≡ get_or es i [] → count ≡ big_endian 4 (length tuples)
    → flat ≡ flat_map (λ (w : List ℕ). w) tuples
    → middle ≡ before ++ count → after ≡ middle ++ flat → after ≡ table_bytes (table_of kind d (take (i + 1) es))
put_entry kind d es i before middle after count flat tuples h is read counted flattened put_count put_flat =
    let start = table_bytes (table_of kind d (take i es)) in
    let count_is = counted ∙ ap (λ (l : List (List ℕ)). big_endian 4 (length l)) read in
    let flat_is = flattened ∙ ap (λ (l : List (List ℕ)). flat_map (λ (w : List ℕ). w) l) read in
    put_flat ∙ ap (λ (l : List ℕ). l ++ flat) (put_count ∙ ap (λ (l : List ℕ). l ++ count) is ∙ ap (λ (l : List ℕ). start ++ l) count_is)
    ∙ ap (λ (l : List ℕ). (start ++ big_endian 4 (length (get_or es i []))) ++ l) flat_is ∙ written_more kind d es i h

-- ---- bytes spell one table

same_tables : (k l : Kind) (d n : ℕ) (es fs : List (List (List ℕ))) → k ≡ l → d ≡ n → es ≡ fs → table_of k d es ≡ table_of l n fs
same_tables k l d n es fs a b c = cc

pub spelled_once : (bytes : List ℕ) (t u : Table) → SpellsTable bytes t → SpellsTable bytes u → t ≡ u
spelled_once bytes t u a b =
    let whole : table_bytes t ++ [] ≡ table_bytes u ++ [] = ap (λ (l : List ℕ). l ++ []) (sym a.1 ∙ b.1) in
    let few : length t.entries ≤ label_count t.kind t.dimension = omega (arith, a.0.whole) in
    let r = table_reads_on t.kind t.dimension t.entries u [] [] b.0 a.0.sound few whole in
    let labels = labels_same t.kind t.dimension t.entries u [] [] b.0 r in
    let long : length r.on.further ≡ 0 =
    omega (arith, a.0.whole, labels, ap (λ (l : List (List (List ℕ))). length l) r.on.is, length-append t.entries r.on.further) in
    let entries : u.entries ≡ t.entries =
    r.on.is ∙ ap (λ (l : List (List (List ℕ))). t.entries ++ l) (nil_from_length r.on.further long) ∙ append-nil t.entries in
    same_tables t.kind u.kind t.dimension u.dimension t.entries u.entries r.same_kind_of r.same_dimension (sym entries)
