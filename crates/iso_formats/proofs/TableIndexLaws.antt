-- The index and the bodies of entries in a file of version 2: one more entry, and no other entries with the same bytes.
use Rattle.std.specs.Prelude.{◌≡◌, ℕ, ◌+◌, ◌*◌, ◌<◌, ◌≤◌, List, [], ◌∷◌, ◌++◌, flat_map, length, slice_index, drop, All}
use Rattle.std.proofs.Common.{refl, sym, ap, ◌∙◌, subst, arith}
use Rattle.std.proofs.lemmas.List.{append_assoc, append-nil, length-append}
use Rattle.std.proofs.lemmas.List.Elements.{All-head, All-tail}
use Rattle.std.proofs.lemmas.List.Concat.{flat_map-append}
use Rattle.iso_model.specs.declared.Kind.{Kind}
use Rattle.iso_model.specs.Cells.{label_count}
use Rattle.iso_model.specs.Tables.{Table, IsTable, IsEntry}
use Rattle.iso_model.proofs.DimensionLaws.{is_small_cell}
use Rattle.iso_formats.specs.TableFile.{entry_bytes, big_endian}
use Rattle.iso_formats.specs.TableFile2.{body_bytes, record_bytes, index_bytes, index_end, filled_count, table_bytes2, SpellsTable2}
use Rattle.iso_formats.proofs.TableLaws.{same_front, same_count, same_kind, entry_again}

-- ---- one more entry

pub index_bytes-push : (label place : ℕ) (es : List (List (List ℕ))) (x : List (List ℕ))
    → index_bytes label place (es ++ x ∷ [])
    ≡ index_bytes label place es ++ record_bytes (label + length es) (place + length (flat_map body_bytes es)) x
index_bytes-push label place [] x =
    let l : label ≡ label + 0 = omega arith in
    let p : place ≡ place + 0 = omega arith in
    append-nil (record_bytes label place x) ∙ ap (λ n. record_bytes n place x) l ∙ ap (λ n. record_bytes (label + 0) n x) p
index_bytes-push label place (w ∷ es) x =
    let next = place + length (body_bytes w) in
    let l : label + 1 + length es ≡ label + length (w ∷ es) = omega arith in
    let p : next + length (flat_map body_bytes es) ≡ place + length (flat_map body_bytes (w ∷ es)) =
    omega (arith, length-append (body_bytes w) (flat_map body_bytes es)) in
    let more = index_bytes (label + 1) next es in
    ap (λ (b : List ℕ). record_bytes label place w ++ b) (index_bytes-push (label + 1) next es x)
    ∙ sym (append_assoc (record_bytes label place w) more _)
    ∙ ap (λ n. (record_bytes label place w ++ more) ++ record_bytes n (next + length (flat_map body_bytes es)) x) l
    ∙ ap (λ n. (record_bytes label place w ++ more) ++ record_bytes (label + length (w ∷ es)) n x) p

pub bodies-push : (es : List (List (List ℕ))) (x : List (List ℕ)) → flat_map body_bytes (es ++ x ∷ []) ≡ flat_map body_bytes es ++ body_bytes x
bodies-push es x = flat_map-append body_bytes es (x ∷ []) ∙ ap (λ (l : List ℕ). flat_map body_bytes es ++ l) (append-nil (body_bytes x))

pub filled_count-push : (es : List (List (List ℕ))) (x : List (List ℕ)) → filled_count (es ++ x ∷ []) ≡ filled_count es + filled_count (x ∷ [])
filled_count-push [] x = omega arith
filled_count-push ([] ∷ es) x = filled_count-push es x
filled_count-push ((w ∷ ws) ∷ es) x = omega (arith, filled_count-push es x)

pub length-index_bytes : (label place : ℕ) (es : List (List (List ℕ))) → length (index_bytes label place es) ≡ 12 * filled_count es
length-index_bytes label place [] = refl
length-index_bytes label place ([] ∷ es) = length-index_bytes (label + 1) (place + 0) es
length-index_bytes label place ((w ∷ ws) ∷ es) = omega (arith, length-index_bytes (label + 1) (place + length (entry_bytes (w ∷ ws))) es)

pub filled_few : (es : List (List (List ℕ))) → filled_count es ≤ length es
filled_few [] = omega arith
filled_few ([] ∷ es) = omega (arith, filled_few es)
filled_few ((w ∷ ws) ∷ es) = omega (arith, filled_few es)

-- ---- one table

-- the records of later labels do not begin with an earlier one
pub index_above : (label later place : ℕ) (es : List (List (List ℕ))) (rest : List ℕ) → label < later → later + length es ≤ 65536
    → index_bytes later place es ≡ big_endian 4 label ++ rest → ⊥
index_above label later place [] rest h few e = omega (arith, ap (λ (l : List ℕ). length l) e)
index_above label later place ([] ∷ es) rest h few e = index_above label (later + 1) (place + 0) es rest (omega (arith, h)) (omega (arith, few)) e
index_above label later place ((w ∷ ws) ∷ es) rest h few e =
    let same : later ≡ label =
    same_count later label (omega (arith, few)) (omega (arith, h, few)) (ap (λ (l : List ℕ). slice_index l 0) e) (ap (λ (l : List ℕ). slice_index l 1) e)
    (ap (λ (l : List ℕ). slice_index l 2) e) (ap (λ (l : List ℕ). slice_index l 3) e) in
    omega (arith, h, same)

pub entries_once : (kind : Kind) (d label place : ℕ) (es fs : List (List (List ℕ))) (x y : List ℕ) → length es ≡ length fs → All (IsEntry kind d) es
    → All (IsEntry kind d) fs → label + length es ≤ 65536 → index_bytes label place es ≡ index_bytes label place fs
    → flat_map body_bytes es ++ x ≡ flat_map body_bytes fs ++ y → es ≡ fs
entries_once kind d label place [] [] x y l a b few i e = refl
entries_once kind d label place [] (v ∷ fs) x y l a b few i e = absurd (omega (arith, l))
entries_once kind d label place (w ∷ es) [] x y l a b few i e = absurd (omega (arith, l))
entries_once kind d label place ([] ∷ es) ([] ∷ fs) x y l a b few i e =
    ap (λ (gs : List (List (List ℕ))). [] ∷ gs)
    (entries_once kind d (label + 1) (place + 0) es fs x y (omega (arith, l)) (All-tail (IsEntry kind d) [] es a) (All-tail (IsEntry kind d) [] fs b)
    (omega (arith, few)) i e)
entries_once kind d label place ([] ∷ es) ((v ∷ vs) ∷ fs) x y l a b few i e =
    absurd (index_above label (label + 1) (place + 0) es _ (omega arith) (omega (arith, few)) i)
entries_once kind d label place ((w ∷ ws) ∷ es) ([] ∷ fs) x y l a b few i e =
    absurd (index_above label (label + 1) (place + 0) fs _ (omega arith) (omega (arith, few, l)) (sym i))
entries_once kind d label place ((w ∷ ws) ∷ es) ((v ∷ vs) ∷ fs) x y l a b few i e =
    let first =
    entry_again kind d (w ∷ ws) (v ∷ vs) _ _ (All-head (IsEntry kind d) (w ∷ ws) es a) (All-head (IsEntry kind d) (v ∷ vs) fs b)
    (sym (append_assoc (entry_bytes (w ∷ ws)) (flat_map body_bytes es) x) ∙ e ∙ append_assoc (entry_bytes (v ∷ vs)) (flat_map body_bytes fs) y) in
    let next : index_bytes (label + 1) (place + length (entry_bytes (w ∷ ws))) es ≡ index_bytes (label + 1) (place + length (entry_bytes (w ∷ ws))) fs =
    ap (drop 12) i ∙ ap (λ (us : List (List ℕ)). index_bytes (label + 1) (place + length (entry_bytes us)) fs) (sym first.0) in
    let rest =
    entries_once kind d (label + 1) (place + length (entry_bytes (w ∷ ws))) es fs x y (omega (arith, l)) (All-tail (IsEntry kind d) (w ∷ ws) es a)
    (All-tail (IsEntry kind d) (v ∷ vs) fs b) (omega (arith, few)) next first.1 in
    let h = first.0 in
    ap (λ (gs : List (List (List ℕ))). (w ∷ ws) ∷ gs) rest ∙ ap (λ (us : List (List ℕ)). us ∷ fs) h

-- the tables of the same bytes are the same
pub one_table2 : (bytes : List ℕ) (t u : Table) → SpellsTable2 bytes t → SpellsTable2 bytes u → t ≡ u
unfolding table_bytes2
one_table2 bytes t u a b =
    let e : table_bytes2 t ≡ table_bytes2 u = sym a.1 ∙ b.1 in
    let k = same_kind t.kind u.kind (ap (λ (l : List ℕ). slice_index l 8) e) in
    let n = ap (λ (l : List ℕ). slice_index l 9) e in
    let labels : label_count u.kind u.dimension ≡ label_count t.kind t.dimension =
    subst (λ (c : Kind). label_count c u.dimension ≡ label_count t.kind t.dimension) k
    (subst (λ (m : ℕ). label_count t.kind m ≡ label_count t.kind t.dimension) n refl) in
    let small = is_small_cell t.kind t.dimension a.0.fits in
    let long : length t.entries ≡ length u.entries = a.0.whole ∙ sym labels ∙ sym b.0.whole in
    let few : length t.entries ≤ 65536 = omega (arith, a.0.whole, small.labels) in
    let count : filled_count t.entries ≡ filled_count u.entries =
    same_count (filled_count t.entries) (filled_count u.entries) (omega (arith, few, filled_few t.entries)) (omega (arith, few, long, filled_few u.entries))
    (ap (λ (l : List ℕ). slice_index l 16) e) (ap (λ (l : List ℕ). slice_index l 17) e) (ap (λ (l : List ℕ). slice_index l 18) e)
    (ap (λ (l : List ℕ). slice_index l 19) e) in
    let start = index_end (filled_count t.entries) in
    let parts =
    same_front (index_bytes 0 start t.entries) (index_bytes 0 (index_end (filled_count u.entries)) u.entries) (flat_map body_bytes t.entries)
    (flat_map body_bytes u.entries)
    (length-index_bytes 0 start t.entries ∙ ap (λ m. 12 * m) count ∙ sym (length-index_bytes 0 (index_end (filled_count u.entries)) u.entries))
    (ap (drop 20) e) in
    let index : index_bytes 0 start t.entries ≡ index_bytes 0 start u.entries =
    parts.0 ∙ ap (λ m. index_bytes 0 (index_end m) u.entries) (sym count) in
    let sound : All (IsEntry t.kind t.dimension) u.entries =
    subst (λ (c : Kind). All (IsEntry c t.dimension) u.entries) (sym k) (subst (λ (m : ℕ). All (IsEntry u.kind m) u.entries) (sym n) b.0.sound) in
    let entries =
    entries_once t.kind t.dimension 0 start t.entries u.entries [] [] long a.0.sound sound (omega (arith, few)) index
    (ap (λ (l : List ℕ). l ++ []) parts.1) in
    λ i. record { kind = k i; dimension = n i; entries = entries i }
