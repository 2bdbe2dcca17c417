-- Bytes that begin those of a table, and where none goes on.
use Rattle.std.specs.Prelude.{◌≡◌, ℕ, ◌+◌, ◌-◌, ◌*◌, ◌^◌, ◌<◌, ◌≤◌, List, [], ◌∷◌, ◌++◌, flat_map, replicate, length, take, drop, All}
use Rattle.std.specs.Simd.{first_chunks}
use Rattle.std.proofs.Common.{sym, ap, ◌∙◌, subst, arith}
use Rattle.std.proofs.lemmas.List.{append_assoc, append-nil, take-append-drop, take-append-le, take-take, take_all, length-take-le, length-append}
use Rattle.std.proofs.lemmas.List.{length-replicate, nil_from_length}
use Rattle.std.proofs.lemmas.List.Concat.{flat_map-append}
use Rattle.std.proofs.lemmas.List.Elements.{All-nil, All-append, All-cons, All-replicate}
use Rattle.iso_model.specs.declared.Kind.{Kind}
use Rattle.iso_model.specs.Cells.{HasDimension, edge_count, label_count}
use Rattle.iso_model.specs.Tables.{IsTable, IsEntry, IsTuple}
use Rattle.iso_formats.specs.TableFile.{head_bytes, table_bytes, entry_bytes, big_endian, BeginsTable, IsWholeTable, StopsAt}
use Rattle.iso_formats.proofs.TableLaws.{table_reads_on}
use Rattle.table_file.specs.Heads.{BeginsHead, StopsInHead}
use Rattle.table_file.specs.HeldEntries.{IsCutOff}
use Rattle.table_file.proofs.Chunks.{length-first_chunks, flat_map-first_chunks, rows-first_chunks}
use Rattle.table_file.proofs.TupleRows.{small_counts}
use Rattle.table_file.proofs.HeadLaws.{table_head}
use Rattle.table_file.proofs.Progress.{table_of, HasRead, labels_same}

-- ---- entries without tuples

empty_entry : (kind : Kind) (d : ℕ) → IsEntry kind d []
empty_entry kind d = (omega arith, All-nil (IsTuple kind d))

-- what was given and then entries without tuples is a table
pub filled : ℕ → List (List (List ℕ))
filled n = replicate n []

filled_is_table : (kind : Kind) (d : ℕ) (es : List (List (List ℕ))) → HasDimension kind d → All (IsEntry kind d) es → length es ≤ label_count kind d
    → IsTable (table_of kind d (es ++ filled (label_count kind d - length es)))
unfolding filled
filled_is_table kind d es fits sound few = record {
  fits = fits;
  whole =
      omega (
        arith,
        few,
        length-append es (replicate (label_count kind d - length es) []),
        length-replicate (label_count kind d - length es) (let e : List (List ℕ) = [] in e),
      );
  sound = All-append (IsEntry kind d) es _ sound (All-replicate (IsEntry kind d) (label_count kind d - length es) [] (empty_entry kind d));
}

table_bytes-append : (kind : Kind) (d : ℕ) (es gs : List (List (List ℕ)))
    → table_bytes (table_of kind d (es ++ gs)) ≡ table_bytes (table_of kind d es) ++ flat_map entry_bytes gs
unfolding table_bytes
table_bytes-append kind d es gs =
    ap (λ (l : List ℕ). head_bytes 1 kind d ++ l) (flat_map-append entry_bytes es gs)
    ∙ sym (append_assoc (head_bytes 1 kind d) (flat_map entry_bytes es) (flat_map entry_bytes gs))

-- the head and some entries begin a table
pub begins_entries : (kind : Kind) (d : ℕ) (es : List (List (List ℕ))) (bytes more : List ℕ) → HasDimension kind d → All (IsEntry kind d) es
    → length es ≤ label_count kind d
    → bytes ++ more ≡ table_bytes (table_of kind d es) → BeginsTable bytes
begins_entries kind d es bytes more fits sound few e =
    let rest = flat_map entry_bytes (filled (label_count kind d - length es)) in (
      table_of kind d (es ++ filled (label_count kind d - length es)),
      more ++ rest,
      (
        filled_is_table kind d es fits sound few,
        sym (append_assoc bytes more rest) ∙ ap (λ (l : List ℕ). l ++ rest) e ∙ sym (table_bytes-append kind d es (filled (label_count kind d - length es))),
      ),
    )

-- what stands before the place and then a front of an entry
pub begins_entry : (kind : Kind) (d : ℕ) (bytes : List ℕ) (es : List (List (List ℕ))) (place : ℕ) (g : List (List ℕ)) (more : List ℕ)
    → HasRead kind d bytes es place
    → length es < label_count kind d → IsEntry kind d g → drop place bytes ++ more ≡ entry_bytes g → BeginsTable bytes
begins_entry kind d bytes es place g more r few s e =
    begins_entries kind d (es ++ g ∷ []) bytes more r.fits
    (All-append (IsEntry kind d) es (g ∷ []) r.sound (All-cons (IsEntry kind d) g [] s (All-nil (IsEntry kind d))))
    (omega (arith, few, length-append es (g ∷ [])))
    (
    ap (λ (l : List ℕ). l ++ more) r.split ∙ append_assoc (table_bytes (table_of kind d es)) (drop place bytes) more
    ∙ ap (λ (l : List ℕ). table_bytes (table_of kind d es) ++ l) (e ∙ sym (append-nil (entry_bytes g))) ∙ sym (table_bytes-append kind d es (g ∷ [])))

-- ---- fronts of an entry

-- so many bytes of edge numbers are those of tuples
pub tuples_of : (kind : Kind) (d count : ℕ) (flat : List ℕ) → count ≤ 2 ^ 28 → length flat ≡ count * d → All (λ e. e < edge_count kind d) flat
    → (g : List (List ℕ)) × IsEntry kind d g × (entry_bytes g ≡ big_endian 4 count ++ flat)
tuples_of kind d count flat few long right =
    let g = first_chunks d count flat in
    let many : length g ≡ count = length-first_chunks d count flat in
    let all : flat_map (λ (w : List ℕ). w) g ≡ flat = flat_map-first_chunks d count flat ∙ take_all (count * d) flat (omega (arith, long)) in (
      g,
      (omega (arith, many, few), rows-first_chunks (edge_count kind d) d count flat (omega (arith, long)) right),
      ap (λ (n : ℕ). big_endian 4 n ++ flat_map (λ (w : List ℕ). w) g) many ∙ ap (λ (l : List ℕ). big_endian 4 count ++ l) all,
    )

pub begins_cut : (kind : Kind) (d : ℕ) (bytes : List ℕ) (es : List (List (List ℕ))) (place : ℕ) → HasRead kind d bytes es place → length es < label_count kind d
    → IsCutOff kind d (drop place bytes) → BeginsTable bytes
begins_cut kind d bytes es place r few c =
    let zeros : List ℕ = replicate (c.count * d - length c.before) 0 in
    let some = (small_counts kind d r.fits).some_edges in
    let t = tuples_of kind d c.count (c.before ++ zeros) c.few
    (omega (arith, c.in_tuple, length-append c.before zeros, length-replicate {A = ℕ} (c.count * d - length c.before) 0))
    (All-append (λ e. e < edge_count kind d) c.before zeros c.right (All-replicate (λ e. e < edge_count kind d) (c.count * d - length c.before) 0 some)) in
    begins_entry kind d bytes es place t.0 zeros r few t.1
    (ap (λ (l : List ℕ). l ++ zeros) c.split ∙ append_assoc (big_endian 4 c.count) c.before zeros ∙ sym t.2)

-- a front of a count
pub begins_count : (kind : Kind) (d : ℕ) (bytes : List ℕ) (es : List (List (List ℕ))) (place count : ℕ) → HasRead kind d bytes es place
    → length es < label_count kind d
    → count ≤ 2 ^ 28 → length (drop place bytes) < 4 → drop place bytes ≡ take (length (drop place bytes)) (big_endian 4 count) → BeginsTable bytes
begins_count kind d bytes es place count r few small short e =
    let flat : List ℕ = replicate (count * d) 0 in
    let some = (small_counts kind d r.fits).some_edges in
    let t = tuples_of kind d count flat small (length-replicate {A = ℕ} (count * d) 0) (All-replicate (λ e. e < edge_count kind d) (count * d) 0 some) in
    let n = length (drop place bytes) in
    begins_entry kind d bytes es place t.0 (drop n (big_endian 4 count) ++ flat) r few t.1
    (
    ap (λ (l : List ℕ). l ++ (drop n (big_endian 4 count) ++ flat)) e ∙ sym (append_assoc (take n (big_endian 4 count)) (drop n (big_endian 4 count)) flat)
    ∙ ap (λ (l : List ℕ). l ++ flat) (take-append-drop n (big_endian 4 count)) ∙ sym t.2)

-- ---- heads

pub begins_head : (bytes : List ℕ) (place : ℕ) → place ≤ 16 → BeginsHead 1 bytes place → BeginsTable (take place bytes)
begins_head bytes place h b =
    let t = table_of b.kind b.dimension ([] ++ filled (label_count b.kind b.dimension - 0)) in
    let is = filled_is_table b.kind b.dimension [] b.fits (All-nil (IsEntry b.kind b.dimension)) (omega arith) in (
      t,
      drop place (table_bytes t),
      (
        is,
        ap (λ (l : List ℕ). l ++ drop place (table_bytes t)) (b.same ∙ sym (table_head t place h)) ∙ take-append-drop place (table_bytes t),
      ),
    )

-- what begins a table begins with a front of its head
pub head_of_table : (bytes : List ℕ) (place : ℕ) → place ≤ 16 → place ≤ length bytes → BeginsTable (take place bytes) → BeginsHead 1 bytes place
head_of_table bytes place h inside b = record {
  kind = b.0.kind;
  dimension = b.0.dimension;
  fits = b.2.0.fits;
  same =
      sym (take-take place place bytes (omega arith))
      ∙ sym (take-append-le place (take place bytes) b.1 (omega (arith, length-take-le place bytes inside)))
      ∙ ap (λ (l : List ℕ). take place l) b.2.1 ∙ table_head b.0 place h;
}

pub stops_in_head_at : (bytes : List ℕ) (place : ℕ) → StopsInHead 1 bytes place → place < length bytes → StopsAt bytes place
stops_in_head_at bytes place s inside = record {
  inside = inside;
  begun = begins_head bytes place (omega (arith, s.inside_head)) s.begun;
  stopped = λ b. s.stopped inside (head_of_table bytes (place + 1) (omega (arith, s.inside_head)) (omega (arith, inside)) b);
}

-- ---- one front of a table is a front of another

pub begins_front : (bytes : List ℕ) (n : ℕ) → BeginsTable bytes → BeginsTable (take n bytes)
begins_front bytes n b = (
  b.0,
  drop n bytes ++ b.1,
  (b.2.0, sym (append_assoc (take n bytes) (drop n bytes) b.1) ∙ ap (λ (l : List ℕ). l ++ b.1) (take-append-drop n bytes) ∙ b.2.1),
)

pub begins_earlier : (bytes : List ℕ) (m n : ℕ) → m ≤ n → BeginsTable (take n bytes) → BeginsTable (take m bytes)
begins_earlier bytes m n h b = subst BeginsTable (take-take m n bytes h) (begins_front (take n bytes) m b)

-- no table goes on behind a whole one
pub no_longer : (front more : List ℕ) → IsWholeTable front → BeginsTable (front ++ more) → more ≡ []
no_longer front more w b =
    let t = w.0 in
    let whole : table_bytes t ++ (more ++ b.1) ≡ table_bytes b.0 ++ [] =
    ap (λ (l : List ℕ). l ++ (more ++ b.1)) (sym w.1.1) ∙ sym (append_assoc front more b.1) ∙ b.2.1 ∙ sym (append-nil (table_bytes b.0)) in
    let r = table_reads_on t.kind t.dimension t.entries b.0 (more ++ b.1) [] b.2.0 w.1.0.sound (omega (arith, w.1.0.whole)) whole in
    let labels = labels_same t.kind t.dimension t.entries b.0 (more ++ b.1) [] b.2.0 r in
    let long : length r.on.further ≡ 0 =
    omega (arith, w.1.0.whole, labels, ap (λ (l : List (List (List ℕ))). length l) r.on.is, length-append t.entries r.on.further) in
    let rest : more ++ b.1 ≡ flat_map entry_bytes [] ++ [] =
    r.on.rest ∙ ap (λ (l : List (List (List ℕ))). flat_map entry_bytes l ++ []) (nil_from_length r.on.further long) in
    nil_from_length more (omega (arith, length-append more b.1, ap (λ (l : List ℕ). length l) rest))
