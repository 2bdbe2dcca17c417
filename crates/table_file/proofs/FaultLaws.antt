-- Bytes have one fault at most.
use Rattle.std.specs.Prelude.{◌≡◌, ℕ, ◌+◌, ◌^◌, ◌<◌, ◌≤◌, List, [], ◌∷◌, ◌++◌, flat_map, length, take, drop, All}
use Rattle.std.proofs.Common.{refl, sym, ap, ◌∙◌, subst, arith, inl, inr}
use Rattle.std.proofs.lemmas.Bool.{cases_lt}
use Rattle.std.proofs.lemmas.List.{append_assoc, append-nil, take-append-drop, take-append-le, take-take, take_all, take_at, drop_at, length-take-le}
use Rattle.std.proofs.lemmas.List.{length-drop, length-append}
use Rattle.iso_model.specs.declared.Kind.{Kind}
use Rattle.iso_model.specs.Cells.{HasDimension, label_count}
use Rattle.iso_model.specs.Tables.{IsEntry}
use Rattle.iso_formats.specs.TableFile.{table_bytes, entry_bytes, big_endian, BeginsTable, IsWholeTable, StopsAt, CountPasses, IsWrongEdge}
use Rattle.iso_formats.specs.TableFile.{TableFault, magic_fault, kind_fault, edge_fault, short_fault, extra_fault, HasTableFault, WrongEdgeStops}
use Rattle.iso_formats.proofs.TableLaws.{heads_same, entries_go_on}
use Rattle.table_file.specs.HeldEntries.{HasWrongEdge, IsCutOff}
use Rattle.table_file.proofs.HeadLaws.{table_long}
use Rattle.table_file.proofs.EntryLaws.{no_entry_wrong, no_entry_cut}
use Rattle.table_file.proofs.Progress.{table_of, HasRead, All-further, goes_on_as, next_entry, not_whole-entry}
use Rattle.table_file.proofs.Beginnings.{begins_entries, begins_cut, begins_front, begins_earlier, no_longer}
use Rattle.std.proofs.lemmas.List.Elements.{All-head}

-- ---- a place at which no table goes on

whole_begins : (bytes : List ℕ) → IsWholeTable bytes → BeginsTable bytes
whole_begins bytes w = (w.0, [], (w.1.0, append-nil bytes ∙ w.1.1))

stops_begins : (bytes : List ℕ) (p : ℕ) → StopsAt bytes p → BeginsTable bytes → ⊥
stops_begins bytes p s b = s.stopped (begins_front bytes (p + 1) b)

stops_below : (bytes : List ℕ) (p q : ℕ) → StopsAt bytes p → BeginsTable (take q bytes) → p < q → ⊥
stops_below bytes p q s b h = s.stopped (begins_earlier bytes (p + 1) q (omega arith) b)

stops_once : (bytes : List ℕ) (p q : ℕ) → StopsAt bytes p → StopsAt bytes q → p ≡ q
stops_once bytes p q s t = elim (cases_lt p q) [
  | inl lt ↦ absurd (stops_below bytes p q s t.begun lt)
  | inr ge ↦ elim (cases_lt q p) [ inl lt ↦ absurd (stops_below bytes q p t s.begun lt) | inr le ↦ omega arith ]
]

-- no table begins further on than a whole one
whole_below : (bytes : List ℕ) (p q : ℕ) → p < q → q ≤ length bytes → IsWholeTable (take p bytes) → BeginsTable (take q bytes) → ⊥
whole_below bytes p q h inside w b =
    let more = drop p (take q bytes) in
    let parts : take p bytes ++ more ≡ take q bytes =
    ap (λ (l : List ℕ). l ++ more) (sym (take-take p q bytes (omega arith))) ∙ take-append-drop p (take q bytes) in
    let none = no_longer (take p bytes) more w (subst BeginsTable (sym parts) b) in
    omega (arith, ap (λ (l : List ℕ). length l) none, length-drop p (take q bytes), length-take-le q bytes inside)

whole_long : (bytes : List ℕ) (q : ℕ) → q < length bytes → IsWholeTable (take q bytes) → 16 ≤ q
whole_long bytes q h w = omega (arith, length-take-le q bytes (omega arith), table_long w.0, ap (λ (l : List ℕ). length l) w.1.1)

-- ---- what was read before a count or a tuple

pub read_at : (kind : Kind) (d : ℕ) (bytes : List ℕ) (es : List (List (List ℕ))) (rest : List ℕ) → HasDimension kind d → All (IsEntry kind d) es
    → bytes ≡ table_bytes (table_of kind d es) ++ rest → HasRead kind d bytes es (length (table_bytes (table_of kind d es)))
read_at kind d bytes es rest fits sound e =
    let start = table_bytes (table_of kind d es) in
    let behind : drop (length start) bytes ≡ rest = ap (λ (l : List ℕ). drop (length start) l) e ∙ drop_at start rest (length start) refl in
    record {
      fits = fits;
      sound = sound;
      inside = omega (arith, ap (λ (l : List ℕ). length l) e, length-append start rest);
      split = e ∙ ap (λ (l : List ℕ). start ++ l) (sym behind);
    }

pub behind_read : (kind : Kind) (d : ℕ) (bytes : List ℕ) (es : List (List (List ℕ))) (rest : List ℕ) → bytes ≡ table_bytes (table_of kind d es) ++ rest
    → drop (length (table_bytes (table_of kind d es))) bytes ≡ rest
behind_read kind d bytes es rest e =
    let start = table_bytes (table_of kind d es) in ap (λ (l : List ℕ). drop (length start) l) e ∙ drop_at start rest (length start) refl

wrong_longer : (kind : Kind) (d : ℕ) (bytes more : List ℕ) (distance : ℕ) → HasWrongEdge kind d bytes distance → HasWrongEdge kind d (bytes ++ more) distance
wrong_longer kind d bytes more distance w = record {
  count = w.count;
  before = w.before;
  byte = w.byte;
  rest = w.rest ++ more;
  few = w.few;
  in_tuple = w.in_tuple;
  right = w.right;
  wrong = w.wrong;
  split = ap (λ (l : List ℕ). l ++ more) w.split ∙ append_assoc (big_endian 4 w.count ++ w.before) (w.byte ∷ w.rest) more;
  at = w.at;
}

not_begins-wrong : (kind : Kind) (d : ℕ) (bytes : List ℕ) (es : List (List (List ℕ))) (place distance : ℕ) → HasRead kind d bytes es place
    → length es < label_count kind d
    → HasWrongEdge kind d (drop place bytes) distance → BeginsTable bytes → ⊥
not_begins-wrong kind d bytes es place distance r few w b =
    let rest = drop place bytes in
    let on = goes_on_as kind d bytes es place r (omega arith) b.0 b.1 b.2 in
    next_entry kind d es rest b.1 on.further on.sound on.on (omega (arith, few, on.labels))
    (λ g y s e. no_entry_wrong kind d (rest ++ b.1) distance (wrong_longer kind d rest b.1 distance w) g y s e)

-- ---- a count that passes

pub begins_count_at : (rest : List ℕ) (n : ℕ) (x : List ℕ) → rest ≡ big_endian 4 n ++ x → take 4 rest ≡ take (length rest) (big_endian 4 n)
begins_count_at rest n x e =
    ap (λ (l : List ℕ). take 4 l) e ∙ sym (take_all (length rest) (big_endian 4 n) (omega (arith, ap (λ (l : List ℕ). length l) e)))

passes_never : (kind : Kind) (d : ℕ) (rest y : List ℕ) (gs : List (List (List ℕ))) → All (IsEntry kind d) gs → 0 < length gs
    → rest ≡ flat_map entry_bytes gs ++ y
    → ((count : ℕ) → count ≤ 2 ^ 28 → ¬ (take 4 rest ≡ take (length rest) (big_endian 4 count))) → ⊥
passes_never kind d rest y [] s some e never = omega arith
passes_never kind d rest y (g ∷ gs) s some e never =
    let more = flat_map entry_bytes gs ++ y in
    let flat = flat_map (λ (w : List ℕ). w) g in
    never (length g) ((All-head (IsEntry kind d) g gs s).0)
    (begins_count_at rest (length g) (flat ++ more)
    (e ∙ append_assoc (entry_bytes g) (flat_map entry_bytes gs) y ∙ append_assoc (big_endian 4 (length g)) flat more))

-- an entry begins what entries are
entry_first : (kind : Kind) (d : ℕ) (rest y : List ℕ) (gs : List (List (List ℕ))) → All (IsEntry kind d) gs → 0 < length gs
    → rest ≡ flat_map entry_bytes gs ++ y
    → ((g : List (List ℕ)) (x : List ℕ) → IsEntry kind d g → rest ≡ entry_bytes g ++ x → ⊥) → ⊥
entry_first kind d rest y [] s some e never = omega arith
entry_first kind d rest y (g ∷ gs) s some e never =
    never g (flat_map entry_bytes gs ++ y) (All-head (IsEntry kind d) g gs s) (e ∙ append_assoc (entry_bytes g) (flat_map entry_bytes gs) y)

-- the entries before a count that passes, seen as entries of another head
record SameEntries (kind : Kind) (d : ℕ) (es : List (List (List ℕ))) (rest : List ℕ) (bytes : List ℕ) (c : CountPasses bytes) : Type 0 where
  sound : All (IsEntry kind d) c.entries
  room : length c.entries < label_count kind d
  rests : flat_map entry_bytes c.entries ++ c.rest ≡ flat_map entry_bytes es ++ rest

same_entries : (kind : Kind) (d : ℕ) (es : List (List (List ℕ))) (rest bytes : List ℕ) (c : CountPasses bytes)
    → bytes ≡ table_bytes (table_of kind d es) ++ rest
    → SameEntries kind d es rest bytes c
same_entries kind d es rest bytes c e =
    let h = heads_same c.kind c.dimension kind d c.entries es c.rest rest (sym c.split ∙ e) in
    record {
      sound = subst (λ (k : Kind). All (IsEntry k d) c.entries) h.kinds (subst (λ (n : ℕ). All (IsEntry c.kind n) c.entries) h.dimensions c.sound);
      room = subst (λ (k : Kind). length c.entries < label_count k d) h.kinds (subst (λ (n : ℕ). length c.entries < label_count c.kind n) h.dimensions c.room);
      rests = h.rests;
    }

-- no count passes before the end of entries
passes_before : (kind : Kind) (d : ℕ) (es : List (List (List ℕ))) (rest bytes : List ℕ) (c : CountPasses bytes) → All (IsEntry kind d) es
    → bytes ≡ table_bytes (table_of kind d es) ++ rest → length c.entries < length es → ⊥
passes_before kind d es rest bytes c sound e before =
    let s = same_entries kind d es rest bytes c e in
    let on = entries_go_on kind d c.entries es c.rest rest (omega arith) s.sound sound s.rests in
    passes_never kind d c.rest rest on.further (All-further (IsEntry kind d) c.entries on.further es on.is sound)
    (omega (arith, before, ap (λ (l : List (List (List ℕ))). length l) on.is, length-append c.entries on.further)) on.rest c.passes

-- nor at a count that is whole, nor behind the tuple with a wrong byte
passes_wrong : (kind : Kind) (d : ℕ) (es : List (List (List ℕ))) (rest bytes : List ℕ) (distance : ℕ) (c : CountPasses bytes) → All (IsEntry kind d) es
    → bytes ≡ table_bytes (table_of kind d es) ++ rest → HasWrongEdge kind d rest distance → ⊥
passes_wrong kind d es rest bytes distance c sound e w = elim (cases_lt (length c.entries) (length es)) [
  | inl before ↦ passes_before kind d es rest bytes c sound e before
  | inr after ↦
      let s = same_entries kind d es rest bytes c e in
      let on = entries_go_on kind d es c.entries rest c.rest after sound s.sound (sym s.rests) in
      here on.further (All-further (IsEntry kind d) es on.further c.entries on.is s.sound) on.rest
]
  where
    here : (gs : List (List (List ℕ))) → All (IsEntry kind d) gs → rest ≡ flat_map entry_bytes gs ++ c.rest → ⊥
    here [] s r =
        c.passes w.count w.few
        (begins_count_at c.rest w.count (w.before ++ w.byte ∷ w.rest) (sym r ∙ w.split ∙ append_assoc (big_endian 4 w.count) w.before (w.byte ∷ w.rest)))
    here (g ∷ gs) s r = entry_first kind d rest c.rest (g ∷ gs) s (omega arith) r (no_entry_wrong kind d rest distance w)

-- ---- a wrong edge's number

record ReadsWrong (bytes : List ℕ) (place : ℕ) (w : IsWrongEdge bytes place) : Type 0 where
  behind : List ℕ
  split : bytes ≡ table_bytes (table_of w.kind w.dimension w.entries) ++ behind
  wrong : HasWrongEdge w.kind w.dimension behind (length w.before)
  front : take place bytes ≡ table_bytes (table_of w.kind w.dimension w.entries) ++ (big_endian 4 w.count ++ w.before)
  one_more : take (place + 1) bytes ≡ table_bytes (table_of w.kind w.dimension w.entries) ++ (big_endian 4 w.count ++ w.before ++ w.byte ∷ [])
  far : 16 ≤ place
  inside : place < length bytes

reads_wrong : (bytes : List ℕ) (place : ℕ) (w : IsWrongEdge bytes place) → ReadsWrong bytes place w
reads_wrong bytes place w =
    let t = table_of w.kind w.dimension w.entries in
    let start = table_bytes t in
    let count = big_endian 4 w.count in
    let front = start ++ (count ++ w.before) in
    let regroup : (x : List ℕ) → start ++ count ++ w.before ++ x ≡ front ++ x = λ x. ap (λ (l : List ℕ). l ++ x) (append_assoc start count w.before) in
    let split : bytes ≡ front ++ w.byte ∷ w.rest = w.split ∙ regroup (w.byte ∷ w.rest) in
    let long : length front ≡ place = omega (arith, w.at, ap (λ (l : List ℕ). length l) split, length-append front (w.byte ∷ w.rest)) in
    let next : bytes ≡ (front ++ w.byte ∷ []) ++ w.rest = split ∙ sym (append_assoc front (w.byte ∷ []) w.rest) in
    let longer : length (front ++ w.byte ∷ []) ≡ place + 1 = omega (arith, long, length-append front (w.byte ∷ [])) in
    record {
      behind = count ++ w.before ++ w.byte ∷ w.rest;
      split = split ∙ append_assoc start (count ++ w.before) (w.byte ∷ w.rest);
      wrong = record {
        count = w.count;
        before = w.before;
        byte = w.byte;
        rest = w.rest;
        few = w.few;
        in_tuple = w.in_tuple;
        right = w.right;
        wrong = w.wrong;
        split = refl;
        at = refl;
      };
      front = ap (λ (l : List ℕ). take place l) split ∙ take_at front (w.byte ∷ w.rest) place long;
      one_more =
          ap (λ (l : List ℕ). take (place + 1) l) next ∙ take_at (front ++ w.byte ∷ []) w.rest (place + 1) longer
          ∙ append_assoc start (count ++ w.before) (w.byte ∷ []);
      far = omega (arith, long, table_long t, length-append start (count ++ w.before));
      inside = omega (arith, w.at);
    }

cut_front : (bytes : List ℕ) (place : ℕ) (w : IsWrongEdge bytes place) → IsCutOff w.kind w.dimension (big_endian 4 w.count ++ w.before)
cut_front bytes place w = record { count = w.count; before = w.before; few = w.few; in_tuple = w.in_tuple; right = w.right; split = refl }

edge_begun : (bytes : List ℕ) (place : ℕ) (w : IsWrongEdge bytes place) → ReadsWrong bytes place w → BeginsTable (take place bytes)
edge_begun bytes place w r =
    let cut = cut_front bytes place w in
    let behind = big_endian 4 w.count ++ w.before in
    let at = length (table_bytes (table_of w.kind w.dimension w.entries)) in
    begins_cut w.kind w.dimension (take place bytes) w.entries at (read_at w.kind w.dimension (take place bytes) w.entries behind w.fits w.sound r.front) w.room
    (subst (λ (l : List ℕ). IsCutOff w.kind w.dimension l) (sym (behind_read w.kind w.dimension (take place bytes) w.entries behind r.front)) cut)

edge_not_whole : (bytes : List ℕ) (place : ℕ) (w : IsWrongEdge bytes place) → ReadsWrong bytes place w → IsWholeTable (take place bytes) → ⊥
edge_not_whole bytes place w r =
    let cut = cut_front bytes place w in
    let behind = big_endian 4 w.count ++ w.before in
    let at = length (table_bytes (table_of w.kind w.dimension w.entries)) in
    not_whole-entry w.kind w.dimension (take place bytes) w.entries at
    (read_at w.kind w.dimension (take place bytes) w.entries behind w.fits w.sound r.front) w.room
    (no_entry_cut w.kind w.dimension (drop at (take place bytes))
    (subst (λ (l : List ℕ). IsCutOff w.kind w.dimension l) (sym (behind_read w.kind w.dimension (take place bytes) w.entries behind r.front)) cut))

edge_stopped : (bytes : List ℕ) (place : ℕ) (w : IsWrongEdge bytes place) → ReadsWrong bytes place w → BeginsTable (take (place + 1) bytes) → ⊥
edge_stopped bytes place w r =
    let behind = big_endian 4 w.count ++ w.before ++ w.byte ∷ [] in
    let front = take (place + 1) bytes in
    let at = length (table_bytes (table_of w.kind w.dimension w.entries)) in
    let wrong : HasWrongEdge w.kind w.dimension behind (length w.before) = record {
      count = w.count;
      before = w.before;
      byte = w.byte;
      rest = [];
      few = w.few;
      in_tuple = w.in_tuple;
      right = w.right;
      wrong = w.wrong;
      split = refl;
      at = refl;
    } in
    not_begins-wrong w.kind w.dimension front w.entries at (length w.before)
    (read_at w.kind w.dimension front w.entries behind w.fits w.sound r.one_more) w.room
    (subst (λ (l : List ℕ). HasWrongEdge w.kind w.dimension l (length w.before)) (sym (behind_read w.kind w.dimension front w.entries behind r.one_more)) wrong)

pub wrong_edge_stops : (bytes : List ℕ) (place : ℕ) → WrongEdgeStops bytes place
wrong_edge_stops bytes place w =
    let r = reads_wrong bytes place w in (
      record { inside = r.inside; begun = edge_begun bytes place w r; stopped = edge_stopped bytes place w r },
      edge_not_whole bytes place w r,
      λ c. passes_wrong w.kind w.dimension w.entries r.behind bytes (length w.before) c w.sound r.split r.wrong,
    )

edge_far : (bytes : List ℕ) (place : ℕ) → IsWrongEdge bytes place → 16 ≤ place
edge_far bytes place w = (reads_wrong bytes place w).far

-- ---- faults of two kinds do not meet

-- before the end of a head
passes_head : (bytes : List ℕ) → CountPasses bytes → BeginsTable (take 16 bytes)
passes_head bytes c =
    let t = table_of c.kind c.dimension c.entries in
    let more = drop 16 (table_bytes t) in
    let same : take 16 bytes ++ more ≡ table_bytes t =
    ap (λ (l : List ℕ). l ++ more) (ap (λ (l : List ℕ). take 16 l) c.split ∙ take-append-le 16 (table_bytes t) c.rest (table_long t))
    ∙ take-append-drop 16 (table_bytes t) in
    begins_entries c.kind c.dimension c.entries (take 16 bytes) more c.fits c.sound (omega (arith, c.room)) same

low_short : (bytes : List ℕ) (p q : ℕ) → StopsAt bytes p → p < 16 → HasTableFault bytes (short_fault q) → ⊥
low_short bytes p q s low f = elim f.1 as (λ _. ⊥) [
  | inl c ↦ stops_below bytes p 16 s (passes_head bytes c) low
  | inr b ↦ stops_begins bytes p s b.0
]

low_extra : (bytes : List ℕ) (p q : ℕ) → StopsAt bytes p → p < 16 → HasTableFault bytes (extra_fault q) → ⊥
low_extra bytes p q s low f = stops_below bytes p q s (whole_begins (take q bytes) f.1) (omega (arith, low, whole_long bytes q f.0 f.1))

edge_short : (bytes : List ℕ) (p q : ℕ) → IsWrongEdge bytes p → HasTableFault bytes (short_fault q) → ⊥
edge_short bytes p q w f = elim f.1 as (λ _. ⊥) [ inl c ↦ (wrong_edge_stops bytes p w).2 c | inr b ↦ stops_begins bytes p (wrong_edge_stops bytes p w).0 b.0 ]

edge_extra : (bytes : List ℕ) (p q : ℕ) → IsWrongEdge bytes p → HasTableFault bytes (extra_fault q) → ⊥
edge_extra bytes p q w f =
    let s = wrong_edge_stops bytes p w in
    elim (cases_lt p q) as (λ _. ⊥) [
      | inl lt ↦ stops_below bytes p q s.0 (whole_begins (take q bytes) f.1) lt
      | inr ge ↦ elim (cases_lt q p) as (λ _. ⊥) [
        | inl lt ↦ whole_below bytes q p lt (omega (arith, s.0.inside)) f.1 s.0.begun
        | inr le ↦ let same : q ≡ p = omega arith in s.1 (subst (λ (n : ℕ). IsWholeTable (take n bytes)) same f.1)
      ]
    ]

short_extra : (bytes : List ℕ) (p q : ℕ) → HasTableFault bytes (short_fault p) → HasTableFault bytes (extra_fault q) → ⊥
short_extra bytes p q f g = elim f.1 as (λ _. ⊥) [
  | inl c ↦
      let t = g.1.0 in
      let split : bytes ≡ table_bytes t ++ drop q bytes = sym (take-append-drop q bytes) ∙ ap (λ (l : List ℕ). l ++ drop q bytes) g.1.1.1 in
      let s = same_entries t.kind t.dimension t.entries (drop q bytes) bytes c split in
      passes_before t.kind t.dimension t.entries (drop q bytes) bytes c g.1.1.0.sound split (omega (arith, s.room, g.1.1.0.whole))
  | inr b ↦ whole_below bytes q (length bytes) g.0 (omega arith) g.1 (subst BeginsTable (sym (take_all (length bytes) bytes (omega arith))) b.0)
]

extra_once : (bytes : List ℕ) (p q : ℕ) → HasTableFault bytes (extra_fault p) → HasTableFault bytes (extra_fault q) → p ≡ q
extra_once bytes p q f g = elim (cases_lt p q) [
  | inl lt ↦ absurd (whole_below bytes p q lt (omega (arith, g.0)) f.1 (whole_begins (take q bytes) g.1))
  | inr ge ↦
      elim (cases_lt q p)
      [ inl lt ↦ absurd (whole_below bytes q p lt (omega (arith, f.0)) g.1 (whole_begins (take p bytes) f.1)) | inr le ↦ omega arith ]
]

pub same_fault : (bytes : List ℕ) (f g : TableFault) → HasTableFault bytes f → HasTableFault bytes g → f ≡ g
same_fault bytes (magic_fault p) (magic_fault q) a b = ap magic_fault (stops_once bytes p q a.0 b.0)
same_fault bytes (magic_fault p) (kind_fault q) a b = absurd (omega (arith, a.1, b.1, stops_once bytes p q a.0 b.0))
same_fault bytes (magic_fault p) (edge_fault q) a b = absurd (omega (arith, a.1, edge_far bytes q b, stops_once bytes p q a.0 (wrong_edge_stops bytes q b).0))
same_fault bytes (magic_fault p) (short_fault q) a b = absurd (low_short bytes p q a.0 (omega (arith, a.1)) b)
same_fault bytes (magic_fault p) (extra_fault q) a b = absurd (low_extra bytes p q a.0 (omega (arith, a.1)) b)
same_fault bytes (kind_fault p) (magic_fault q) a b = absurd (omega (arith, a.1, b.1, stops_once bytes p q a.0 b.0))
same_fault bytes (kind_fault p) (kind_fault q) a b = ap kind_fault (stops_once bytes p q a.0 b.0)
same_fault bytes (kind_fault p) (edge_fault q) a b = absurd (omega (arith, a.2, edge_far bytes q b, stops_once bytes p q a.0 (wrong_edge_stops bytes q b).0))
same_fault bytes (kind_fault p) (short_fault q) a b = absurd (low_short bytes p q a.0 a.2 b)
same_fault bytes (kind_fault p) (extra_fault q) a b = absurd (low_extra bytes p q a.0 a.2 b)
same_fault bytes (edge_fault p) (magic_fault q) a b = absurd (omega (arith, b.1, edge_far bytes p a, stops_once bytes q p b.0 (wrong_edge_stops bytes p a).0))
same_fault bytes (edge_fault p) (kind_fault q) a b = absurd (omega (arith, b.2, edge_far bytes p a, stops_once bytes q p b.0 (wrong_edge_stops bytes p a).0))
same_fault bytes (edge_fault p) (edge_fault q) a b = ap edge_fault (stops_once bytes p q (wrong_edge_stops bytes p a).0 (wrong_edge_stops bytes q b).0)
same_fault bytes (edge_fault p) (short_fault q) a b = absurd (edge_short bytes p q a b)
same_fault bytes (edge_fault p) (extra_fault q) a b = absurd (edge_extra bytes p q a b)
same_fault bytes (short_fault p) (magic_fault q) a b = absurd (low_short bytes q p b.0 (omega (arith, b.1)) a)
same_fault bytes (short_fault p) (kind_fault q) a b = absurd (low_short bytes q p b.0 b.2 a)
same_fault bytes (short_fault p) (edge_fault q) a b = absurd (edge_short bytes q p b a)
same_fault bytes (short_fault p) (short_fault q) a b = ap short_fault (a.0 ∙ sym b.0)
same_fault bytes (short_fault p) (extra_fault q) a b = absurd (short_extra bytes p q a b)
same_fault bytes (extra_fault p) (magic_fault q) a b = absurd (low_extra bytes q p b.0 (omega (arith, b.1)) a)
same_fault bytes (extra_fault p) (kind_fault q) a b = absurd (low_extra bytes q p b.0 b.2 a)
same_fault bytes (extra_fault p) (edge_fault q) a b = absurd (edge_extra bytes q p b a)
same_fault bytes (extra_fault p) (short_fault q) a b = absurd (short_extra bytes q p b a)
same_fault bytes (extra_fault p) (extra_fault q) a b = ap extra_fault (extra_once bytes p q a b)

-- ---- the file of a table has no fault

pub whole_no_fault : (bytes : List ℕ) (fault : TableFault) → IsWholeTable bytes → HasTableFault bytes fault → ⊥
whole_no_fault bytes (magic_fault p) w f = stops_begins bytes p f.0 (whole_begins bytes w)
whole_no_fault bytes (kind_fault p) w f = stops_begins bytes p f.0 (whole_begins bytes w)
whole_no_fault bytes (edge_fault p) w f = stops_begins bytes p (wrong_edge_stops bytes p f).0 (whole_begins bytes w)
whole_no_fault bytes (short_fault p) w f = elim f.1 as (λ _. ⊥) [
  | inl c ↦
      let t = w.0 in
      let split : bytes ≡ table_bytes t ++ [] = w.1.1 ∙ sym (append-nil (table_bytes t)) in
      let s = same_entries t.kind t.dimension t.entries [] bytes c split in
      passes_before t.kind t.dimension t.entries [] bytes c w.1.0.sound split (omega (arith, s.room, w.1.0.whole))
  | inr b ↦ b.1 w
]
whole_no_fault bytes (extra_fault p) w f =
    whole_below bytes p (length bytes) f.0 (omega arith) f.1
    (subst BeginsTable (sym (take_all (length bytes) bytes (omega arith))) (whole_begins bytes w))
