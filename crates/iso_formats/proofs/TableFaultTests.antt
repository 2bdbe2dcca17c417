-- The faults of some changes of the bytes of the table of the square.
use Rattle.std.specs.Prelude.{replicate, ◌≡◌, zero, suc, ℕ, ◌+◌, ◌^◌, ◌<◌, ◌≤◌, Bool, true, false, ◌&&◌, ◌==◌, nat_lt, List, [], ◌∷◌, ◌++◌, length}
use Rattle.std.specs.Prelude.{slice_index, slice_index_or, take, drop, All, flat_map, ◌⊎◌}
use Rattle.std.specs.List.{list_all}
use Rattle.std.proofs.Common.{refl, ap, arith, inl, subst, sym, ◌∙◌, inr}
use Rattle.std.proofs.lemmas.Bool.Decides.{nat_tests}
use Rattle.std.proofs.lemmas.List.{append_assoc, append-nil, length-append, take_all}
use Rattle.std.proofs.lemmas.List.Sums.{AllPass-from_list_all}
use Rattle.iso_model.specs.declared.Kind.{Kind}
use Rattle.iso_model.specs.declared.Kind.TheVariants.{Cube, Simplex, Pyramid}
use Rattle.iso_model.specs.Cells.{edge_count, HasDimension, label_count}
use Rattle.iso_model.specs.Tables.{Table, IsTable, IsEntry, IsTuple}
use Rattle.iso_formats.specs.TableFile.{table_bytes, HasTableFault, kind_fault, short_fault, extra_fault, entry_bytes, big_endian, BeginsTable}
use Rattle.iso_formats.specs.TableFile.{CountPasses, IsWholeTable, edge_fault, WrongEdgeStops}
use Rattle.iso_formats.proofs.TableLaws.{fault-cut, fault-append, table_reads_on, ReadsOn, SameHeads, heads_same, entries_go_on, not_whole-cut}
use Rattle.iso_model.proofs.TableTests.{square}
use Rattle.std.proofs.lemmas.Bool.{and_parts}
use Rattle.std.proofs.lemmas.List.Elements.{All-head, All-tail}

-- the bytes of the table of the square
abbrev pub square_bytes : List ℕ
square_bytes =
    0x48 ∷ 0x55 ∷ 0x4c ∷ 0x4c ∷ 0x54 ∷ 0x41 ∷ 0x42 ∷ 0x31 ∷ 0 ∷ 2 ∷ 4 ∷ 4 ∷ 0 ∷ 0 ∷ 0 ∷ 16
    ∷ 0 ∷ 0 ∷ 0 ∷ 0 ∷ 0 ∷ 0 ∷ 0 ∷ 1 ∷ 0 ∷ 1 ∷ 0 ∷ 0 ∷ 0 ∷ 1 ∷ 2 ∷ 0 ∷ 0 ∷ 0 ∷ 0 ∷ 1 ∷ 2 ∷ 1 ∷ 0 ∷ 0 ∷ 0 ∷ 1 ∷ 1 ∷ 3 ∷ 0 ∷ 0 ∷ 0 ∷ 1 ∷ 0 ∷ 3
    ∷ 0 ∷ 0 ∷ 0 ∷ 2 ∷ 1 ∷ 0 ∷ 2 ∷ 3 ∷ 0 ∷ 0 ∷ 0 ∷ 1 ∷ 2 ∷ 3 ∷ 0 ∷ 0 ∷ 0 ∷ 1 ∷ 3 ∷ 2 ∷ 0 ∷ 0 ∷ 0 ∷ 2 ∷ 0 ∷ 2 ∷ 3 ∷ 1 ∷ 0 ∷ 0 ∷ 0 ∷ 1 ∷ 3 ∷ 0 ∷ 0 ∷ 0
    ∷ 0 ∷ 1 ∷ 3 ∷ 1
    ∷ 0 ∷ 0 ∷ 0 ∷ 1 ∷ 1 ∷ 2 ∷ 0 ∷ 0 ∷ 0 ∷ 1 ∷ 0 ∷ 2 ∷ 0 ∷ 0 ∷ 0 ∷ 1 ∷ 1 ∷ 0 ∷ 0 ∷ 0 ∷ 0 ∷ 0 ∷ []

square_spelled : table_bytes square ≡ square_bytes
unfolding table_bytes
square_spelled = refl

-- ---- the square's table is one

is_tuple : Kind → ℕ → List ℕ → Bool
is_tuple kind d w = length w == d && list_all (λ e. nat_lt e (edge_count kind d)) w

below_from : (a b : ℕ) → nat_lt a b ≡ true → a < b
below_from a b e = grind (arith, nat_tests)

equal_from : (a b : ℕ) → (a == b) ≡ true → a ≡ b
equal_from a b e = grind (arith, nat_tests)

tuple_from : (kind : Kind) (d : ℕ) (w : List ℕ) → is_tuple kind d w ≡ true → IsTuple kind d w
unfolding is_tuple
tuple_from kind d w e =
    let b = and_parts (length w == d) (list_all (λ e. nat_lt e (edge_count kind d)) w) e in
    (equal_from (length w) d b.0, λ k n h. below_from _ _ (AllPass-from_list_all (λ e. nat_lt e (edge_count kind d)) w b.1 k n h))

entry_from : (kind : Kind) (d : ℕ) (ws : List (List ℕ)) → length ws ≤ 2 ^ 28 → list_all (is_tuple kind d) ws ≡ true → IsEntry kind d ws
entry_from kind d ws l e = (l, λ k n h. tuple_from kind d _ (AllPass-from_list_all (is_tuple kind d) ws e k n h))

is_small_entry : Kind → ℕ → List (List ℕ) → Bool
is_small_entry kind d ws = nat_lt (length ws) 1000 && list_all (is_tuple kind d) ws

entries_from : (kind : Kind) (d : ℕ) (es : List (List (List ℕ))) → list_all (is_small_entry kind d) es ≡ true → All (IsEntry kind d) es
unfolding is_small_entry
entries_from kind d es e = λ k n h.
    let b =
    and_parts (nat_lt (length (slice_index_or es k n)) 1000) (list_all (is_tuple kind d) (slice_index_or es k n))
    (AllPass-from_list_all (is_small_entry kind d) es e k n h) in
    let l = below_from _ _ b.0 in
    entry_from kind d (slice_index_or es k n) (omega arith) b.1

square_is_table : IsTable square
unfolding is_small_entry is_tuple
square_is_table = record { fits = (omega arith, omega arith); whole = refl; sound = entries_from Cube 2 square.entries refl }

-- ---- cut off, and too long

cut_to_50 : HasTableFault (take 50 square_bytes) (short_fault 50)
unfolding table_bytes
cut_to_50 = fault-cut square 50 square_is_table (omega arith)

cut_to_nothing : HasTableFault [] (short_fault 0)
unfolding table_bytes
cut_to_nothing = fault-cut square 0 square_is_table (omega arith)

one_more : HasTableFault (square_bytes ++ 0 ∷ []) (extra_fault 112)
unfolding table_bytes
one_more = fault-append square 0 [] square_is_table

-- ---- a wrong byte

abbrev with_byte : ℕ → ℕ → List ℕ
with_byte place b = take place square_bytes ++ b ∷ drop (place + 1) square_bytes

-- no kind has the dimension 5
not_five : (kind : Kind) (d : ℕ) → HasDimension kind d → 5 ≡ d → ⊥
not_five Cube d h e = omega (arith, h.1)
not_five Simplex d h e = omega (arith, h.1)
not_five Pyramid d h e = omega (arith, h)

dimension_five : HasTableFault (with_byte 9 5) (kind_fault 9)
unfolding table_bytes
dimension_five = (
  record {
    inside = omega arith;
    begun = (square, drop 9 square_bytes, (square_is_table, refl));
    stopped = λ b. not_five b.0.kind b.0.dimension b.2.0.fits (ap (λ (l : List ℕ). slice_index l 9) b.2.1);
  },
  omega arith,
  omega arith,
)

-- a count whose first byte is 32 begins none up to 2^28
great_count : HasTableFault (take 16 square_bytes ++ 32 ∷ []) (short_fault 17)
unfolding table_bytes
great_count = (
  refl,
  inl (record {
    kind = Cube;
    dimension = 2;
    entries = [];
    rest = 32 ∷ [];
    fits = (omega arith, omega arith);
    room = omega arith;
    sound = entries_from Cube 2 [] refl;
    split = refl;
    passes = λ count l e. omega (arith, ap (λ (b : List ℕ). slice_index b 0) e);
  }),
)

-- ---- an edge's number that is none: byte 107 is the second one of the tuple of label 14

abbrev front : List (List (List ℕ))
front = take 14 square.entries

abbrev wrong_edge : List ℕ
wrong_edge = with_byte 107 200

-- what follows the first fourteen entries begins no entry of the square
no_entry : (g : List (List ℕ)) (x y : List ℕ) → IsEntry Cube 2 g → 0 ∷ 0 ∷ 0 ∷ 1 ∷ 1 ∷ 200 ∷ x ≡ entry_bytes g ++ y → ⊥
no_entry [] x y s e = absurd (omega (arith, ap (λ (b : List ℕ). slice_index b 3) e))
no_entry ([] ∷ ws) x y s e = absurd (omega (arith, (All-head (IsTuple Cube 2) [] ws s.1).0))
no_entry ((a ∷ []) ∷ ws) x y s e = absurd (omega (arith, (All-head (IsTuple Cube 2) (a ∷ []) ws s.1).0))
no_entry ((a ∷ b ∷ w) ∷ ws) x y s e =
    absurd (omega (arith, ap (λ (l : List ℕ). slice_index l 5) e, (All-head (IsTuple Cube 2) (a ∷ b ∷ w) ws s.1).1 1 0 (omega arith)))

-- and so does it where it is followed by other bytes
no_entries : (gs : List (List (List ℕ))) (x y : List ℕ) → 0 < length gs → All (IsEntry Cube 2) gs
    → 0 ∷ 0 ∷ 0 ∷ 1 ∷ 1 ∷ 200 ∷ x ≡ flat_map entry_bytes gs ++ y → ⊥
no_entries [] x y l s e = absurd (omega arith)
no_entries (g ∷ gs) x y l s e =
    no_entry g x (flat_map entry_bytes gs ++ y) (All-head (IsEntry Cube 2) g gs s) (e ∙ append_assoc (entry_bytes g) (flat_map entry_bytes gs) y)

All-further : (es gs fs : List (List (List ℕ))) → fs ≡ es ++ gs → All (IsEntry Cube 2) fs → All (IsEntry Cube 2) gs
All-further [] gs fs e s = subst (λ (l : List (List (List ℕ))). All (IsEntry Cube 2) l) e s
All-further (g ∷ es) gs [] e s = absurd (cc)
All-further (g ∷ es) gs (f ∷ fs) e s = All-further es gs fs (ap (drop 1) e) (All-tail (IsEntry Cube 2) f fs s)

front_sound : All (IsEntry Cube 2) front
unfolding is_small_entry is_tuple
front_sound = entries_from Cube 2 front refl

square_labels : (u : Table) (x y : List ℕ) → IsTable u → ReadsOn Cube 2 front u x y → length u.entries ≡ 16
square_labels u x y is r =
    is.whole ∙ subst (λ (k : Kind). label_count k u.dimension ≡ 16) r.same_kind_of (subst (λ (d : ℕ). label_count Cube d ≡ 16) r.same_dimension refl)

further_there : (u : Table) (x y : List ℕ) → IsTable u → (r : ReadsOn Cube 2 front u x y) → 0 < length r.on.further
further_there u x y is r =
    omega (arith, square_labels u x y is r, ap (λ (l : List (List (List ℕ))). length l) r.on.is, length-append front r.on.further)

never_begins : BeginsTable (take 108 wrong_edge) → ⊥
unfolding table_bytes
never_begins b =
    let r = table_reads_on Cube 2 front b.0 (0 ∷ 0 ∷ 0 ∷ 1 ∷ 1 ∷ 200 ∷ b.1) [] b.2.0 front_sound (omega arith) (b.2.1 ∙ sym (append-nil (table_bytes b.0))) in
    no_entries r.on.further b.1 [] (further_there b.0 _ _ b.2.0 r) (All-further front r.on.further b.0.entries r.on.is r.sound) r.on.rest

-- the bytes before it are cut off within the tuple
never_whole : IsWholeTable (take 107 wrong_edge) → ⊥
unfolding table_bytes
never_whole w = not_whole-cut square 107 square_is_table (omega arith) w

abbrev behind : List ℕ
behind = 0 ∷ 0 ∷ 0 ∷ 1 ∷ 1 ∷ 200 ∷ drop 108 square_bytes

nat_cases : (a b : ℕ) → (a ≤ b) ⊎ (b < a)
nat_cases a b = grind (arith, nat_tests)

-- the first four bytes are those of a count
begins_count : (n : ℕ) (x : List ℕ) → (take 4 (big_endian 4 n ++ x) ≡ take (length (big_endian 4 n ++ x)) (big_endian 4 n))
begins_count n x = sym (take_all (length (big_endian 4 n ++ x)) (big_endian 4 n) (omega arith))

begins_count_at : (rest : List ℕ) (n : ℕ) (x : List ℕ) → rest ≡ big_endian 4 n ++ x → take 4 rest ≡ take (length rest) (big_endian 4 n)
begins_count_at rest n x e = subst (λ (r : List ℕ). take 4 r ≡ take (length r) (big_endian 4 n)) (sym e) (begins_count n x)

count_cases : (rest : List ℕ) (gs : List (List (List ℕ))) → All (IsEntry Cube 2) gs → rest ≡ flat_map entry_bytes gs ++ behind
    → ((count : ℕ) → count ≤ 2 ^ 28 → ¬ (take 4 rest ≡ take (length rest) (big_endian 4 count))) → ⊥
count_cases rest [] s e never = never 1 (omega arith) (begins_count_at rest 1 (1 ∷ 200 ∷ drop 108 square_bytes) e)
count_cases rest (g ∷ gs) s e never =
    never (length g) ((All-head (IsEntry Cube 2) g gs s).0) (begins_count_at rest (length g) (flat_map (λ w. w) g ++ flat_map entry_bytes gs ++ behind) e)

-- where so few entries come before the count, it is that of an entry of the square
few_never : (c : CountPasses wrong_edge) → SameHeads c.kind c.dimension Cube 2 c.entries front c.rest behind → length c.entries ≤ length front → ⊥
few_never c h few =
    let sound = subst (λ (k : Kind). All (IsEntry k 2) c.entries) h.kinds (subst (λ (d : ℕ). All (IsEntry c.kind d) c.entries) h.dimensions c.sound) in
    let g = entries_go_on Cube 2 c.entries front c.rest behind few sound front_sound h.rests in
    count_cases c.rest g.further (All-further c.entries g.further front g.is front_sound) g.rest c.passes

many_never : (c : CountPasses wrong_edge) → SameHeads c.kind c.dimension Cube 2 c.entries front c.rest behind → length front < length c.entries → ⊥
many_never c h many =
    let sound = subst (λ (k : Kind). All (IsEntry k 2) c.entries) h.kinds (subst (λ (d : ℕ). All (IsEntry c.kind d) c.entries) h.dimensions c.sound) in
    let g = entries_go_on Cube 2 front c.entries behind c.rest (omega arith) front_sound sound (sym h.rests) in
    no_entries g.further (drop 108 square_bytes) c.rest
    (omega (arith, ap (λ (l : List (List (List ℕ))). length l) g.is, length-append front g.further))
    (All-further front g.further c.entries g.is sound) g.rest

-- no count passes
never_passes : CountPasses wrong_edge → ⊥
unfolding table_bytes
never_passes c = elim (nat_cases (length c.entries) (length front)) as (λ _. ⊥) [
  | inl few ↦ few_never c (heads_same c.kind c.dimension Cube 2 c.entries front c.rest behind (sym c.split)) few
  | inr many ↦ many_never c (heads_same c.kind c.dimension Cube 2 c.entries front c.rest behind (sym c.split)) many
]

one_right : All (λ e. e < edge_count Cube 2) (1 ∷ [])
one_right zero d h = omega arith
one_right (suc k) d h = absurd (omega arith)

edge_200 : HasTableFault wrong_edge (edge_fault 107)
unfolding table_bytes
edge_200 = record {
  kind = Cube;
  dimension = 2;
  entries = front;
  count = 1;
  before = 1 ∷ [];
  byte = 200;
  rest = drop 108 square_bytes;
  fits = (omega arith, omega arith);
  room = omega arith;
  sound = front_sound;
  few = omega arith;
  in_tuple = omega arith;
  right = one_right;
  wrong = omega arith;
  split = refl;
  at = refl;
}

-- at this byte no table goes on
edge_200_stops : WrongEdgeStops wrong_edge 107
unfolding table_bytes
edge_200_stops w = (
  record { inside = omega arith; begun = (square, drop 107 square_bytes, (square_is_table, refl)); stopped = never_begins },
  never_whole,
  never_passes,
)

-- ---- a last count of 200, and the bytes end: they begin a table, and are none

abbrev last_count : List ℕ
last_count = with_byte 111 200

abbrev longer : Table
longer = record { kind = Cube; dimension = 2; entries = take 15 square.entries ++ replicate 200 (0 ∷ 0 ∷ []) ∷ [] }

longer_is_table : IsTable longer
unfolding is_small_entry is_tuple
longer_is_table = record { fits = (omega arith, omega arith); whole = refl; sound = entries_from Cube 2 longer.entries refl }

no_last : (gs : List (List (List ℕ))) → 0 < length gs → All (IsEntry Cube 2) gs → 0 ∷ 0 ∷ 0 ∷ 200 ∷ [] ≡ flat_map entry_bytes gs ++ [] → ⊥
no_last [] l s e = absurd (omega arith)
no_last ([] ∷ gs) l s e = absurd (omega (arith, ap (λ (b : List ℕ). slice_index b 3) e))
no_last (([] ∷ ws) ∷ gs) l s e = absurd (omega (arith, (All-head (IsTuple Cube 2) [] ws (All-head (IsEntry Cube 2) ([] ∷ ws) gs s).1).0))
no_last (((a ∷ w) ∷ ws) ∷ gs) l s e = absurd (omega (arith, ap (λ (b : List ℕ). length b) e))

fifteen_sound : All (IsEntry Cube 2) (take 15 square.entries)
unfolding is_small_entry is_tuple
fifteen_sound = entries_from Cube 2 (take 15 square.entries) refl

last_never : IsWholeTable last_count → ⊥
unfolding table_bytes
last_never w =
    let r =
    table_reads_on Cube 2 (take 15 square.entries) w.0 (0 ∷ 0 ∷ 0 ∷ 200 ∷ []) [] w.1.0 fifteen_sound (omega arith)
    (w.1.1 ∙ sym (append-nil (table_bytes w.0))) in
    let labels : length w.0.entries ≡ 16 =
    w.1.0.whole ∙ subst (λ (k : Kind). label_count k w.0.dimension ≡ 16) r.same_kind_of (subst (λ (d : ℕ). label_count Cube d ≡ 16) r.same_dimension refl) in
    no_last r.on.further (omega (arith, labels, ap (λ (l : List (List (List ℕ))). length l) r.on.is, length-append (take 15 square.entries) r.on.further))
    (All-further (take 15 square.entries) r.on.further w.0.entries r.on.is r.sound) r.on.rest

count_200 : HasTableFault last_count (short_fault 112)
unfolding table_bytes
count_200 = (refl, inr ((longer, replicate 400 0, (longer_is_table, refl)), last_never))
