-- The bytes of a table in version 2 have no fault.
use Rattle.std.specs.Prelude.{◌≡◌, ◌⊎◌, ℕ, zero, suc, ◌+◌, ◌-◌, ◌*◌, ◌%◌, ◌^◌, ◌<◌, ◌≤◌, Bool, true, false, not, ◌&&◌, ◌==◌, nat_le, nat_lt}
use Rattle.std.specs.Prelude.{List, [], ◌∷◌, ◌++◌, flat_map, length, slice_index, All, if◌then◌else◌}
use Rattle.std.specs.Int.{w32, w64}
use Rattle.std.proofs.Common.{refl, sym, ap, ◌∙◌, subst, arith, inl, inr}
use Rattle.std.proofs.Math.Nat.{eq-or-lt_of_le, mul-le-mul_left, mul-mod_right}
use Rattle.std.proofs.lemmas.Bool.{and_from}
use Rattle.std.proofs.lemmas.Bool.Decides.{nat_tests}
use Rattle.std.proofs.lemmas.List.{length-append, append-nil, drop_all}
use Rattle.std.proofs.lemmas.List.Elements.{All-head, All-tail}
use Rattle.lists.proofs.Tests.{of_lt, of_equal, equal_of}
use Rattle.iso_model.specs.declared.Kind.{Kind}
use Rattle.iso_model.specs.Cells.{HasDimension, edge_count, label_count}
use Rattle.iso_model.specs.Tables.{Table, IsTable, IsEntry}
use Rattle.iso_model.proofs.DimensionLaws.{is_small_cell, dimension_cases}
use Rattle.iso_formats.specs.TableFile.{entry_bytes, big_endian, head_bytes}
use Rattle.iso_formats.specs.TableFile2.{body_bytes, record_bytes, index_bytes, index_end, filled_count, table_bytes2, SpellsTable2, number_at}
use Rattle.iso_formats.specs.TableFile2.{stated, label_at, offset_at, body_place, count_at, Field, record_count, record_label, record_offset, body_count}
use Rattle.iso_formats.specs.TableFile2.{body_byte, IsField, place_of, width_of, is_uncut, is_right, fails, file_end, NoneFails, is_filled_count}
use Rattle.iso_formats.specs.TableFile2.{has_room_for_body, ascends_at, is_offset_right, is_count_right}
use Rattle.iso_formats.proofs.TableRows.{IsRow, length-rows, All-rows}
use Rattle.iso_formats.proofs.TablePlaces.{StandsAt, stands_later, stands_earlier, stands_inside, stands_member, number_of_4, number_of_8}
use Rattle.iso_formats.proofs.TableIndexLaws.{filled_few, length-index_bytes}

-- ---- records and bodies of entries

-- the records of the entries of the labels from one on stand from record k on, and their bodies from a place on, which is that of body k; the last of
-- them is the record before hi
pub record Stand (kind : Kind) (d : ℕ) (bytes : List ℕ) (hi : ℕ) (es : List (List (List ℕ))) (label k place : ℕ) : Type 0 where
  pub some : 2 ≤ d
  pub few : d ≤ 4
  pub labels : label + length es ≤ label_count kind d
  pub most : label_count kind d ≤ 65536
  pub sound : All (IsEntry kind d) es
  pub index : StandsAt bytes (20 + 12 * k) (index_bytes label place es)
  pub bodies : StandsAt bytes place (flat_map body_bytes es)
  pub at : body_place bytes d k ≡ place
  pub index_inside : 20 + 12 * k ≤ length bytes
  pub inside : place ≤ length bytes
  pub near : place ≤ 1048576 + label * 1073741828
  pub hi_is : k + filled_count es ≡ hi

-- what holds of a record and its body in the file of a table; its label is one of those from the least on
pub record IsRecordRight (kind : Kind) (d : ℕ) (bytes : List ℕ) (hi least j : ℕ) : Type 0 where
  pub low : least ≤ label_at bytes j
  pub high : label_at bytes j < label_count kind d
  pub ascends : suc j < hi → label_at bytes j < label_at bytes (suc j)
  pub offset : offset_at bytes j ≡ body_place bytes d j
  pub some : 1 ≤ count_at bytes d j
  pub few : count_at bytes d j ≤ 2 ^ 28
  pub record_room : 32 + 12 * j ≤ length bytes
  pub room : body_place bytes d (suc j) ≤ length bytes
  pub edges : (i : ℕ) → i < d * count_at bytes d j → slice_index bytes (body_place bytes d j + 4 + i) < edge_count kind d

right_from_later : (kind : Kind) (d : ℕ) (bytes : List ℕ) (hi least later j : ℕ) → least ≤ later → IsRecordRight kind d bytes hi later j
    → IsRecordRight kind d bytes hi least j
right_from_later kind d bytes hi least later j h r = record {
  low = omega (arith, h, r.low);
  high = r.high;
  ascends = r.ascends;
  offset = r.offset;
  some = r.some;
  few = r.few;
  record_room = r.record_room;
  room = r.room;
  edges = r.edges;
}

stand_empty : (kind : Kind) (d : ℕ) (bytes : List ℕ) (hi : ℕ) (es : List (List (List ℕ))) (label k place : ℕ)
    → Stand kind d bytes hi ([] ∷ es) label k place → Stand kind d bytes hi es (label + 1) k (place + 0)
stand_empty kind d bytes hi es label k place s =
    let same : place ≡ place + 0 = omega arith in
    record {
      some = s.some;
      few = s.few;
      labels = omega (arith, s.labels);
      most = s.most;
      sound = All-tail (IsEntry kind d) [] es s.sound;
      index = s.index;
      bodies = subst (λ p. StandsAt bytes p (flat_map body_bytes es)) same s.bodies;
      at = omega (arith, s.at);
      index_inside = s.index_inside;
      inside = omega (arith, s.inside);
      near = omega (arith, s.near);
      hi_is = s.hi_is;
    }

-- a record and its body, and those behind
record IsFirst (kind : Kind) (d : ℕ) (bytes : List ℕ) (hi : ℕ) (ws : List (List ℕ)) (es : List (List (List ℕ))) (label k place : ℕ) : Type 0 where
  label_is : label_at bytes k ≡ label
  offset_is : offset_at bytes k ≡ place
  count_is : count_at bytes d k ≡ length ws
  edges : (i : ℕ) → i < d * length ws → slice_index bytes (place + 4 + i) < edge_count kind d
  later : Stand kind d bytes hi es (label + 1) (suc k) (place + length (entry_bytes ws))

pub flat_length : (kind : Kind) (d : ℕ) (ws : List (List ℕ)) → IsEntry kind d ws → length (entry_bytes ws) ≡ 4 + d * length ws
flat_length kind d ws s = omega (arith, length-rows (edge_count kind d) d ws s.1, length-append (big_endian 4 (length ws)) (flat_map (λ (w : List ℕ). w) ws))

first : (kind : Kind) (d : ℕ) (bytes : List ℕ) (hi : ℕ) (w : List ℕ) (ws : List (List ℕ)) (es : List (List (List ℕ))) (label k place : ℕ)
    → Stand kind d bytes hi ((w ∷ ws) ∷ es) label k place → IsFirst kind d bytes hi (w ∷ ws) es label k place
first kind d bytes hi w ws es label k place s =
    let g : List (List ℕ) = w ∷ ws in
    let sound = All-head (IsEntry kind d) g es s.sound in
    let flat = flat_map (λ (w : List ℕ). w) g in
    let records = big_endian 4 label ++ big_endian 8 place in
    let more = index_bytes (label + 1) (place + length (entry_bytes g)) es in
    let here : StandsAt bytes (20 + 12 * k) records = stands_earlier bytes (20 + 12 * k) records more s.index in
    let body : StandsAt bytes place (entry_bytes g) = stands_earlier bytes place (entry_bytes g) (flat_map body_bytes es) s.bodies in
    let eight : 20 + 12 * k + 4 ≡ 24 + 12 * k = omega arith in
    let next : 20 + 12 * k + 12 ≡ 20 + 12 * suc k = omega arith in
    let long = flat_length kind d g sound in
    let bound : d * length g ≤ d * 2 ^ 28 = mul-le-mul_left d sound.0 in
    let rows = length-rows (edge_count kind d) d g sound.1 in
    let all = All-rows (edge_count kind d) d g sound.1 in
    let label_here = stands_earlier bytes (20 + 12 * k) (big_endian 4 label) (big_endian 8 place) here in
    let place_here = stands_later bytes (20 + 12 * k) (big_endian 4 label) (big_endian 8 place) here in
    let count_here = stands_earlier bytes place (big_endian 4 (length g)) flat body in
    let flat_here = stands_later bytes place (big_endian 4 (length g)) flat body in
    let rest_here = stands_later bytes (20 + 12 * k) records more s.index in
    let count : number_at w32 bytes place ≡ length g = number_of_4 bytes place (length g) (omega (arith, sound.0)) count_here in
    let count_k : count_at bytes d k ≡ length g = ap (λ n. number_at w32 bytes n) s.at ∙ count in
    record {
      label_is = number_of_4 bytes (20 + 12 * k) label (omega (arith, s.labels, s.most)) label_here;
      offset_is =
          ap (λ n. number_at w64 bytes n) (sym eight) ∙ number_of_8 bytes (20 + 12 * k + 4) place (omega (arith, s.near, s.labels, s.most)) place_here;
      count_is = count_k;
      edges = λ i h.
          subst (λ e. e < edge_count kind d) (sym (stands_member bytes (place + 4) flat i flat_here (omega (arith, h, rows))))
          (all i 0 (omega (arith, h, rows)));
      later = record {
        some = s.some;
        few = s.few;
        labels = omega (arith, s.labels);
        most = s.most;
        sound = All-tail (IsEntry kind d) g es s.sound;
        index = subst (λ n. StandsAt bytes n more) next rest_here;
        bodies = stands_later bytes place (entry_bytes g) (flat_map body_bytes es) s.bodies;
        at = omega (arith, s.at, count_k, long, ap (λ n. d * n) count_k);
        index_inside = omega (arith, stands_inside bytes (20 + 12 * k) records s.index_inside here);
        inside = stands_inside bytes place (entry_bytes g) s.inside body;
        near = omega (arith, s.near, long, bound, s.few);
        hi_is = omega (arith, s.hi_is);
      };
    }

pub records_right : (kind : Kind) (d : ℕ) (bytes : List ℕ) (hi : ℕ) (es : List (List (List ℕ))) (label k place : ℕ) → Stand kind d bytes hi es label k place
    → (j : ℕ) → k ≤ j → j < hi → IsRecordRight kind d bytes hi label j
records_right kind d bytes hi [] label k place s j from below = absurd (omega (arith, s.hi_is, from, below))
records_right kind d bytes hi ([] ∷ es) label k place s j from below =
    right_from_later kind d bytes hi label (label + 1) j (omega arith)
    (records_right kind d bytes hi es (label + 1) k (place + 0) (stand_empty kind d bytes hi es label k place s) j from below)
records_right kind d bytes hi ((w ∷ ws) ∷ es) label k place s j from below =
    let f = first kind d bytes hi w ws es label k place s in
    let sound = All-head (IsEntry kind d) (w ∷ ws) es s.sound in
    let later = records_right kind d bytes hi es (label + 1) (suc k) (place + length (entry_bytes (w ∷ ws))) f.later in
    let here : IsRecordRight kind d bytes hi label k = record {
      low = omega (arith, f.label_is);
      high = omega (arith, f.label_is, s.labels);
      ascends = λ h. omega (arith, f.label_is, (later (suc k) (omega arith) h).low);
      offset = f.offset_is ∙ sym s.at;
      some = omega (arith, f.count_is);
      few = omega (arith, f.count_is, sound.0);
      record_room = omega (arith, f.later.index_inside);
      room = omega (arith, f.later.at, f.later.inside);
      edges = λ i h.
          subst (λ p. slice_index bytes (p + 4 + i) < edge_count kind d) (sym s.at)
          (f.edges i (subst (λ n. i < d * n) f.count_is h));
    } in
    elim (eq-or-lt_of_le from) as (λ _. IsRecordRight kind d bytes hi label j) [
      | inl same ↦ subst (λ n. IsRecordRight kind d bytes hi label n) same here
      | inr more ↦ right_from_later kind d bytes hi label (label + 1) j (omega arith) (later j (omega (arith, more)) below)
    ]

-- where the last body ends
bodies_end : (kind : Kind) (d : ℕ) (bytes : List ℕ) (hi : ℕ) (es : List (List (List ℕ))) (label k place : ℕ) → Stand kind d bytes hi es label k place
    → body_place bytes d hi ≡ place + length (flat_map body_bytes es)
bodies_end kind d bytes hi [] label k place s =
    let same : k ≡ hi = omega (arith, s.hi_is) in
    subst (λ n. body_place bytes d n ≡ place + 0) same (omega (arith, s.at))
bodies_end kind d bytes hi ([] ∷ es) label k place s =
    omega (arith, bodies_end kind d bytes hi es (label + 1) k (place + 0) (stand_empty kind d bytes hi es label k place s))
bodies_end kind d bytes hi ((w ∷ ws) ∷ es) label k place s =
    omega (
      arith,
      bodies_end kind d bytes hi es (label + 1) (suc k) (place + length (entry_bytes (w ∷ ws))) (first kind d bytes hi w ws es label k place s).later,
      length-append (entry_bytes (w ∷ ws)) (flat_map body_bytes es),
    )

-- ---- the file of a table

pub record IsFileOfTable (bytes : List ℕ) (t : Table) : Type 0 where
  pub stated_is : stated bytes ≡ filled_count t.entries
  pub counted : stated bytes ≤ label_count t.kind t.dimension
  pub index_inside : 20 + 12 * stated bytes ≤ length bytes
  pub stand : Stand t.kind t.dimension bytes (stated bytes) t.entries 0 0 (index_end (stated bytes))
  pub ends : file_end bytes t.dimension ≡ length bytes

from_two : (d : ℕ) → (d ≡ 2) ⊎ ((d ≡ 3) ⊎ (d ≡ 4)) → (2 ≤ d) × (d ≤ 4)
from_two d (inl e) = (omega (arith, e), omega (arith, e))
from_two d (inr (inl e)) = (omega (arith, e), omega (arith, e))
from_two d (inr (inr e)) = (omega (arith, e), omega (arith, e))

pub file_of_table : (bytes : List ℕ) (t : Table) → SpellsTable2 bytes t → IsFileOfTable bytes t
unfolding table_bytes2
file_of_table bytes t s =
    let kind = t.kind in
    let d = t.dimension in
    let n = filled_count t.entries in
    let start = index_end n in
    let index = index_bytes 0 start t.entries in
    let bodies = flat_map body_bytes t.entries in
    let whole : StandsAt bytes 0 (table_bytes2 t) =
    s.1 ∙ sym (append-nil (table_bytes2 t)) ∙ ap (λ (l : List ℕ). table_bytes2 t ++ l)
    (sym (drop_all (0 + length (table_bytes2 t)) bytes (omega (arith, ap (λ (l : List ℕ). length l) s.1)))) in
    let small = is_small_cell kind d s.0.fits in
    let dims = from_two d (dimension_cases kind d s.0.fits) in
    let few : n ≤ label_count kind d = omega (arith, filled_few t.entries, s.0.whole) in
    let behind_head : StandsAt bytes 16 (big_endian 4 n ++ (index ++ bodies)) =
    stands_later bytes 0 (head_bytes 2 kind d) (big_endian 4 n ++ (index ++ bodies)) whole in
    let count : stated bytes ≡ n =
    number_of_4 bytes 16 n (omega (arith, few, small.labels)) (stands_earlier bytes 16 (big_endian 4 n) (index ++ bodies) behind_head) in
    let behind_count : StandsAt bytes 20 (index ++ bodies) = stands_later bytes 16 (big_endian 4 n) (index ++ bodies) behind_head in
    let long : length bytes ≡ 20 + length index + length bodies =
    omega (arith, ap (λ (l : List ℕ). length l) s.1, length-append index bodies) in
    let records = length-index_bytes 0 start t.entries in
    let far : 20 + length index ≡ start = omega (arith, records) in
    let stand : Stand kind d bytes n t.entries 0 0 start = record {
      some = dims.0;
      few = dims.1;
      labels = omega (arith, s.0.whole);
      most = small.labels;
      sound = s.0.sound;
      index = stands_earlier bytes 20 index bodies behind_count;
      bodies = subst (λ p. StandsAt bytes p bodies) far (stands_later bytes 20 index bodies behind_count);
      at = ap index_end count;
      index_inside = omega (arith, long);
      inside = omega (arith, long, far);
      near = omega (arith, few, small.labels);
      hi_is = omega arith;
    } in
    record {
      stated_is = count;
      counted = omega (arith, count, few);
      index_inside = omega (arith, count, long, records);
      stand = subst (λ m. Stand kind d bytes m t.entries 0 0 (index_end m)) (sym count) stand;
      ends =
          ap (λ m. body_place bytes d m) count ∙ bodies_end kind d bytes n t.entries 0 0 start stand
          ∙ (let e : start + length bodies ≡ length bytes = omega (arith, long, far) in e);
    }

-- ---- no field fails

pub not_failed : (a b : Bool) → a ≡ true → b ≡ true → ¬ (not (a && b) ≡ true)
not_failed true true p q e = cc
not_failed true false p q e = cc
not_failed false b p q e = cc

pub le_from : (a b : ℕ) → a ≤ b → nat_le a b ≡ true
le_from a b h = grind (arith, nat_tests)

room_for_body : (d here next count : ℕ) → 0 < d → 1 ≤ count → count ≤ 2 ^ 28 → next ≡ here + 4 + d * count → has_room_for_body d here next ≡ true
room_for_body d here next count some least most e =
    let low : d * 1 ≤ d * count = mul-le-mul_left d least in
    let high : d * count ≤ d * 2 ^ 28 = mul-le-mul_left d most in
    let gap : next - (here + 4) ≡ d * count = omega (arith, e) in
    and_from _ _ (and_from _ _ (le_from (here + 4 + d) next (omega (arith, e, low))) (le_from next (here + 4 + d * 2 ^ 28) (omega (arith, e, high))))
    (of_equal _ 0 (ap (λ n. n % d) gap ∙ mul-mod_right d count))

count_test : (a b : Bool) (last : Bool) → a ≡ true → (last ≡ false → b ≡ true) → (if last then a else b) ≡ true
count_test a b true p q = p
count_test a b false p q = q refl

not_equal : (a b : ℕ) → (a == b) ≡ false → a ≡ b → ⊥
not_equal a b e same = let yes : (a == b) ≡ true = of_equal a b same in cc

none_fails_records : (kind : Kind) (d : ℕ) (bytes : List ℕ) → 2 ≤ d → 20 ≤ length bytes → stated bytes ≤ label_count kind d
    → ((j : ℕ) → j < stated bytes → IsRecordRight kind d bytes (stated bytes) 0 j) → NoneFails kind d bytes
none_fails_records kind d bytes some long counted right record_count h =
    not_failed _ _ (le_from _ _ long) (le_from (stated bytes) (label_count kind d) counted)
none_fails_records kind d bytes some long counted right (record_label zero) h =
    let r = right 0 h in
    not_failed _ _ (le_from _ _ (omega (arith, r.record_room))) (of_lt _ _ r.high)
none_fails_records kind d bytes some long counted right (record_label (suc k)) h =
    let r = right (suc k) h in
    not_failed _ _ (le_from _ _ (omega (arith, r.record_room))) (and_from _ _ (of_lt _ _ ((right k (omega (arith, h))).ascends h)) (of_lt _ _ r.high))
none_fails_records kind d bytes some long counted right (record_offset zero) h =
    let r = right 0 h in
    not_failed _ _ (le_from _ _ (omega (arith, r.record_room))) (of_equal _ _ r.offset)
none_fails_records kind d bytes some long counted right (record_offset (suc k)) h =
    let r = right (suc k) h in
    let q = right k (omega (arith, h)) in
    not_failed _ _ (le_from _ _ (omega (arith, r.record_room)))
    (room_for_body d (offset_at bytes k) (offset_at bytes (suc k)) (count_at bytes d k) (omega (arith, some)) q.some q.few
    (omega (arith, r.offset, q.offset)))
none_fails_records kind d bytes some long counted right (body_count k) h =
    let r = right k h in
    let next : k + 1 ≡ suc k = omega arith in
    not_failed _ _ (le_from _ _ (omega (arith, r.room)))
    (count_test _ _ (k + 1 == stated bytes) (and_from _ _ (le_from 1 _ r.some) (le_from _ (2 ^ 28) r.few))
    (λ differ.
    let inside : suc k < stated bytes = omega (arith, h, not_equal (k + 1) (stated bytes) differ) in
    let q = right (suc k) inside in
    of_equal _ _ (subst (λ n. offset_at bytes k + 4 + d * count_at bytes d k ≡ offset_at bytes n) (sym next) (omega (arith, r.offset, q.offset)))))
none_fails_records kind d bytes some long counted right (body_byte k i) h =
    let r = right k h.0 in
    not_failed _ _ (le_from _ _ (omega (arith, r.room, h.1))) (of_lt _ _ (r.edges i h.1))

pub none_fails : (bytes : List ℕ) (t : Table) → SpellsTable2 bytes t → NoneFails t.kind t.dimension bytes
none_fails bytes t s =
    let f = file_of_table bytes t s in
    none_fails_records t.kind t.dimension bytes f.stand.some (omega (arith, f.index_inside)) f.counted
    (λ j h. records_right t.kind t.dimension bytes (stated bytes) t.entries 0 0 (index_end (stated bytes)) f.stand j (omega arith) h)
