-- The fields of a file of version 2 one after the other: what was judged, and the fault of the first that fails.
use Rattle.std.specs.Prelude.{◌≡◌, ◌⊎◌, ℕ, zero, suc, ◌+◌, ◌*◌, ◌^◌, ◌<◌, ◌≤◌, Bool, true, false, not, ◌&&◌, ◌==◌, nat_le, nat_lt, List, length}
use Rattle.std.specs.Prelude.{slice_index, if◌then◌else◌}
use Rattle.std.proofs.Common.{refl, sym, ap, ◌∙◌, subst, arith, inl, inr}
use Rattle.std.proofs.Math.Nat.{eq-or-lt_of_le, mul-le-mul_left}
use Rattle.std.proofs.lemmas.Bool.{cases_lt, lt-leb, and_parts, and_from}
use Rattle.std.proofs.lemmas.Bool.Decides.{nat_tests}
use Rattle.lists.proofs.Tests.{lt_of, of_lt, equal_of, of_equal}
use Rattle.iso_model.specs.declared.Kind.{Kind}
use Rattle.iso_model.specs.Cells.{edge_count, label_count}
use Rattle.iso_formats.specs.TableFile2.{FileFault, at_short, at_extra, at_index, at_count, at_edge, stated, label_at, offset_at, body_place, count_at}
use Rattle.iso_formats.specs.TableFile2.{Field, record_count, record_label, record_offset, body_count, body_byte, IsField, place_of, width_of, is_uncut}
use Rattle.iso_formats.specs.TableFile2.{is_right, fails, fault_in, fault_of, IsFirstFailed, NoneFails, NoneFailsBefore, file_end, HasBodyFault, index_end}
use Rattle.iso_formats.specs.TableFile2.{is_filled_count, is_offset_right, is_count_right, ascends_at, has_room_for_body}
use Rattle.iso_formats.proofs.TableWalkLaws.{le_from, not_failed}

-- ---- places

pub places_ascend : (bytes : List ℕ) (d k m : ℕ) → k ≤ m → body_place bytes d k ≤ body_place bytes d m
places_ascend bytes d k zero h = let e : k ≡ 0 = omega (arith, h) in subst (λ n. body_place bytes d n ≤ body_place bytes d 0) (sym e) (omega arith)
places_ascend bytes d k (suc m) h = elim (eq-or-lt_of_le h) as (λ _. body_place bytes d k ≤ body_place bytes d (suc m)) [
  | inl e ↦ subst (λ n. body_place bytes d k ≤ body_place bytes d n) e (omega arith)
  | inr l ↦ omega (arith, places_ascend bytes d k m (omega (arith, l)))
]

-- the bodies stand behind the index
pub behind_index : (bytes : List ℕ) (d k : ℕ) → index_end (stated bytes) ≤ body_place bytes d k
behind_index bytes d k = places_ascend bytes d 0 k (omega arith)

-- ---- what was judged

-- a stretch of fields that do not fail
judged : (kind : Kind) (d : ℕ) (bytes : List ℕ) (p q : ℕ) → NoneFailsBefore kind d bytes p
    → ((f : Field) → IsField bytes d f → p ≤ place_of bytes d f → place_of bytes d f < q → ¬ (fails kind d bytes f ≡ true)) → NoneFailsBefore kind d bytes q
judged kind d bytes p q before here f i h = elim (cases_lt (place_of bytes d f) p) as (λ _. ¬ (fails kind d bytes f ≡ true)) [
  | inl low ↦ before f i low
  | inr high ↦ here f i high h
]

pub before_all : (kind : Kind) (d : ℕ) (bytes : List ℕ) → NoneFailsBefore kind d bytes 16
before_all kind d bytes record_count i h = absurd (omega (arith, h))
before_all kind d bytes (record_label k) i h = absurd (omega (arith, h))
before_all kind d bytes (record_offset k) i h = absurd (omega (arith, h))
before_all kind d bytes (body_count k) i h = absurd (omega (arith, h, behind_index bytes d k))
before_all kind d bytes (body_byte k j) i h = absurd (omega (arith, h, behind_index bytes d k))

pub count_judged : (kind : Kind) (d : ℕ) (bytes : List ℕ) → ¬ (fails kind d bytes record_count ≡ true) → NoneFailsBefore kind d bytes 20
count_judged kind d bytes good = judged kind d bytes 16 20 (before_all kind d bytes) only
  where
    only : (f : Field) → IsField bytes d f → 16 ≤ place_of bytes d f → place_of bytes d f < 20 → ¬ (fails kind d bytes f ≡ true)
    only record_count i l h = good
    only (record_label k) i l h = absurd (omega (arith, h))
    only (record_offset k) i l h = absurd (omega (arith, h))
    only (body_count k) i l h = absurd (omega (arith, h, behind_index bytes d k))
    only (body_byte k j) i l h = absurd (omega (arith, h, behind_index bytes d k))

pub label_judged : (kind : Kind) (d : ℕ) (bytes : List ℕ) (n : ℕ) → n < stated bytes → NoneFailsBefore kind d bytes (20 + 12 * n)
    → ¬ (fails kind d bytes (record_label n) ≡ true) → NoneFailsBefore kind d bytes (24 + 12 * n)
label_judged kind d bytes n few before good = judged kind d bytes (20 + 12 * n) (24 + 12 * n) before only
  where
    only : (f : Field) → IsField bytes d f → 20 + 12 * n ≤ place_of bytes d f → place_of bytes d f < 24 + 12 * n → ¬ (fails kind d bytes f ≡ true)
    only record_count i l h = absurd (omega (arith, l))
    only (record_label k) i l h = let e : n ≡ k = omega (arith, l, h) in subst (λ m. ¬ (fails kind d bytes (record_label m) ≡ true)) e good
    only (record_offset k) i l h = absurd (omega (arith, l, h))
    only (body_count k) i l h = absurd (omega (arith, h, few, behind_index bytes d k))
    only (body_byte k j) i l h = absurd (omega (arith, h, few, behind_index bytes d k))

pub offset_judged : (kind : Kind) (d : ℕ) (bytes : List ℕ) (n : ℕ) → n < stated bytes → NoneFailsBefore kind d bytes (24 + 12 * n)
    → ¬ (fails kind d bytes (record_offset n) ≡ true) → NoneFailsBefore kind d bytes (20 + 12 * (n + 1))
offset_judged kind d bytes n few before good = judged kind d bytes (24 + 12 * n) (20 + 12 * (n + 1)) before only
  where
    only : (f : Field) → IsField bytes d f → 24 + 12 * n ≤ place_of bytes d f → place_of bytes d f < 20 + 12 * (n + 1) → ¬ (fails kind d bytes f ≡ true)
    only record_count i l h = absurd (omega (arith, l))
    only (record_label k) i l h = absurd (omega (arith, l, h))
    only (record_offset k) i l h = let e : n ≡ k = omega (arith, l, h) in subst (λ m. ¬ (fails kind d bytes (record_offset m) ≡ true)) e good
    only (body_count k) i l h = absurd (omega (arith, h, few, behind_index bytes d k))
    only (body_byte k j) i l h = absurd (omega (arith, h, few, behind_index bytes d k))

-- the bodies before and behind one
earlier_body : (bytes : List ℕ) (d k n : ℕ) → k < n → body_place bytes d k + 4 + d * count_at bytes d k ≤ body_place bytes d n
earlier_body bytes d k n h = places_ascend bytes d (suc k) n (omega (arith, h))

-- the count of a body and so many bytes of its tuples
pub body_judged : (kind : Kind) (d : ℕ) (bytes : List ℕ) (n far : ℕ) → far ≤ d * count_at bytes d n
    → NoneFailsBefore kind d bytes (body_place bytes d n) → ¬ (fails kind d bytes (body_count n) ≡ true)
    → ((j : ℕ) → j < far → ¬ (fails kind d bytes (body_byte n j) ≡ true)) → NoneFailsBefore kind d bytes (body_place bytes d n + 4 + far)
body_judged kind d bytes n far few before good bytes_good =
    judged kind d bytes (body_place bytes d n) (body_place bytes d n + 4 + far) before only
  where
    same_body : (k : ℕ) → body_place bytes d n ≤ body_place bytes d k → body_place bytes d k < body_place bytes d n + 4 + far → n ≡ k
    same_body k l h = elim (cases_lt k n) as (λ _. n ≡ k) [
      | inl low ↦ absurd (omega (arith, l, earlier_body bytes d k n low))
      | inr high ↦ elim (cases_lt n k) as (λ _. n ≡ k) [
        | inl more ↦ absurd (omega (arith, h, few, earlier_body bytes d n k more))
        | inr same ↦ omega (arith, high, same)
      ]
    ]

    in_body : (k j : ℕ) → j < d * count_at bytes d k → body_place bytes d n ≤ body_place bytes d k + 4 + j
        → body_place bytes d k + 4 + j < body_place bytes d n + 4 + far → n ≡ k
    in_body k j i l h = elim (cases_lt k n) as (λ _. n ≡ k) [
      | inl low ↦ absurd (omega (arith, l, i, earlier_body bytes d k n low))
      | inr high ↦ elim (cases_lt n k) as (λ _. n ≡ k) [
        | inl more ↦ absurd (omega (arith, h, few, earlier_body bytes d n k more))
        | inr same ↦ omega (arith, high, same)
      ]
    ]

    only : (f : Field) → IsField bytes d f → body_place bytes d n ≤ place_of bytes d f → place_of bytes d f < body_place bytes d n + 4 + far
        → ¬ (fails kind d bytes f ≡ true)
    only record_count i l h = absurd (omega (arith, l, behind_index bytes d n))
    only (record_label k) i l h = absurd (omega (arith, l, i, behind_index bytes d n))
    only (record_offset k) i l h = absurd (omega (arith, l, i, behind_index bytes d n))
    only (body_count k) i l h = subst (λ m. ¬ (fails kind d bytes (body_count m) ≡ true)) (same_body k l h) good
    only (body_byte k j) i l h =
        let e : n ≡ k = in_body k j i.1 l h in
        let low : j < far = omega (arith, h, ap (λ m. body_place bytes d m) e) in
        subst (λ m. ¬ (fails kind d bytes (body_byte m j) ≡ true)) e (bytes_good j low)

-- before the end of the file stand all fields
pub all_judged : (kind : Kind) (d : ℕ) (bytes : List ℕ) → NoneFailsBefore kind d bytes (file_end bytes d) → NoneFails kind d bytes
all_judged kind d bytes before record_count i = before record_count i (omega (arith, behind_index bytes d (stated bytes)))
all_judged kind d bytes before (record_label k) i = before (record_label k) i (omega (arith, i, behind_index bytes d (stated bytes)))
all_judged kind d bytes before (record_offset k) i = before (record_offset k) i (omega (arith, i, behind_index bytes d (stated bytes)))
all_judged kind d bytes before (body_count k) i = before (body_count k) i (omega (arith, earlier_body bytes d k (stated bytes) i))
all_judged kind d bytes before (body_byte k j) i = before (body_byte k j) i (omega (arith, i.1, earlier_body bytes d k (stated bytes) i.0))

-- ---- the fault

le_of : (a b : ℕ) → nat_le a b ≡ true → a ≤ b
le_of a b e = grind (arith, nat_tests)

failed_cut : (a b : Bool) → a ≡ false → not (a && b) ≡ true
failed_cut true b e = cc
failed_cut false b e = refl

failed_wrong : (a b : Bool) → b ≡ false → not (a && b) ≡ true
failed_wrong true true e = cc
failed_wrong true false e = refl
failed_wrong false b e = refl

if_false : (b : Bool) (x y : FileFault) → b ≡ false → y ≡ (if b then x else y)
if_false true x y e = absurd (cc)
if_false false x y e = refl

if_true : (b : Bool) (x y : FileFault) → b ≡ true → x ≡ (if b then x else y)
if_true true x y e = refl
if_true false x y e = absurd (cc)

-- the end cuts the field off
pub cut_fault : (kind : Kind) (d : ℕ) (bytes : List ℕ) (f : Field) → IsField bytes d f → NoneFailsBefore kind d bytes (place_of bytes d f)
    → length bytes < place_of bytes d f + width_of f → HasBodyFault kind d bytes (at_short (length bytes))
cut_fault kind d bytes f i before short =
    let cut : is_uncut bytes d f ≡ false = lt-leb _ _ short in
    inl (
      f,
      record { is_field = i; failed = failed_cut (is_uncut bytes d f) (is_right kind d bytes f) cut; first = before },
      if_false (is_uncut bytes d f) (fault_in f (place_of bytes d f)) (at_short (length bytes)) cut,
    )

-- its number is wrong
pub wrong_fault : (kind : Kind) (d : ℕ) (bytes : List ℕ) (f : Field) → IsField bytes d f → NoneFailsBefore kind d bytes (place_of bytes d f)
    → place_of bytes d f + width_of f ≤ length bytes → is_right kind d bytes f ≡ false → HasBodyFault kind d bytes (fault_in f (place_of bytes d f))
wrong_fault kind d bytes f i before whole wrong =
    let uncut : is_uncut bytes d f ≡ true = le_from _ _ whole in
    inl (
      f,
      record { is_field = i; failed = failed_wrong (is_uncut bytes d f) (is_right kind d bytes f) wrong; first = before },
      if_true (is_uncut bytes d f) (fault_in f (place_of bytes d f)) (at_short (length bytes)) uncut,
    )

pub extra_fault_behind : (kind : Kind) (d : ℕ) (bytes : List ℕ) → NoneFailsBefore kind d bytes (file_end bytes d) → file_end bytes d < length bytes
    → HasBodyFault kind d bytes (at_extra (file_end bytes d))
extra_fault_behind kind d bytes before more = inr (all_judged kind d bytes before, more, refl)

-- a field that does not fail is whole and right
right_parts : (a b : Bool) → ¬ (not (a && b) ≡ true) → (a ≡ true) × (b ≡ true)
right_parts true true n = (refl, refl)
right_parts true false n = absurd (n refl)
right_parts false b n = absurd (n refl)

pub field_right : (kind : Kind) (d : ℕ) (bytes : List ℕ) (f : Field) → ¬ (fails kind d bytes f ≡ true) → is_right kind d bytes f ≡ true
field_right kind d bytes f good = (right_parts (is_uncut bytes d f) (is_right kind d bytes f) good).1

pub field_good : (kind : Kind) (d : ℕ) (bytes : List ℕ) (f : Field) → place_of bytes d f + width_of f ≤ length bytes → is_right kind d bytes f ≡ true
    → ¬ (fails kind d bytes f ≡ true)
field_good kind d bytes f whole right = not_failed (is_uncut bytes d f) (is_right kind d bytes f) (le_from _ _ whole) right

-- ---- what right fields say

pub label_high : (kind : Kind) (d : ℕ) (bytes : List ℕ) (k : ℕ) → ¬ (fails kind d bytes (record_label k) ≡ true) → label_at bytes k < label_count kind d
label_high kind d bytes k good =
    lt_of _ _ (and_parts (ascends_at bytes k) (nat_lt (label_at bytes k) (label_count kind d)) (field_right kind d bytes (record_label k) good)).1

pub label_ascends : (kind : Kind) (d : ℕ) (bytes : List ℕ) (k : ℕ) → ¬ (fails kind d bytes (record_label (suc k)) ≡ true)
    → label_at bytes k < label_at bytes (suc k)
label_ascends kind d bytes k good =
    lt_of _ _ (and_parts (ascends_at bytes (suc k)) (nat_lt (label_at bytes (suc k)) (label_count kind d))
    (field_right kind d bytes (record_label (suc k)) good)).0

pub first_offset : (kind : Kind) (d : ℕ) (bytes : List ℕ) → ¬ (fails kind d bytes (record_offset 0) ≡ true) → offset_at bytes 0 ≡ index_end (stated bytes)
first_offset kind d bytes good = equal_of _ _ (field_right kind d bytes (record_offset 0) good)

-- between two right offsets stand 1 to 2^28 tuples
pub record HasRoom (d here next : ℕ) : Type 0 where
  pub least : here + 4 + d ≤ next
  pub most : next ≤ here + 4 + d * 2 ^ 28

pub offset_room : (kind : Kind) (d : ℕ) (bytes : List ℕ) (k : ℕ) → ¬ (fails kind d bytes (record_offset (suc k)) ≡ true)
    → HasRoom d (offset_at bytes k) (offset_at bytes (suc k))
offset_room kind d bytes k good =
    let here = offset_at bytes k in
    let next = offset_at bytes (suc k) in
    let both = and_parts (nat_le (here + 4 + d) next && nat_le next (here + 4 + d * 2 ^ 28)) _ (field_right kind d bytes (record_offset (suc k)) good) in
    let parts = and_parts (nat_le (here + 4 + d) next) (nat_le next (here + 4 + d * 2 ^ 28)) both.0 in
    record { least = le_of _ _ parts.0; most = le_of _ _ parts.1 }

-- a count between them
pub count_between : (d here next count : ℕ) → 0 < d → HasRoom d here next → next ≡ here + 4 + d * count → (1 ≤ count) × (count ≤ 2 ^ 28)
count_between d here next count some room e = (
  elim (cases_lt count 1) as (λ _. 1 ≤ count) [
    | inl none ↦ let z : count ≡ 0 = omega (arith, none) in absurd (omega (arith, some, e, room.least, ap (λ n. d * n) z))
    | inr h ↦ h
  ],
  elim (cases_lt (2 ^ 28) count) as (λ _. count ≤ 2 ^ 28) [
    | inl many ↦
        let more : d * (2 ^ 28 + 1) ≤ d * count = mul-le-mul_left d (let h : 2 ^ 28 + 1 ≤ count = omega (arith, many) in h) in
        absurd (omega (arith, some, e, room.most, more))
    | inr h ↦ h
  ],
)
