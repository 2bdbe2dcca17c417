-- The fault that is computed behind a head of version 2 is that of the first field that fails.
use Rattle.std.specs.Prelude.{◌≡◌, ◌⊎◌, ◌<◌, ◌≤◌, ◌+◌, ◌*◌, ℕ, zero, suc, Bool, true, false, not, cond, nat_le, nat_lt, ◌&&◌, min, List, [], ◌∷◌, ◌++◌}
use Rattle.std.specs.Prelude.{map, flat_map, length, find, Option, Some, None, if◌then◌else◌}
use Rattle.std.specs.List.{range_with_len}
use Rattle.std.proofs.Math.Nat.{eq-or-lt_of_le}
use Rattle.std.proofs.Common.{refl, ap, arith, subst, sym, ◌∙◌, inl, inr}
use Rattle.std.proofs.lemmas.Bool.{lt-leb}
use Rattle.std.proofs.lemmas.Bool.Decides.{nat_tests}
use Rattle.lists.proofs.Tests.{lt_of, of_lt}
use Rattle.iso_model.specs.declared.Kind.{Kind}
use Rattle.lists.specs.Orders.{numbers}
use Rattle.iso_model.specs.Cells.{label_count}
use Rattle.iso_formats.specs.TableFile2.{Field, FileFault, record_count, record_label, record_offset, body_count, body_byte, IsField, place_of, is_uncut}
use Rattle.iso_formats.specs.TableFile2.{is_right, fails, stated, body_place, count_at, file_end, IsFirstFailed, NoneFails, HasBodyFault, fault_of, at_extra}

-- ---- the fault computed

-- the fields of record k, and those of body k as far as the bytes go: a body that is longer than all bytes fails within so many of its bytes
abbrev pub fields_of_record : ℕ → List Field
fields_of_record k = record_label k ∷ record_offset k ∷ []

abbrev pub fields_of_body : List ℕ → ℕ → ℕ → List Field
fields_of_body bytes d k = body_count k ∷ map (body_byte k) (numbers (min (d * count_at bytes d k) (length bytes)))

-- the fields in file order, of at most so many records as there are labels: with more the first field fails
abbrev pub fields : Kind → ℕ → List ℕ → List Field
fields kind d bytes =
    let n = min (stated bytes) (label_count kind d) in
    record_count ∷ flat_map fields_of_record (numbers n) ++ flat_map (fields_of_body bytes d) (numbers n)

-- the fault behind a right head of version 2, where there is one
abbrev pub fault_where : Kind → ℕ → List ℕ → Option Field → Option FileFault
fault_where kind d bytes (Some f) = Some (fault_of bytes d f)
fault_where kind d bytes None = if nat_lt (file_end bytes d) (length bytes) then Some (at_extra (file_end bytes d)) else None

abbrev pub body_fault : Kind → ℕ → List ℕ → Option FileFault
body_fault kind d bytes = fault_where kind d bytes (find (fails kind d bytes) (fields kind d bytes))

-- ---- lists of fields whose places ascend

-- the places of the fields ascend, from lo on, and end below hi
Runs : List ℕ → ℕ → ℕ → List Field → ℕ → Type 0
Runs bytes d lo [] hi = lo ≤ hi
Runs bytes d lo (f ∷ fs) hi = (lo ≤ place_of bytes d f) × Runs bytes d (place_of bytes d f + 1) fs hi

runs_lower : (bytes : List ℕ) (d lo up : ℕ) (fs : List Field) (hi : ℕ) → lo ≤ up → Runs bytes d up fs hi → Runs bytes d lo fs hi
unfolding Runs
runs_lower bytes d lo up [] hi h r = omega (arith, h, r)
runs_lower bytes d lo up (f ∷ fs) hi h r = (let x = r.0 in omega (arith, h, x), r.1)

runs_append : (bytes : List ℕ) (d lo mid hi : ℕ) (xs ys : List Field) → Runs bytes d lo xs mid → Runs bytes d mid ys hi → Runs bytes d lo (xs ++ ys) hi
unfolding Runs
runs_append bytes d lo mid hi [] ys r s = runs_lower bytes d lo mid ys hi r s
runs_append bytes d lo mid hi (x ∷ xs) ys r s = (r.0, runs_append bytes d (place_of bytes d x + 1) mid hi xs ys r.1 s)

records_run : (bytes : List ℕ) (d a n : ℕ) → Runs bytes d (20 + 12 * a) (flat_map fields_of_record (range_with_len a n)) (20 + 12 * (a + n))
unfolding Runs
records_run bytes d a zero = omega arith
records_run bytes d a (suc n) =
    let e : a + 1 + n ≡ a + suc n = omega arith in (
      omega arith,
      (
        omega arith,
        runs_lower bytes d (24 + 12 * a + 1) (20 + 12 * (a + 1)) (flat_map fields_of_record (range_with_len (a + 1) n)) (20 + 12 * (a + suc n)) (omega arith)
            (subst (λ (k : ℕ). Runs bytes d (20 + 12 * (a + 1)) (flat_map fields_of_record (range_with_len (a + 1) n)) (20 + 12 * k)) e
            (records_run bytes d (a + 1) n)),
      ),
    )

bytes_run : (bytes : List ℕ) (d k x m : ℕ)
    → Runs bytes d (body_place bytes d k + 4 + x) (map (body_byte k) (range_with_len x m)) (body_place bytes d k + 4 + x + m)
unfolding Runs
bytes_run bytes d k x zero = omega arith
bytes_run bytes d k x (suc m) =
    let e : body_place bytes d k + 4 + (x + 1) + m ≡ body_place bytes d k + 4 + x + suc m = omega arith in (
      omega arith,
      runs_lower bytes d (body_place bytes d k + 4 + x + 1) (body_place bytes d k + 4 + (x + 1)) (map (body_byte k) (range_with_len (x + 1) m))
          (body_place bytes d k + 4 + x + suc m) (omega arith)
          (subst (λ (h : ℕ). Runs bytes d (body_place bytes d k + 4 + (x + 1)) (map (body_byte k) (range_with_len (x + 1) m)) h) e
          (bytes_run bytes d k (x + 1) m)),
    )

runs_higher : (bytes : List ℕ) (d lo : ℕ) (fs : List Field) (hi up : ℕ) → hi ≤ up → Runs bytes d lo fs hi → Runs bytes d lo fs up
unfolding Runs
runs_higher bytes d lo [] hi up h r = omega (arith, h, r)
runs_higher bytes d lo (f ∷ fs) hi up h r = (r.0, runs_higher bytes d (place_of bytes d f + 1) fs hi up h r.1)

body_runs : (bytes : List ℕ) (d k : ℕ) → Runs bytes d (body_place bytes d k) (fields_of_body bytes d k) (body_place bytes d (suc k))
unfolding Runs
body_runs bytes d k =
    let m = min (d * count_at bytes d k) (length bytes) in (
      omega arith,
      runs_lower bytes d (body_place bytes d k + 1) (body_place bytes d k + 4 + 0) (map (body_byte k) (numbers m)) (body_place bytes d (suc k)) (omega arith)
          (runs_higher bytes d (body_place bytes d k + 4 + 0) (map (body_byte k) (numbers m)) (body_place bytes d k + 4 + 0 + m) (body_place bytes d (suc k))
          (omega arith) (bytes_run bytes d k 0 m)),
    )

bodies_run : (bytes : List ℕ) (d a n : ℕ)
    → Runs bytes d (body_place bytes d a) (flat_map (fields_of_body bytes d) (range_with_len a n)) (body_place bytes d (a + n))
unfolding Runs
bodies_run bytes d a zero = let e : a + 0 ≡ a = omega arith in rw e (omega arith)
bodies_run bytes d a (suc n) =
    let e : a + 1 + n ≡ a + suc n = omega arith in
    let s : a + 1 ≡ suc a = omega arith in
    runs_append bytes d (body_place bytes d a) (body_place bytes d (suc a)) (body_place bytes d (a + suc n)) (fields_of_body bytes d a)
    (flat_map (fields_of_body bytes d) (range_with_len (a + 1) n)) (body_runs bytes d a)
    (subst (λ (k : ℕ). Runs bytes d (body_place bytes d k) (flat_map (fields_of_body bytes d) (range_with_len (a + 1) n)) (body_place bytes d (a + suc n))) s
    (subst (λ (k : ℕ). Runs bytes d (body_place bytes d (a + 1)) (flat_map (fields_of_body bytes d) (range_with_len (a + 1) n)) (body_place bytes d k)) e
    (bodies_run bytes d (a + 1) n)))

-- ---- members

Among : Field → List Field → Type 0
Among g [] = ⊥
Among g (f ∷ fs) = (g ≡ f) ⊎ Among g fs

among_left : (g : Field) (xs ys : List Field) → Among g xs → Among g (xs ++ ys)
unfolding Among
among_left g [] ys h = absurd h
among_left g (x ∷ xs) ys (inl e) = inl e
among_left g (x ∷ xs) ys (inr h) = inr (among_left g xs ys h)

among_right : (g : Field) (xs ys : List Field) → Among g ys → Among g (xs ++ ys)
unfolding Among
among_right g [] ys h = h
among_right g (x ∷ xs) ys h = inr (among_right g xs ys h)

among_parts : (part : ℕ → List Field) (g : Field) (k : ℕ) → Among g (part k) → (a n : ℕ) → a ≤ k → k < a + n → Among g (flat_map part (range_with_len a n))
among_parts part g k h a zero l m = absurd (omega (arith, l, m))
among_parts part g k h a (suc n) l m =
    elim (eq-or-lt_of_le l) as (λ _. Among g (part a ++ flat_map part (range_with_len (a + 1) n))) [
      | inl e ↦ among_left g (part a) (flat_map part (range_with_len (a + 1) n)) (subst (λ (i : ℕ). Among g (part i)) (sym e) h)
      | inr o ↦ among_right g (part a) (flat_map part (range_with_len (a + 1) n)) (among_parts part g k h (a + 1) n (omega (arith, o)) (omega (arith, m)))
    ]

among_bytes : (k j a n : ℕ) → a ≤ j → j < a + n → Among (body_byte k j) (map (body_byte k) (range_with_len a n))
unfolding Among
among_bytes k j a zero l m = absurd (omega (arith, l, m))
among_bytes k j a (suc n) l m =
    elim (eq-or-lt_of_le l) as (λ _. (body_byte k j ≡ body_byte k a) ⊎ Among (body_byte k j) (map (body_byte k) (range_with_len (a + 1) n))) [
      | inl e ↦ inl (ap (body_byte k) (sym e))
      | inr o ↦ inr (among_bytes k j (a + 1) n (omega (arith, o)) (omega (arith, m)))
    ]

-- ---- the first that fails

later_above : (bytes : List ℕ) (d lo : ℕ) (fs : List Field) (hi : ℕ) (g : Field) → Runs bytes d lo fs hi → Among g fs → lo ≤ place_of bytes d g
unfolding Runs Among
later_above bytes d lo [] hi g r h = absurd h
later_above bytes d lo (f ∷ fs) hi g r (inl e) = subst (λ (x : Field). lo ≤ place_of bytes d x) (sym e) r.0
later_above bytes d lo (f ∷ fs) hi g r (inr h) = let x = r.0 in let y = later_above bytes d (place_of bytes d f + 1) fs hi g r.1 h in omega (arith, x, y)

-- a found field fails, is one of the list, and no member in front of it fails
record IsFound (kind : Kind) (d : ℕ) (bytes : List ℕ) (fs : List Field) (f : Field) : Type 0 where
  failed : fails kind d bytes f ≡ true
  among : Among f fs
  first : (g : Field) → Among g fs → fails kind d bytes g ≡ true → place_of bytes d f ≤ place_of bytes d g

found : (kind : Kind) (d : ℕ) (bytes : List ℕ) (lo : ℕ) (fs : List Field) (hi : ℕ) (f : Field) → Runs bytes d lo fs hi → find (fails kind d bytes) fs ≡ Some f
    → IsFound kind d bytes fs f
unfolding Runs Among
found kind d bytes lo [] hi f r e = absurd (cc)
found kind d bytes lo (x ∷ fs) hi f r e = go (fails kind d bytes x) refl (found kind d bytes (place_of bytes d x + 1) fs hi f r.1) e
  where
    go : (b : Bool) → fails kind d bytes x ≡ b → (find (fails kind d bytes) fs ≡ Some f → IsFound kind d bytes fs f)
        → cond b (Some x) (find (fails kind d bytes) fs) ≡ Some f → IsFound kind d bytes (x ∷ fs) f
    go true t later e =
        let s : x ≡ f = cc in
        record {
          failed = subst (λ (y : Field). fails kind d bytes y ≡ true) s t;
          among = inl (sym s);
          first = λ g h u. elim h as (λ _. place_of bytes d f ≤ place_of bytes d g) [
            | inl i ↦ subst (λ (y : Field). place_of bytes d f ≤ place_of bytes d y) (sym (i ∙ s)) (omega arith)
            | inr i ↦ let y = later_above bytes d (place_of bytes d x + 1) fs hi g r.1 i in subst (λ (z : Field). place_of bytes d z ≤ place_of bytes d g) s
                (omega (arith, y))
          ];
        }
    go false t later e =
        let l = later e in
        record {
          failed = l.failed;
          among = inr l.among;
          first = λ g h u. elim h as (λ _. place_of bytes d f ≤ place_of bytes d g) [
            | inl i ↦ absurd (let v = subst (λ (y : Field). fails kind d bytes y ≡ true) i u in cc)
            | inr i ↦ l.first g i u
          ];
        }

none_found : (kind : Kind) (d : ℕ) (bytes : List ℕ) (fs : List Field) → find (fails kind d bytes) fs ≡ None → (g : Field) → Among g fs
    → fails kind d bytes g ≡ false
unfolding Among
none_found kind d bytes [] e g h = absurd h
none_found kind d bytes (x ∷ fs) e g h = go (fails kind d bytes x) refl (none_found kind d bytes fs) e h
  where
    go : (b : Bool) → fails kind d bytes x ≡ b → (find (fails kind d bytes) fs ≡ None → (g : Field) → Among g fs → fails kind d bytes g ≡ false)
        → cond b (Some x) (find (fails kind d bytes) fs) ≡ None
        → (g ≡ x) ⊎ Among g fs → fails kind d bytes g ≡ false
    go true t later e h = absurd (cc)
    go false t later e (inl i) = subst (λ (y : Field). fails kind d bytes y ≡ false) (sym i) t
    go false t later e (inr i) = later e g i

-- ---- the fields of a file

record_part : Kind → ℕ → List ℕ → List Field
record_part kind d bytes = flat_map fields_of_record (numbers (min (stated bytes) (label_count kind d)))

body_part : Kind → ℕ → List ℕ → List Field
body_part kind d bytes = flat_map (fields_of_body bytes d) (numbers (min (stated bytes) (label_count kind d)))

fields_run : (kind : Kind) (d : ℕ) (bytes : List ℕ) → Runs bytes d 16 (fields kind d bytes) (body_place bytes d (0 + min (stated bytes) (label_count kind d)))
unfolding Runs record_part body_part
fields_run kind d bytes =
    let n = min (stated bytes) (label_count kind d) in
    let hi = body_place bytes d (0 + n) in (
      omega arith,
      runs_lower bytes d 17 (20 + 12 * 0) (record_part kind d bytes ++ body_part kind d bytes) hi (omega arith)
          (runs_append bytes d (20 + 12 * 0) (20 + 12 * (0 + n)) hi (record_part kind d bytes) (body_part kind d bytes) (records_run bytes d 0 n)
          (runs_lower bytes d (20 + 12 * (0 + n)) (body_place bytes d 0) (body_part kind d bytes) hi (omega arith) (bodies_run bytes d 0 n))),
    )

cut_fails : (kind : Kind) (d : ℕ) (bytes : List ℕ) (f : Field) → is_uncut bytes d f ≡ false → fails kind d bytes f ≡ true
cut_fails kind d bytes f e = rw e refl

wrong_fails : (kind : Kind) (d : ℕ) (bytes : List ℕ) (f : Field) → is_right kind d bytes f ≡ false → fails kind d bytes f ≡ true
wrong_fails kind d bytes f e = go (is_uncut bytes d f) (is_right kind d bytes f) e
  where
    go : (a b : Bool) → b ≡ false → not (a && b) ≡ true
    go true true e = absurd (cc)
    go true false e = refl
    go false b e = refl

place_high : (bytes : List ℕ) (d k : ℕ) → 20 ≤ body_place bytes d k
place_high bytes d zero = omega arith
place_high bytes d (suc k) = let h = place_high bytes d k in omega (arith, h)

-- a field of the list that fails and does not stand behind g; it stands before g where g is not in the list
record IsCovered (kind : Kind) (d : ℕ) (bytes : List ℕ) (g : Field) : Type 0 where
  field : Field
  among : Among field (fields kind d bytes)
  failed : fails kind d bytes field ≡ true
  before : place_of bytes d field ≤ place_of bytes d g
  listed : Among g (fields kind d bytes) ⊎ (place_of bytes d field < place_of bytes d g)

itself : (kind : Kind) (d : ℕ) (bytes : List ℕ) (g : Field) → Among g (fields kind d bytes) → fails kind d bytes g ≡ true → IsCovered kind d bytes g
itself kind d bytes g h e = record { field = g; among = h; failed = e; before = omega arith; listed = inl h }

-- with more records than labels the first field fails
by_first : (kind : Kind) (d : ℕ) (bytes : List ℕ) (g : Field) → label_count kind d < stated bytes → 16 < place_of bytes d g → IsCovered kind d bytes g
unfolding Among
by_first kind d bytes g h p = record {
  field = record_count;
  among = inl refl;
  failed = wrong_fails kind d bytes record_count
      (lt-leb (stated bytes) (label_count kind d) h);
  before = omega (arith, p);
  listed = inr p;
}

-- record k is one of those listed, or there are more records than labels
listed_or_more : (kind : Kind) (d : ℕ) (bytes : List ℕ) (k : ℕ) → k < stated bytes
    → (k < 0 + min (stated bytes) (label_count kind d)) ⊎ (label_count kind d < stated bytes)
listed_or_more kind d bytes k h = go (nat_lt k (min (stated bytes) (label_count kind d))) refl
  where
    go : (b : Bool) → nat_lt k (min (stated bytes) (label_count kind d)) ≡ b
        → (k < 0 + min (stated bytes) (label_count kind d)) ⊎ (label_count kind d < stated bytes)
    go true e = let l = lt_of k (min (stated bytes) (label_count kind d)) e in inl (omega (arith, l))
    go false e = let l : ¬ (k < min (stated bytes) (label_count kind d)) = λ x. let y = of_lt k (min (stated bytes) (label_count kind d)) x in cc in inr
        (omega (arith, h, l))

among_records : (kind : Kind) (d : ℕ) (bytes : List ℕ) (g : Field) (k : ℕ) → Among g (fields_of_record k) → k < 0 + min (stated bytes) (label_count kind d)
    → Among g (fields kind d bytes)
unfolding Among record_part body_part
among_records kind d bytes g k h l = inr
    (among_left g (record_part kind d bytes) (body_part kind d bytes)
    (among_parts fields_of_record g k h 0 (min (stated bytes) (label_count kind d)) (omega arith) l))

among_bodies : (kind : Kind) (d : ℕ) (bytes : List ℕ) (g : Field) (k : ℕ) → Among g (fields_of_body bytes d k)
    → k < 0 + min (stated bytes) (label_count kind d) → Among g (fields kind d bytes)
unfolding Among record_part body_part
among_bodies kind d bytes g k h l = inr
    (among_right g (record_part kind d bytes) (body_part kind d bytes)
    (among_parts (fields_of_body bytes d) g k h 0 (min (stated bytes) (label_count kind d)) (omega arith) l))

-- a byte of a body that is listed
byte_covered : (kind : Kind) (d : ℕ) (bytes : List ℕ) (k j : ℕ) → k < 0 + min (stated bytes) (label_count kind d) → j < d * count_at bytes d k
    → fails kind d bytes (body_byte k j) ≡ true
    → (size : ℕ) → length bytes ≡ size → IsCovered kind d bytes (body_byte k j)
unfolding Among
byte_covered kind d bytes k j l h e zero z =
    let p = place_high bytes d k in
    record {
      field = record_count;
      among = inl refl;
      failed = cut_fails kind d bytes record_count (lt-leb 20 (length bytes) (omega (arith, z)));
      before = omega
          (arith, p);
      listed = inr (omega (arith, p));
    }
byte_covered kind d bytes k j l h e (suc size) z = go (nat_lt j (length bytes)) refl
  where
    go : (b : Bool) → nat_lt j (length bytes) ≡ b → IsCovered kind d bytes (body_byte k j)
    go true t =
        let x = lt_of j (length bytes) t in
        itself kind d bytes (body_byte k j)
        (among_bodies kind d bytes (body_byte k j) k
        (inr (among_bytes k j 0 (min (d * count_at bytes d k) (length bytes)) (omega arith) (omega (arith, x, h)))) l) e
    go false t =
        let n : ¬ (j < length bytes) = λ x. let y = of_lt j (length bytes) x in cc in
        let p = place_high bytes d k in
        record {
          field = body_byte k size;
          among = among_bodies kind d bytes (body_byte k size) k
              (inr (among_bytes k size 0 (min (d * count_at bytes d k) (length bytes)) (omega arith) (omega (arith, n, z, h)))) l;
          failed = cut_fails kind d bytes (body_byte k size) (lt-leb (body_place bytes d k + 4 + size + 1) (length bytes) (omega (arith, z, p)));
          before = omega (arith, n, z);
          listed = inr (omega (arith, n, z));
        }

covered : (kind : Kind) (d : ℕ) (bytes : List ℕ) (g : Field) → IsField bytes d g → fails kind d bytes g ≡ true → IsCovered kind d bytes g
unfolding Among
covered kind d bytes record_count h e = itself kind d bytes record_count (inl refl) e
covered kind d bytes (record_label k) h e = elim (listed_or_more kind d bytes k h) as (λ _. IsCovered kind d bytes (record_label k)) [
  | inl l ↦ itself kind d bytes (record_label k) (among_records kind d bytes (record_label k) k (inl refl) l) e
  | inr m ↦ by_first kind d bytes (record_label k) m (omega arith)
]
covered kind d bytes (record_offset k) h e = elim (listed_or_more kind d bytes k h) as (λ _. IsCovered kind d bytes (record_offset k)) [
  | inl l ↦ itself kind d bytes (record_offset k) (among_records kind d bytes (record_offset k) k (inr (inl refl)) l) e
  | inr m ↦ by_first kind d bytes (record_offset k) m (omega arith)
]
covered kind d bytes (body_count k) h e = elim (listed_or_more kind d bytes k h) as (λ _. IsCovered kind d bytes (body_count k)) [
  | inl l ↦ itself kind d bytes (body_count k) (among_bodies kind d bytes (body_count k) k (inl refl) l) e
  | inr m ↦ by_first kind d bytes (body_count k) m (let p = place_high bytes d k in omega (arith, p))
]
covered kind d bytes (body_byte k j) h e = elim (listed_or_more kind d bytes k h.0) as (λ _. IsCovered kind d bytes (body_byte k j)) [
  | inl l ↦ byte_covered kind d bytes k j l h.1 e (length bytes) refl
  | inr m ↦ by_first kind d bytes (body_byte k j) m (let p = place_high bytes d k in omega (arith, p))
]

-- ---- each listed field is one of the file

among_append : (g : Field) (xs ys : List Field) → Among g (xs ++ ys) → Among g xs ⊎ Among g ys
unfolding Among
among_append g [] ys h = inr h
among_append g (x ∷ xs) ys (inl e) = inl (inl e)
among_append g (x ∷ xs) ys (inr h) = elim (among_append g xs ys h) as (λ _. ((g ≡ x) ⊎ Among g xs) ⊎ Among g ys) [ inl i ↦ inl (inr i) | inr j ↦ inr j ]

record StandsIn (part : ℕ → List Field) (g : Field) (high : ℕ) : Type 0 where
  k : ℕ
  below : k < high
  among : Among g (part k)

stands_in : (part : ℕ → List Field) (g : Field) (a n : ℕ) → Among g (flat_map part (range_with_len a n)) → StandsIn part g (a + n)
unfolding Among
stands_in part g a zero h = absurd h
stands_in part g a (suc n) h =
    elim (among_append g (part a) (flat_map part (range_with_len (a + 1) n)) h) as (λ _. StandsIn part g (a + suc n)) [
      | inl i ↦ record { k = a; below = omega arith; among = i }
      | inr j ↦ let s = stands_in part g (a + 1) n j in record { k = s.k; below = let l = s.below in omega (arith, l); among = s.among }
    ]

byte_is_field : (d : ℕ) (bytes : List ℕ) (k a n : ℕ) (g : Field) → k < stated bytes → a + n ≤ d * count_at bytes d k
    → Among g (map (body_byte k) (range_with_len a n)) → IsField bytes d g
unfolding Among
byte_is_field d bytes k a zero g h l i = absurd i
byte_is_field d bytes k a (suc n) g h l (inl e) = subst (λ (f : Field). IsField bytes d f) (sym e) (h, omega (arith, l))
byte_is_field d bytes k a (suc n) g h l (inr i) = byte_is_field d bytes k (a + 1) n g h (omega (arith, l)) i

body_is_field : (d : ℕ) (bytes : List ℕ) (k : ℕ) (g : Field) → k < stated bytes → Among g (fields_of_body bytes d k) → IsField bytes d g
unfolding Among
body_is_field d bytes k g h (inl e) = subst (λ (f : Field). IsField bytes d f) (sym e) h
body_is_field d bytes k g h (inr i) = byte_is_field d bytes k 0 (min (d * count_at bytes d k) (length bytes)) g h (omega arith) i

record_is_field : (d : ℕ) (bytes : List ℕ) (k : ℕ) (g : Field) → k < stated bytes → Among g (fields_of_record k) → IsField bytes d g
unfolding Among
record_is_field d bytes k g h (inl e) = subst (λ (f : Field). IsField bytes d f) (sym e) h
record_is_field d bytes k g h (inr (inl e)) = subst (λ (f : Field). IsField bytes d f) (sym e) h
record_is_field d bytes k g h (inr (inr i)) = absurd i

listed_is_field : (kind : Kind) (d : ℕ) (bytes : List ℕ) (g : Field) → Among g (fields kind d bytes) → IsField bytes d g
unfolding Among record_part body_part
listed_is_field kind d bytes g (inl e) = subst (λ (f : Field). IsField bytes d f) (sym e) tt
listed_is_field kind d bytes g (inr h) =
    let n = min (stated bytes) (label_count kind d) in
    elim (among_append g (record_part kind d bytes) (body_part kind d bytes) h) as (λ _. IsField bytes d g) [
      | inl i ↦ let s = stands_in fields_of_record g 0 n i in record_is_field d bytes s.k g (let l = s.below in omega (arith, l)) s.among
      | inr j ↦ let s = stands_in (fields_of_body bytes d) g 0 n j in body_is_field d bytes s.k g (let l = s.below in omega (arith, l)) s.among
    ]

-- ---- what is computed

-- a found field is the first that fails
first_failed : (kind : Kind) (d : ℕ) (bytes : List ℕ) (f : Field) → find (fails kind d bytes) (fields kind d bytes) ≡ Some f → IsFirstFailed kind d bytes f
first_failed kind d bytes f e =
    let h = found kind d bytes 16 (fields kind d bytes) (body_place bytes d (0 + min (stated bytes) (label_count kind d))) f (fields_run kind d bytes) e in
    record {
      is_field = listed_is_field kind d bytes f h.among;
      failed = h.failed;
      first = λ g i l x.
          let c = covered kind d bytes g i x in
          let y = h.first c.field c.among c.failed in
          let z = c.before in
          omega (arith, l, y, z);
    }

-- where none is found none fails
none_fails : (kind : Kind) (d : ℕ) (bytes : List ℕ) → find (fails kind d bytes) (fields kind d bytes) ≡ None → NoneFails kind d bytes
none_fails kind d bytes e = λ g i x.
    let c = covered kind d bytes g i x in
    let y = none_found kind d bytes (fields kind d bytes) e c.field c.among in
    let z = c.failed in
    cc

-- the fault that is computed behind a head of version 2 is the one that the bytes have
pub fault_holds : (kind : Kind) (d : ℕ) (bytes : List ℕ) (fault : FileFault) → body_fault kind d bytes ≡ Some fault → HasBodyFault kind d bytes fault
fault_holds kind d bytes fault e = go (find (fails kind d bytes) (fields kind d bytes)) refl e
  where
    go : (o : Option Field) → find (fails kind d bytes) (fields kind d bytes) ≡ o → fault_where kind d bytes o ≡ Some fault → HasBodyFault kind d bytes fault
    go (Some f) h e = inl (f, first_failed kind d bytes f h, cc)
    go None h e = by_length (nat_lt (file_end bytes d) (length bytes)) refl e
      where
        by_length : (b : Bool) → nat_lt (file_end bytes d) (length bytes) ≡ b → (if b then Some (at_extra (file_end bytes d)) else None) ≡ Some fault
            → HasBodyFault kind d bytes fault
        by_length true t e = inr (none_fails kind d bytes h, lt_of (file_end bytes d) (length bytes) t, cc)
        by_length false t e = absurd (cc)

-- where none is computed, no field fails and no byte follows
pub no_fault : (kind : Kind) (d : ℕ) (bytes : List ℕ) → body_fault kind d bytes ≡ None → NoneFails kind d bytes × (length bytes ≤ file_end bytes d)
no_fault kind d bytes e = go (find (fails kind d bytes) (fields kind d bytes)) refl e
  where
    go : (o : Option Field) → find (fails kind d bytes) (fields kind d bytes) ≡ o → fault_where kind d bytes o ≡ None
        → NoneFails kind d bytes × (length bytes ≤ file_end bytes d)
    go (Some f) h e = absurd (cc)
    go None h e = by_length (nat_lt (file_end bytes d) (length bytes)) refl e
      where
        by_length : (b : Bool) → nat_lt (file_end bytes d) (length bytes) ≡ b → (if b then Some (at_extra (file_end bytes d)) else None) ≡ None
            → NoneFails kind d bytes × (length bytes ≤ file_end bytes d)
        by_length true t e = absurd (cc)
        by_length false t e = (
          none_fails kind d bytes h,
          let n : ¬ (file_end bytes d < length bytes) = λ x. let y = of_lt (file_end bytes d)
              (length bytes) x in cc in omega (arith, n),
        )

-- ---- a file has one such fault

-- two fields of an ascending list with one place are the same
same_place : (bytes : List ℕ) (d lo : ℕ) (fs : List Field) (hi : ℕ) (f g : Field) → Runs bytes d lo fs hi → Among f fs → Among g fs
    → place_of bytes d f ≡ place_of bytes d g → f ≡ g
unfolding Runs Among
same_place bytes d lo [] hi f g r a b e = absurd a
same_place bytes d lo (x ∷ fs) hi f g r (inl a) (inl b) e = a ∙ sym b
same_place bytes d lo (x ∷ fs) hi f g r (inl a) (inr b) e =
    let y = later_above bytes d (place_of bytes d x + 1) fs hi g r.1 b in
    let z = ap (place_of bytes d) a in
    absurd (omega (arith, e, y, z))
same_place bytes d lo (x ∷ fs) hi f g r (inr a) (inl b) e =
    let y = later_above bytes d (place_of bytes d x + 1) fs hi f r.1 a in
    let z = ap (place_of bytes d) b in
    absurd (omega (arith, e, y, z))
same_place bytes d lo (x ∷ fs) hi f g r (inr a) (inr b) e = same_place bytes d (place_of bytes d x + 1) fs hi f g r.1 a b e

-- the first field that fails is the one found
found_first : (kind : Kind) (d : ℕ) (bytes : List ℕ) (f g : Field) → find (fails kind d bytes) (fields kind d bytes) ≡ Some f → IsFirstFailed kind d bytes g
    → f ≡ g
found_first kind d bytes f g e first =
    let hi = body_place bytes d (0 + min (stated bytes) (label_count kind d)) in
    let h = found kind d bytes 16 (fields kind d bytes) hi f (fields_run kind d bytes) e in
    let c = covered kind d bytes g first.is_field first.failed in
    elim c.listed as (λ _. f ≡ g) [
      | inl i ↦
          let y = h.first g i first.failed in
          let z : ¬ (place_of bytes d f < place_of bytes d g) = λ l. first.first f (listed_is_field kind d bytes f h.among) l h.failed in
          same_place bytes d 16 (fields kind d bytes) hi f g (fields_run kind d bytes) h.among i (omega (arith, y, z))
      | inr l ↦ absurd (first.first c.field (listed_is_field kind d bytes c.field c.among) l c.failed)
    ]

-- a fault that the bytes have is the one computed
pub one_fault : (kind : Kind) (d : ℕ) (bytes : List ℕ) (fault : FileFault) → HasBodyFault kind d bytes fault → body_fault kind d bytes ≡ Some fault
one_fault kind d bytes fault (inl h) = go (find (fails kind d bytes) (fields kind d bytes)) refl
  where
    go : (o : Option Field) → find (fails kind d bytes) (fields kind d bytes) ≡ o → body_fault kind d bytes ≡ Some fault
    go (Some f) e = ap (fault_where kind d bytes) e ∙ ap (λ (x : Field). Some (fault_of bytes d x)) (found_first kind d bytes f h.0 e h.1) ∙ ap Some (sym h.2)
    go None e = absurd (none_fails kind d bytes e h.0 h.1.is_field h.1.failed)
one_fault kind d bytes fault (inr h) = go (find (fails kind d bytes) (fields kind d bytes)) refl
  where
    go : (o : Option Field) → find (fails kind d bytes) (fields kind d bytes) ≡ o → body_fault kind d bytes ≡ Some fault
    go (Some f) e = let x = first_failed kind d bytes f e in absurd (h.0 f x.is_field x.failed)
    go None e =
        let t : nat_lt (file_end bytes d) (length bytes) ≡ true = of_lt (file_end bytes d) (length bytes) h.1 in
        ap (fault_where kind d bytes) e ∙ ap (λ (b : Bool). if b then Some (at_extra (file_end bytes d)) else None) t ∙ ap Some (sym h.2)
