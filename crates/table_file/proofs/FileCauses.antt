-- The fault at which reading stops is that of the file, of either version.
use Rattle.std.specs.Prelude.{codes, ◌≡◌, ◌⊎◌, ℕ, ◌+◌, ◌<◌, ◌≤◌, List, length, slice_index, take}
use Rattle.std.proofs.Common.{refl, sym, ap, ◌∙◌, arith, inl, inr}
use Rattle.std.proofs.lemmas.Bool.{cases_lt}
use Rattle.std.proofs.lemmas.List.{take-append-le, take-take, take_all, length-take, get_or-take}
use Rattle.iso_model.specs.declared.Kind.{Kind}
use Rattle.iso_model.specs.Tables.{Table}
use Rattle.iso_formats.specs.TableFile.{head_bytes, SpellsTable, IsWholeTable}
use Rattle.iso_formats.specs.TableFile.{magic_fault, kind_fault, edge_fault, short_fault, extra_fault}
use Rattle.iso_formats.specs.TableFile2.{SpellsTable2, BeginsSomeHead, StopsInSomeHead, HasHeadOf, IsWholeFile}
use Rattle.iso_formats.proofs.TableReadLaws.{head_of_table2, no_body_fault}
use Rattle.table_file.specs.declared.faults.TableFault.{TableFault}
use Rattle.table_file.specs.declared.faults.TableFault.TheVariants.{Magic, Kind as KindFault, EdgeNumber, Short, Extra, Index, Count, Memory}
use Rattle.table_file.specs.Heads.{BeginsHead, StopsInHead, version_number}
use Rattle.table_file.specs.declared.heads.Version.{Version}
use Rattle.table_file.specs.declared.heads.Version.TheVariants.{One, Two}
use Rattle.table_file.specs.Reading.{HasCause, HasBodyCause, HasFirstCause}
use Rattle.table_file.proofs.HeadLaws.{table_head, table_long}

-- ---- behind a head

pub first_cause : (kind : Kind) (d : ℕ) (bytes : List ℕ) (fault : TableFault) → HasHeadOf 1 bytes kind d → HasFirstCause bytes fault → HasCause bytes fault
first_cause kind d bytes (Magic p) h f = inr (inl (kind, d, magic_fault p, h, f, refl))
first_cause kind d bytes (KindFault p) h f = inr (inl (kind, d, kind_fault p, h, f, refl))
first_cause kind d bytes (EdgeNumber p) h f = inr (inl (kind, d, edge_fault p, h, f, refl))
first_cause kind d bytes (Short p) h f = inr (inl (kind, d, short_fault p, h, f, refl))
first_cause kind d bytes (Extra p) h f = inr (inl (kind, d, extra_fault p, h, f, refl))
first_cause kind d bytes (Index p) h f = absurd f
first_cause kind d bytes (Count p) h f = absurd f
first_cause kind d bytes Memory h f = tt

-- the eighth byte is the version's digit
pub eighth : (v : ℕ) (bytes : List ℕ) (kind : Kind) (d : ℕ) → take 16 bytes ≡ head_bytes v kind d → slice_index bytes 7 ≡ 48 + v
eighth v bytes kind d same = sym (get_or-take 16 bytes 7 0 (omega arith)) ∙ ap (λ (l : List ℕ). slice_index l 7) same

pub head_of_table : (bytes : List ℕ) (t : Table) → SpellsTable bytes t → take 16 bytes ≡ head_bytes 1 t.kind t.dimension
head_of_table bytes t s = ap (λ (l : List ℕ). take 16 l) s.1 ∙ table_head t 16 (omega arith) ∙ take_all 16 (head_bytes 1 t.kind t.dimension) (omega arith)

-- behind a head of version 1 a table's file is of version 1
pub first_whole : (kind : Kind) (d : ℕ) (bytes : List ℕ) → HasHeadOf 1 bytes kind d → IsWholeFile bytes → IsWholeTable bytes
first_whole kind d bytes h w = elim w.1 as (λ _. IsWholeTable bytes) [
  | inl s ↦ (w.0, s)
  | inr s ↦ absurd (omega (arith, eighth 1 bytes kind d h.same, eighth 2 bytes w.0.kind w.0.dimension (head_of_table2 bytes w.0 s)))
]

pub second_only_memory : (kind : Kind) (d : ℕ) (bytes : List ℕ) (fault : TableFault) → HasHeadOf 2 bytes kind d → HasBodyCause kind d bytes fault
    → IsWholeFile bytes → fault ≡ Memory
second_only_memory kind d bytes fault h f w = elim w.1 as (λ _. fault ≡ Memory) [
  | inl s ↦ absurd (omega (arith, eighth 2 bytes kind d h.same, eighth 1 bytes w.0.kind w.0.dimension (head_of_table bytes w.0 s)))
  | inr s ↦ by_fault fault f s
]
  where
    by_fault : (fault : TableFault) → HasBodyCause kind d bytes fault → SpellsTable2 bytes w.0 → fault ≡ Memory
    by_fault (Magic p) f s = absurd (no_body_fault kind d bytes w.0 _ h s f)
    by_fault (KindFault p) f s = absurd (no_body_fault kind d bytes w.0 _ h s f)
    by_fault (EdgeNumber p) f s = absurd (no_body_fault kind d bytes w.0 _ h s f)
    by_fault (Short p) f s = absurd (no_body_fault kind d bytes w.0 _ h s f)
    by_fault (Extra p) f s = absurd (no_body_fault kind d bytes w.0 _ h s f)
    by_fault (Index p) f s = absurd (no_body_fault kind d bytes w.0 _ h s f)
    by_fault (Count p) f s = absurd (no_body_fault kind d bytes w.0 _ h s f)
    by_fault Memory f s = refl

-- ---- heads

seven_same : (n v w : ℕ) (kind : Kind) (d : ℕ) → n ≤ 7 → take n (head_bytes v kind d) ≡ take n (head_bytes w kind d)
seven_same n v w kind d h = take-append-le n (codes "HULLTAB") _ h ∙ sym (take-append-le n (codes "HULLTAB") _ h)

one_or_two : (r : Version) → (version_number r ≡ 1) ⊎ (version_number r ≡ 2)
one_or_two One = inl refl
one_or_two Two = inr refl

pub begins_some : (r : Version) (bytes : List ℕ) (p : ℕ) → BeginsHead (version_number r) bytes p → BeginsSomeHead bytes p
begins_some r bytes p b =
    record { version = version_number r; kind = b.kind; dimension = b.dimension; one_or_two = one_or_two r; fits = b.fits; same = b.same }

digit : (bytes : List ℕ) (p : ℕ) (b : BeginsSomeHead bytes (p + 1)) → 7 ≤ p → slice_index bytes 7 ≡ 48 + b.version
digit bytes p b h =
    sym (get_or-take (p + 1) bytes 7 0 (omega (arith, h))) ∙ ap (λ (l : List ℕ). slice_index l 7) b.same
    ∙ get_or-take (p + 1) (head_bytes b.version b.kind b.dimension) 7 0 (omega (arith, h))

-- the eighth byte tells which version a head is of
same_version : (r : Version) (bytes : List ℕ) (p : ℕ) (b : BeginsSomeHead bytes (p + 1)) → 7 ≤ p → p < length bytes
    → (r ≡ Two → (7 < length bytes) × (slice_index bytes 7 ≡ 50)) → ((7 < length bytes) × (slice_index bytes 7 ≡ 50) → r ≡ Two)
    → b.version ≡ version_number r
same_version One bytes p b h inside names named = elim b.one_or_two as (λ _. b.version ≡ 1) [
  | inl one ↦ one
  | inr two ↦ absurd (let no : One ≡ Two = named (omega (arith, h, inside), omega (arith, digit bytes p b h, two)) in cc)
]
same_version Two bytes p b h inside names named = elim b.one_or_two as (λ _. b.version ≡ 2) [
  | inl one ↦ absurd (omega (arith, digit bytes p b h, one, (names refl).1))
  | inr two ↦ two
]

pub stops_some : (r : Version) (bytes : List ℕ) (p : ℕ) → (r ≡ Two → (7 < length bytes) × (slice_index bytes 7 ≡ 50))
    → ((7 < length bytes) × (slice_index bytes 7 ≡ 50) → r ≡ Two) → StopsInHead (version_number r) bytes p → p < length bytes → StopsInSomeHead bytes p
stops_some r bytes p names named s inside = record {
  inside_head = s.inside_head;
  inside = inside;
  begun = begins_some r bytes p s.begun;
  stopped = λ b. elim (cases_lt p 7) as (λ _. ⊥) [
    | inl low ↦ s.stopped inside (record {
      kind = b.kind;
      dimension = b.dimension;
      fits = b.fits;
      same = b.same ∙ seven_same (p + 1) b.version (version_number r) b.kind b.dimension (omega (arith, low));
    })
    | inr high ↦
        let version = same_version r bytes p b high inside names named in
        s.stopped inside (record {
          kind = b.kind;
          dimension = b.dimension;
          fits = b.fits;
          same = b.same ∙ ap (λ v. take (p + 1) (head_bytes v b.kind b.dimension)) version;
        })
  ];
}

-- a table's file has a whole head
pub whole_head : (bytes : List ℕ) → IsWholeFile bytes → (p : ℕ) → p ≤ 16 → BeginsSomeHead bytes p
whole_head bytes w p h = elim w.1 as (λ _. BeginsSomeHead bytes p) [
  | inl s ↦ record {
    version = 1;
    kind = w.0.kind;
    dimension = w.0.dimension;
    one_or_two = inl refl;
    fits = s.0.fits;
    same = sym (take-take p 16 bytes h) ∙ ap (λ (l : List ℕ). take p l) (head_of_table bytes w.0 s);
  }
  | inr s ↦ record {
    version = 2;
    kind = w.0.kind;
    dimension = w.0.dimension;
    one_or_two = inr refl;
    fits = s.0.fits;
    same = sym (take-take p 16 bytes h) ∙ ap (λ (l : List ℕ). take p l) (head_of_table2 bytes w.0 s);
  }
]

pub whole_long : (bytes : List ℕ) → IsWholeFile bytes → 16 ≤ length bytes
whole_long bytes w = elim w.1 as (λ _. 16 ≤ length bytes) [
  | inl s ↦ omega (arith, table_long w.0, ap (λ (l : List ℕ). length l) s.1)
  | inr s ↦ omega (arith, length-take 16 bytes, ap (λ (l : List ℕ). length l) (head_of_table2 bytes w.0 s))
]

pub no_whole_file : (bytes : List ℕ) (p : ℕ) → p < 16 → (p < length bytes → StopsInSomeHead bytes p) → IsWholeFile bytes → ⊥
no_whole_file bytes p low stops w =
    (stops (omega (arith, low, whole_long bytes w))).stopped (whole_head bytes w (p + 1) (omega (arith, low)))
