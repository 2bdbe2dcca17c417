-- The fault at which reading stops is that of the bytes.
use Rattle.std.specs.Prelude.{◌≡◌, ◌⊎◌, ℕ, ◌+◌, ◌*◌, ◌/◌, ◌%◌, ◌^◌, ◌<◌, ◌≤◌, List, [], ◌∷◌, ◌++◌, length, slice_index, take, drop}
use Rattle.std.proofs.Common.{refl, sym, ap, ◌∙◌, subst, arith, inl, inr}
use Rattle.std.proofs.lemmas.Bool.{cases_lt}
use Rattle.std.proofs.lemmas.List.{append_assoc, take_all, take_at, length-drop, length-append}
use Rattle.iso_model.specs.declared.Kind.{Kind}
use Rattle.iso_model.specs.Cells.{label_count}
use Rattle.iso_formats.specs.TableFile.{table_bytes, big_endian, BeginsTable, CountPasses, IsWrongEdge}
use Rattle.table_file.specs.declared.faults.TableFault.{TableFault}
use Rattle.table_file.specs.declared.faults.TableFault.TheVariants.{Magic, Kind as KindFault, EdgeNumber, Short, Extra, Index, Count, Memory}
use Rattle.table_file.specs.Heads.{StopsInHead}
use Rattle.table_file.specs.HeldEntries.{BeginsWithCount, HasWrongEdge, IsEntryFault}
use Rattle.table_file.specs.Reading.{HasFirstCause}
use Rattle.table_file.proofs.HeadLaws.{not_whole-head}
use Rattle.table_file.proofs.EntryLaws.{no_entry_cut, entry_begins}
use Rattle.table_file.proofs.Progress.{table_of, HasRead, not_whole-entry}
use Rattle.table_file.proofs.Beginnings.{begins_cut, begins_count, begins_head, stops_in_head_at}

-- ---- counts

-- fewer than four bytes begin a count of at most 2^28, or they begin none
pub BeginsSome : List ℕ → Type 0
BeginsSome rest = (count : ℕ) × (count ≤ 2 ^ 28) × (rest ≡ take (length rest) (big_endian 4 count))

pub BeginsNone : List ℕ → Type 0
BeginsNone rest = (count : ℕ) → count ≤ 2 ^ 28 → rest ≡ take (length rest) (big_endian 4 count) → ⊥

two : (a b : ℕ) → a * 16777216 + b * 65536 ≤ 268435456 → b < 256 → BeginsSome (a ∷ b ∷ [])
unfolding BeginsSome
two a b few small =
    let n = a * 16777216 + b * 65536 in
    let first : n / 16777216 % 256 ≡ a = omega arith in
    let second : n / 65536 % 256 ≡ b = omega arith in
    (n, few, ap (λ x. x ∷ b ∷ []) (sym first) ∙ ap (λ x. n / 16777216 % 256 ∷ x ∷ []) (sym second))

three : (a b e : ℕ) → a * 16777216 + b * 65536 + e * 256 ≤ 268435456 → b < 256 → e < 256 → BeginsSome (a ∷ b ∷ e ∷ [])
unfolding BeginsSome
three a b e few small less =
    let n = a * 16777216 + b * 65536 + e * 256 in
    let first : n / 16777216 % 256 ≡ a = omega arith in
    let second : n / 65536 % 256 ≡ b = omega arith in
    let third : n / 256 % 256 ≡ e = omega arith in (
      n,
      few,
      ap (λ x. x ∷ b ∷ e ∷ []) (sym first) ∙ ap (λ x. n / 16777216 % 256 ∷ x ∷ e ∷ []) (sym second)
          ∙ ap (λ x. n / 16777216 % 256 ∷ n / 65536 % 256 ∷ x ∷ []) (sym third),
    )

pub front_cases : (rest : List ℕ) → length rest < 4 → BeginsSome rest ⊎ BeginsNone rest
unfolding BeginsSome BeginsNone
front_cases [] h = inl (0, omega arith, refl)
front_cases (a ∷ []) h = elim (cases_lt a 17) [
  | inl few ↦ let is : a * 16777216 / 16777216 % 256 ≡ a = omega arith in inl (a * 16777216, omega arith, ap (λ x. x ∷ []) (sym is))
  | inr many ↦ inr (λ count small e. omega (arith, small, many, ap (λ (l : List ℕ). slice_index l 0) e))
]
front_cases (a ∷ b ∷ []) h = elim (cases_lt b 256) [
  | inl small ↦ elim (cases_lt (a * 16777216 + b * 65536) 268435457) [
    | inl few ↦ inl (two a b (omega arith) small)
    | inr many ↦ inr (λ count least e. omega (arith, least, many, ap (λ (l : List ℕ). slice_index l 0) e, ap (λ (l : List ℕ). slice_index l 1) e))
  ]
  | inr great ↦ inr (λ count least e. omega (arith, great, ap (λ (l : List ℕ). slice_index l 1) e))
]
front_cases (a ∷ b ∷ f ∷ []) h = elim (cases_lt b 256) [
  | inl small ↦ elim (cases_lt f 256) [
    | inl less ↦ elim (cases_lt (a * 16777216 + b * 65536 + f * 256) 268435457) [
      | inl few ↦ inl (three a b f (omega arith) small less)
      | inr many ↦ inr (λ count least e.
          omega (arith, least, many, ap (λ (l : List ℕ). slice_index l 0) e, ap (λ (l : List ℕ). slice_index l 1) e, ap (λ (l : List ℕ). slice_index l 2) e))
    ]
    | inr great ↦ inr (λ count least e. omega (arith, great, ap (λ (l : List ℕ). slice_index l 2) e))
  ]
  | inr great ↦ inr (λ count least e. omega (arith, great, ap (λ (l : List ℕ). slice_index l 1) e))
]
front_cases (a ∷ b ∷ f ∷ g ∷ rest) h = absurd (omega arith)

-- where no count of at most 2^28 is whole, it passes, or the bytes end within one
pub count_fault : (kind : Kind) (d : ℕ) (bytes : List ℕ) (es : List (List (List ℕ))) (place : ℕ) → HasRead kind d bytes es place
    → length es < label_count kind d
    → ((count : ℕ) → ¬ BeginsWithCount (drop place bytes) count) → CountPasses bytes ⊎ BeginsTable bytes
unfolding BeginsSome BeginsNone
count_fault kind d bytes es place r few none =
    let rest = drop place bytes in
    elim (cases_lt (length rest) 4) [
      | inl short ↦ elim (front_cases rest short) [
        | inl begins ↦ inr (begins_count kind d bytes es place begins.0 r few begins.1 short begins.2)
        | inr never ↦ inl (record {
          kind = kind;
          dimension = d;
          entries = es;
          rest = rest;
          fits = r.fits;
          room = few;
          sound = r.sound;
          split = r.split;
          passes = λ count small e. never count small (sym (take_all 4 rest (omega (arith, short))) ∙ e);
        })
      ]
      | inr long ↦ inl (record {
        kind = kind;
        dimension = d;
        entries = es;
        rest = rest;
        fits = r.fits;
        room = few;
        sound = r.sound;
        split = r.split;
        passes = λ count small e. none count (small, e ∙ take_all (length rest) (big_endian 4 count) long);
      })
    ]

-- ---- the causes

pub wrong_edge_cause : (kind : Kind) (d : ℕ) (bytes : List ℕ) (es : List (List (List ℕ))) (place distance p : ℕ) → HasRead kind d bytes es place
    → length es < label_count kind d → HasWrongEdge kind d (drop place bytes) distance → p ≡ place + 4 + distance → IsWrongEdge bytes p
wrong_edge_cause kind d bytes es place distance p r few w at =
    let start = table_bytes (table_of kind d es) in
    let count = big_endian 4 w.count in
    record {
      kind = kind;
      dimension = d;
      entries = es;
      count = w.count;
      before = w.before;
      byte = w.byte;
      rest = w.rest;
      fits = r.fits;
      room = few;
      sound = r.sound;
      few = w.few;
      in_tuple = w.in_tuple;
      right = w.right;
      wrong = w.wrong;
      split =
          r.split ∙ ap (λ (l : List ℕ). start ++ l) w.split ∙ sym (append_assoc start (count ++ w.before) (w.byte ∷ w.rest))
          ∙ ap (λ (l : List ℕ). l ++ w.byte ∷ w.rest) (sym (append_assoc start count w.before));
      at =
          omega (
            arith,
            at,
            w.at,
            r.inside,
            length-drop place bytes,
            ap (λ (l : List ℕ). length l) w.split,
            length-append (count ++ w.before) (w.byte ∷ w.rest),
            length-append count w.before,
          );
    }

pub entry_cause : (kind : Kind) (d : ℕ) (bytes : List ℕ) (es : List (List (List ℕ))) (place : ℕ) (fault : TableFault) → HasRead kind d bytes es place
    → length es < label_count kind d → IsEntryFault kind d bytes place fault → HasFirstCause bytes fault
entry_cause kind d bytes es place (Magic p) r few f = absurd f
entry_cause kind d bytes es place (KindFault p) r few f = absurd f
entry_cause kind d bytes es place (EdgeNumber p) r few f = wrong_edge_cause kind d bytes es place f.0 p r few f.2 f.1
entry_cause kind d bytes es place (Short p) r few f = elim f.1 as (λ _. HasFirstCause bytes (Short p)) [
  | inl none ↦
      let never = not_whole-entry kind d bytes es place r few (λ g y s e. none (length g) (entry_begins kind d g (drop place bytes) y s e)) in
      elim (count_fault kind d bytes es place r few none) [ inl passes ↦ (f.0, inl passes) | inr begins ↦ (f.0, inr (begins, never)) ]
  | inr cut ↦ (f.0, inr (begins_cut kind d bytes es place r few cut, not_whole-entry kind d bytes es place r few (no_entry_cut kind d (drop place bytes) cut)))
]
entry_cause kind d bytes es place (Extra p) r few f = absurd f
entry_cause kind d bytes es place (Index p) r few f = absurd f
entry_cause kind d bytes es place (Count p) r few f = absurd f
entry_cause kind d bytes es place Memory r few f = tt

-- the bytes up to the place
pub read_front : (kind : Kind) (d : ℕ) (bytes : List ℕ) (es : List (List (List ℕ))) (place : ℕ) → HasRead kind d bytes es place
    → take place bytes ≡ table_bytes (table_of kind d es)
read_front kind d bytes es place r =
    let start = table_bytes (table_of kind d es) in
    ap (λ (l : List ℕ). take place l) r.split
    ∙ take_at start (drop place bytes) place
    (omega (arith, r.inside, ap (λ (l : List ℕ). length l) r.split, length-append start (drop place bytes), length-drop place bytes))

pub extra_cause : (kind : Kind) (d : ℕ) (bytes : List ℕ) (es : List (List (List ℕ))) (place : ℕ) → HasRead kind d bytes es place
    → length es ≡ label_count kind d
    → place < length bytes → HasFirstCause bytes (Extra place)
extra_cause kind d bytes es place r all more =
    (more, (table_of kind d es, (record { fits = r.fits; whole = all; sound = r.sound }, read_front kind d bytes es place r)))

pub head_short : (bytes : List ℕ) (place : ℕ) → StopsInHead 1 bytes place → place ≡ length bytes → HasFirstCause bytes (Short place)
head_short bytes place s end = (
  end,
  inr (
    subst BeginsTable (take_all place bytes (omega arith)) (begins_head bytes place (omega (arith, s.inside_head)) s.begun),
    not_whole-head bytes place s,
  ),
)

pub head_magic : (bytes : List ℕ) (place : ℕ) → StopsInHead 1 bytes place → place < length bytes → place < 8 → HasFirstCause bytes (Magic place)
head_magic bytes place s inside h = (stops_in_head_at bytes place s inside, h)

pub head_kind : (bytes : List ℕ) (place : ℕ) → StopsInHead 1 bytes place → place < length bytes → 8 ≤ place → HasFirstCause bytes (KindFault place)
head_kind bytes place s inside h = (stops_in_head_at bytes place s inside, h, s.inside_head)
