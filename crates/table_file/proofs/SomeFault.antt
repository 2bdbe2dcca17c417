-- Bytes that are no table have a fault: each part in turn stands there, or is the fault.
use Rattle.std.specs.Prelude.{◌≡◌, ◌⊎◌, ℕ, zero, suc, ◌+◌, ◌*◌, ◌/◌, ◌%◌, ◌<◌, ◌≤◌, List, [], ◌∷◌, ◌++◌, length, slice_index, take, drop, All}
use Rattle.std.specs.Simd.{first_chunks}
use Rattle.std.proofs.Common.{refl, sym, ap, ◌∙◌, subst, arith, inl, inr}
use Rattle.std.proofs.lemmas.Bool.{cases_lt, cases_eq}
use Rattle.std.proofs.lemmas.List.{length_push}
use Rattle.std.proofs.lemmas.List.Elements.{All-nil, All-cons}
use Rattle.iso_model.specs.declared.Kind.{Kind}
use Rattle.iso_model.specs.declared.Kind.TheVariants.{Cube, Simplex, Pyramid}
use Rattle.iso_model.specs.Cells.{HasDimension, edge_count, label_count}
use Rattle.iso_formats.specs.TableFile.{head_bytes, big_endian, IsWholeTable, TableFault, magic_fault, kind_fault, edge_fault, short_fault}
use Rattle.iso_formats.specs.TableFile.{extra_fault, HasTableFault, HasOneFault}
use Rattle.table_file.specs.declared.faults.TableFault.TheVariants.{Short}
use Rattle.table_file.specs.Heads.{rows, BeginsHead, StopsInHead}
use Rattle.iso_formats.specs.TableFile2.{HasHeadOf}
use Rattle.table_file.specs.HeldEntries.{BeginsWithCount, IsEntryAt, HasWrongEdge, IsCutOff}
use Rattle.table_file.proofs.TupleRows.{small_counts}
use Rattle.table_file.proofs.HeadLaws.{stands_among}
use Rattle.table_file.proofs.EntryLaws.{IsFront, count_whole, wrong_edge_at, cut_off_at, entry_at}
use Rattle.table_file.proofs.Progress.{table_of, HasRead, read_none, read_more, read_all}
use Rattle.table_file.proofs.Causes.{wrong_edge_cause, entry_cause, extra_cause, head_short, head_magic, head_kind}
use Rattle.table_file.proofs.FaultLaws.{same_fault}

pub HasSomeFault : List ℕ → Type 0
HasSomeFault bytes = (fault : TableFault) × HasTableFault bytes fault

-- ---- heads

list_cases : (xs ys : List ℕ) → (xs ≡ ys) ⊎ (xs ≡ ys → ⊥)
list_cases [] [] = inl refl
list_cases [] (y ∷ ys) = inr (λ e. omega (arith, ap (λ (l : List ℕ). length l) e))
list_cases (x ∷ xs) [] = inr (λ e. omega (arith, ap (λ (l : List ℕ). length l) e))
list_cases (x ∷ xs) (y ∷ ys) = elim (cases_eq x y) [
  | inl h ↦ elim (list_cases xs ys) [ inl t ↦ inl cc | inr never ↦ inr (λ e. never (ap (drop 1) e)) ]
  | inr never ↦ inr (λ e. never (ap (λ (l : List ℕ). slice_index l 0) e))
]

AgreesNot : List ℕ → ℕ → Kind × ℕ → Type 0
AgreesNot bytes n row = take n bytes ≡ take n (head_bytes 1 row.0 row.1) → ⊥

Fits : Kind × ℕ → Type 0
Fits row = HasDimension row.0 row.1

row_cases : (bytes : List ℕ) (n : ℕ) (rs : List (Kind × ℕ)) → All Fits rs → BeginsHead 1 bytes n ⊎ All (AgreesNot bytes n) rs
unfolding AgreesNot Fits
row_cases bytes n [] fits = inr (All-nil (AgreesNot bytes n))
row_cases bytes n (row ∷ rs) fits = elim (list_cases (take n bytes) (take n (head_bytes 1 row.0 row.1))) [
  | inl same ↦ inl (record { kind = row.0; dimension = row.1; fits = fits 0 row (omega arith); same = same })
  | inr never ↦ elim (row_cases bytes n rs (λ k x h. fits (suc k) x (omega arith))) [
    | inl b ↦ inl b
    | inr all ↦ inr (All-cons (AgreesNot bytes n) row rs never all)
  ]
]

rows_fit : All Fits rows
unfolding Fits
rows_fit =
    All-cons Fits (Cube, 2) (drop 1 rows) (omega arith, omega arith)
    (All-cons Fits (Cube, 3) (drop 2 rows) (omega arith, omega arith)
    (All-cons Fits (Cube, 4) (drop 3 rows) (omega arith, omega arith)
    (All-cons Fits (Simplex, 2) (drop 4 rows) (omega arith, omega arith)
    (All-cons Fits (Simplex, 3) (drop 5 rows) (omega arith, omega arith)
    (All-cons Fits (Simplex, 4) (drop 6 rows) (omega arith, omega arith) (All-cons Fits (Pyramid, 3) [] refl (All-nil Fits)))))))

head_cases : (bytes : List ℕ) (n : ℕ) → BeginsHead 1 bytes n ⊎ (BeginsHead 1 bytes n → ⊥)
unfolding AgreesNot
head_cases bytes n = elim (row_cases bytes n rows rows_fit) [
  | inl b ↦ inl b
  | inr all ↦ inr (λ b.
      let s = stands_among b.kind b.dimension b.fits in
      subst (λ (row : Kind × ℕ). AgreesNot bytes n row) s.is (all s.index (b.kind, b.dimension) s.inside) b.same)
]

StopsSomewhere : List ℕ → Type 0
StopsSomewhere bytes = (place : ℕ) × StopsInHead 1 bytes place

head_goes : (bytes : List ℕ) (n : ℕ) → n ≤ 16 → n ≤ length bytes → BeginsHead 1 bytes n ⊎ StopsSomewhere bytes
unfolding StopsSomewhere
head_goes bytes zero h inside = inl (record { kind = Cube; dimension = 2; fits = (omega arith, omega arith); same = refl })
head_goes bytes (suc n) h inside = elim (head_goes bytes n (omega arith) (omega arith)) [
  | inl b ↦ elim (head_cases bytes (suc n)) [
    | inl c ↦ inl c
    | inr never ↦ let next : n + 1 ≡ suc n = omega arith in
        inr (n, record { inside_head = omega arith; inside = omega arith; begun = b; stopped = λ _ c. never (subst (λ m. BeginsHead 1 bytes m) next c) })
  ]
  | inr s ↦ inr s
]

HasSomeHead : List ℕ → Type 0
HasSomeHead bytes = (kind : Kind) × (d : ℕ) × HasHeadOf 1 bytes kind d

some_head : (bytes : List ℕ) → HasSomeHead bytes ⊎ StopsSomewhere bytes
unfolding StopsSomewhere HasSomeHead
some_head bytes = elim (cases_lt (length bytes) 16) [
  | inl short ↦ elim (head_goes bytes (length bytes) (omega arith) (omega arith)) [
    | inl b ↦ inr (length bytes, record { inside_head = short; inside = omega arith; begun = b; stopped = λ h. absurd (omega arith) })
    | inr s ↦ inr s
  ]
  | inr long ↦ elim (head_goes bytes 16 (omega arith) long) [
    | inl b ↦ inl (b.kind, b.dimension, record { fits = b.fits; whole = long; same = b.same })
    | inr s ↦ inr s
  ]
]

head_fault : (bytes : List ℕ) (place : ℕ) → StopsInHead 1 bytes place → HasSomeFault bytes
unfolding HasSomeFault
head_fault bytes place s = elim (cases_lt place (length bytes)) as (λ _. (fault : TableFault) × HasTableFault bytes fault) [
  | inl inside ↦ elim (cases_lt place 8) as (λ _. (fault : TableFault) × HasTableFault bytes fault) [
    | inl low ↦ (magic_fault place, head_magic bytes place s inside low)
    | inr high ↦ (kind_fault place, head_kind bytes place s inside high)
  ]
  | inr end ↦ (short_fault place, head_short bytes place s (omega (arith, s.inside)))
]

-- ---- an entry

whole_count : (rest : List ℕ) → 4 ≤ length rest → ((count : ℕ) × BeginsWithCount rest count) ⊎ ((count : ℕ) → ¬ BeginsWithCount rest count)
whole_count [] h = absurd (omega arith)
whole_count (a ∷ []) h = absurd (omega arith)
whole_count (a ∷ b ∷ []) h = absurd (omega arith)
whole_count (a ∷ b ∷ e ∷ []) h = absurd (omega arith)
whole_count (a ∷ b ∷ e ∷ f ∷ rest) h = elim (cases_lt b 256) [
  | inl x ↦ elim (cases_lt e 256) [
    | inl y ↦ elim (cases_lt f 256) [
      | inl z ↦ elim (cases_lt (a * 16777216 + b * 65536 + e * 256 + f) 268435457) [
        | inl few ↦ inl (a * 16777216 + b * 65536 + e * 256 + f, (omega arith, four a b e f (omega arith) x y z))
        | inr many ↦ inr (λ count s.
            omega (
              arith,
              s.0,
              many,
              ap (λ (l : List ℕ). slice_index l 0) s.1,
              ap (λ (l : List ℕ). slice_index l 1) s.1,
              ap
                  (λ (l : List ℕ). slice_index l 2) s.1,
              ap (λ (l : List ℕ). slice_index l 3) s.1,
            ))
      ]
      | inr great ↦ inr (λ count s. omega (arith, great, ap (λ (l : List ℕ). slice_index l 3) s.1))
    ]
    | inr great ↦ inr (λ count s. omega (arith, great, ap (λ (l : List ℕ). slice_index l 2) s.1))
  ]
  | inr great ↦ inr (λ count s. omega (arith, great, ap (λ (l : List ℕ). slice_index l 1) s.1))
]
  where
    four : (a b e f : ℕ) → a * 16777216 + b * 65536 + e * 256 + f ≤ 268435456 → b < 256 → e < 256 → f < 256
        → a ∷ b ∷ e ∷ f ∷ [] ≡ big_endian 4 (a * 16777216 + b * 65536 + e * 256 + f)
    four a b e f few x y z =
        let n = a * 16777216 + b * 65536 + e * 256 + f in
        let first : n / 16777216 % 256 ≡ a = omega arith in
        let second : n / 65536 % 256 ≡ b = omega arith in
        let third : n / 256 % 256 ≡ e = omega arith in
        let last : n % 256 ≡ f = omega arith in
        ap (λ x. x ∷ b ∷ e ∷ f ∷ []) (sym first) ∙ ap (λ x. n / 16777216 % 256 ∷ x ∷ e ∷ f ∷ []) (sym second)
        ∙ ap (λ x. n / 16777216 % 256 ∷ n / 65536 % 256 ∷ x ∷ f ∷ []) (sym third)
        ∙ ap (λ x. n / 16777216 % 256 ∷ n / 65536 % 256 ∷ n / 256 % 256 ∷ x ∷ []) (sym last)

-- the first member that is not below a bound
record FirstOver (most : ℕ) (xs : List ℕ) : Type 0 where
  place : ℕ
  inside : place < length xs
  before : All (λ e. e < most) (take place xs)
  over : most ≤ slice_index xs place

first_over : (most : ℕ) (xs : List ℕ) → All (λ e. e < most) xs ⊎ FirstOver most xs
first_over most [] = inl (All-nil (λ e. e < most))
first_over most (x ∷ xs) = elim (cases_lt x most) [
  | inl low ↦ elim (first_over most xs) [
    | inl all ↦ inl (All-cons (λ e. e < most) x xs low all)
    | inr f ↦
        inr
        (record {
          place = suc f.place;
          inside = omega (arith, f.inside);
          before = All-cons (λ e. e < most) x (take f.place xs) low f.before;
          over = f.over;
        })
  ]
  | inr high ↦ inr (record { place = 0; inside = omega arith; before = All-nil (λ e. e < most); over = high })
]

Next : Kind → ℕ → List ℕ → ℕ → Type 0
Next kind d bytes place = ((tuples : List (List ℕ)) × IsEntryAt kind d bytes place tuples) ⊎ HasSomeFault bytes

edge_found : (kind : Kind) (d : ℕ) (bytes : List ℕ) (es : List (List (List ℕ))) (place distance : ℕ) → HasRead kind d bytes es place
    → length es < label_count kind d
    → HasWrongEdge kind d (drop place bytes) distance → Next kind d bytes place
unfolding Next HasSomeFault
edge_found kind d bytes es place distance r few w =
    inr (edge_fault (place + 4 + distance), wrong_edge_cause kind d bytes es place distance (place + 4 + distance) r few w refl)

count_missing : (kind : Kind) (d : ℕ) (bytes : List ℕ) (es : List (List (List ℕ))) (place : ℕ) → HasRead kind d bytes es place → length es < label_count kind d
    → ((count : ℕ) → ¬ BeginsWithCount (drop place bytes) count) → Next kind d bytes place
unfolding Next HasSomeFault
count_missing kind d bytes es place r few none =
    inr (short_fault (length bytes), entry_cause kind d bytes es place (Short (length bytes)) r few (refl, inl none))

tuples_missing : (kind : Kind) (d : ℕ) (bytes : List ℕ) (es : List (List (List ℕ))) (place : ℕ) → HasRead kind d bytes es place → length es < label_count kind d
    → IsCutOff kind d (drop place bytes) → Next kind d bytes place
unfolding Next HasSomeFault
tuples_missing kind d bytes es place r few cut =
    inr (short_fault (length bytes), entry_cause kind d bytes es place (Short (length bytes)) r few (refl, inr cut))

entry_stands : (kind : Kind) (d : ℕ) (bytes : List ℕ) (place : ℕ) (tuples : List (List ℕ)) → IsEntryAt kind d bytes place tuples → Next kind d bytes place
unfolding Next
entry_stands kind d bytes place tuples e = inl (tuples, e)

behind_count : (kind : Kind) (d : ℕ) (bytes : List ℕ) (es : List (List (List ℕ))) (place count : ℕ) → HasRead kind d bytes es place
    → length es < label_count kind d
    → BeginsWithCount (drop place bytes) count → Next kind d bytes place
behind_count kind d bytes es place count r few b =
    let front = drop place bytes in
    let behind = drop (place + 4) bytes in
    let most = edge_count kind d in
    let f : IsFront kind d count front behind most bytes place = record { inside = r.inside; front_is = refl; behind_is = refl; edges_is = refl; begins = b } in
    elim (cases_lt (length behind) (count * d)) [
      | inl short ↦ elim (first_over most (take (length behind) behind)) [
        | inl all ↦ tuples_missing kind d bytes es place r few (cut_off_at kind d count front behind most bytes place (length behind) f short (omega arith) all)
        | inr w ↦ edge_found kind d bytes es place w.place r few
            (wrong_edge_at kind d count front behind most bytes place (length behind) w.place f (omega (arith, short)) w.inside w.before w.over)
      ]
      | inr long ↦ elim (first_over most (take (count * d) behind)) [
        | inl all ↦
            let here = take (count * d) behind in
            let tuples = first_chunks d (length here / d) here in
            entry_stands kind d bytes place tuples
            (entry_at kind d count front behind most bytes place (count * d) tuples f (omega (arith, (small_counts kind d r.fits).some)) refl long
            all refl)
        | inr w ↦ edge_found kind d bytes es place w.place r few
            (wrong_edge_at kind d count front behind most bytes place (count * d) w.place f (omega arith) w.inside w.before w.over)
      ]
    ]

next_cases : (kind : Kind) (d : ℕ) (bytes : List ℕ) (es : List (List (List ℕ))) (place : ℕ) → HasRead kind d bytes es place
    → length es < label_count kind d → Next kind d bytes place
next_cases kind d bytes es place r few =
    let rest = drop place bytes in
    elim (cases_lt (length rest) 4) [
      | inl short ↦ count_missing kind d bytes es place r few (λ count b. omega (arith, short, count_whole rest count b))
      | inr long ↦ elim (whole_count rest long) [
        | inl found ↦ behind_count kind d bytes es place found.0 r few found.1
        | inr none ↦ count_missing kind d bytes es place r few none
      ]
    ]

-- ---- the rest

rest_cases : (n : ℕ) (kind : Kind) (d : ℕ) (bytes : List ℕ) (es : List (List (List ℕ))) (place : ℕ) → HasRead kind d bytes es place
    → length es + n ≡ label_count kind d
    → IsWholeTable bytes ⊎ HasSomeFault bytes
unfolding Next HasSomeFault
rest_cases zero kind d bytes es place r left = elim (cases_lt place (length bytes)) [
  | inl more ↦ inr (extra_fault place, extra_cause kind d bytes es place r (omega arith) more)
  | inr end ↦ inl (table_of kind d es, read_all kind d bytes es place r (omega arith) end)
]
rest_cases (suc n) kind d bytes es place r left = elim (next_cases kind d bytes es place r (omega arith)) [
  | inl e ↦
      rest_cases n kind d bytes (es ++ e.0 ∷ []) (place + 4 + length e.0 * d) (read_more kind d bytes es place e.0 r e.1)
      (omega (arith, left, length_push es e.0))
  | inr fault ↦ inr fault
]

some_fault : (bytes : List ℕ) → (IsWholeTable bytes → ⊥) → HasSomeFault bytes
unfolding StopsSomewhere HasSomeHead
some_fault bytes never = elim (some_head bytes) as (λ _. HasSomeFault bytes) [
  | inl h ↦ elim (rest_cases (label_count h.0 h.1) h.0 h.1 bytes [] 16 (read_none h.0 h.1 bytes h.2) (omega arith)) as (λ _. HasSomeFault bytes) [
    | inl whole ↦ absurd (never whole)
    | inr fault ↦ fault
  ]
  | inr s ↦ head_fault bytes s.0 s.1
]

pub one_fault : (bytes : List ℕ) → HasOneFault bytes
unfolding HasSomeFault
one_fault bytes never = let f = some_fault bytes never in (f.0, f.1, λ other has. same_fault bytes other f.0 has f.1)
