-- The lines of a header, judged one after another.
use Rattle.std.proofs.Common.{◌≡◌, ◌⊎◌, inl, inr, ℕ, zero, suc, ◌+◌, ◌-◌, ◌<◌, ◌≤◌, false, not, List, [], ◌∷◌, ◌++◌, map, length, take, drop, get_or}
use Rattle.std.proofs.Common.{Option, Some, None, refl, sym, ap, ◌∙◌, subst, arith, length-append, append-nil}
use Rattle.std.specs.Prelude.{Result, Ok, Err, IfOk, IfErr, IsNone, ◌==◌, nat_eq, flat_map, slice_index_or, IsTrue}
use Rattle.std.specs.List.{AllPass, position_or_len, range_with_len}
use Rattle.std.proofs.lemmas.Bool.{false≢true, cases_lt}
use Rattle.std.proofs.lemmas.List.{append_assoc, take_more, take_all, length-take-le, get_or_append_left, get_or-append_right, length-map, drop_all, drop_more}
use Rattle.iso_formats.specs.HeaderLines.{Line, line_bytes, is_filled, HasLines, is_first_line, content, first_some}
use Rattle.iso_formats.specs.GridFile.{Header, SpellHeader, is_sound_line}
use Rattle.iso_formats.specs.GridFaults.{GridFault, line_fault, content_fault, lines_fault, missing_fault, count_fault, all_fields}
use Rattle.iso_formats.proofs.HeaderLaws.{header_of_lines}
use Rattle.nrrd_raw.specs.declared.fields.stated.Stated.{Stated}
use Rattle.nrrd_raw.specs.declared.faults.GridFault as fault
use Rattle.nrrd_raw.specs.declared.faults.GridFault.TheVariants as variant
use Rattle.nrrd_raw.specs.GridFaultWords.{is_header_fault, blame_of}
use Rattle.nrrd_raw.specs.FaultCauses.{cause_of}
use Rattle.nrrd_raw.specs.LineEnds.{first_text}
use Rattle.nrrd_raw.specs.States.{States, AddsLine, HasCause, whole_fault}
use Rattle.nrrd_raw.proofs.LineEndLaws.{Steps, steps, line_bytes-some}

abbrev texts_of : List Line → List (List ℕ)
texts_of ls = map (λ (l : Line). l.text) ls

-- the first lines were read, and none behind the first one has a cause
pub record ReadingOf (texts : List (List ℕ)) (ls : List Line) (bytes : List ℕ) (at n : ℕ) (s : Stated) : Type 0 where
  pub few : n ≤ length texts
  pub left : drop at bytes ≡ flat_map line_bytes (drop n ls)
  pub stated : States s (take n texts)
  pub clean : (j : ℕ) → 1 ≤ j → j < n → line_fault texts j ≡ None

-- what is read of the line at a place
pub record ReadsLine (bytes : List ℕ) (at : ℕ) (text : List ℕ) (next : ℕ) : Type 0 where
  pub text_is : text ≡ first_text (drop at bytes)
  pub next_is : at + position_or_len (nat_eq 10) (drop at bytes) < length bytes → next ≡ at + position_or_len (nat_eq 10) (drop at bytes) + 1

line_count : (texts : List (List ℕ)) (ls : List Line) → texts_of ls ≡ texts ++ [] ∷ [] → length ls ≡ length texts + 1
line_count texts ls e = omega (arith, length-map ls (λ (l : Line). l.text), ap length e, length-append texts ([] ∷ []))

first_of : (texts : List (List ℕ)) → IsTrue (is_first_line (slice_index_or texts 0 [])) → 1 ≤ length texts
first_of [] f = absurd (false≢true f)
first_of (t ∷ ts) f = omega arith

pub reading-begin : (bytes : List ℕ) (texts : List (List ℕ)) (p : HasLines bytes texts []) (text : List ℕ) (next : ℕ) (s : Stated)
    → IsTrue (is_first_line (slice_index_or texts 0 []))
    → ReadsLine bytes 0 text next → ((ts : List (List ℕ)) → length ts ≡ 1 → States s ts) → ReadingOf texts p.lines bytes next 1 s
reading-begin bytes texts p text next s f r h =
    let count = line_count texts p.lines p.read in
    let some = first_of texts f in
    let st = steps bytes p.lines 0 0 text next p.are_lines (omega arith) (p.spelled ∙ append-nil (flat_map line_bytes p.lines)) r.text_is r.next_is in
    record { few = some; left = st.left; stated = h (take 1 texts) (length-take-le 1 texts some); clean = λ j a b. absurd (omega arith) }

-- the text that is read is that of its line; an empty one is the last
reads_text : (texts : List (List ℕ)) (ls : List Line) (n : ℕ) (text : List ℕ) → texts_of ls ≡ texts ++ [] ∷ [] → n ≤ length texts
    → text ≡ slice_index_or (texts_of ls) n []
    → ((n < length texts) × (text ≡ slice_index_or texts n [])) ⊎ ((n ≡ length texts) × (text ≡ []))
reads_text texts ls n text e few t =
    let whole : text ≡ slice_index_or (texts ++ [] ∷ []) n [] = t ∙ ap (λ (us : List (List ℕ)). slice_index_or us n []) e in
    elim (cases_lt n (length texts)) [
      | inl more ↦ inl (more, whole ∙ get_or_append_left texts ([] ∷ []) [] n more)
      | inr end ↦ (let last : n - length texts ≡ 0 = omega arith in
          inr (omega arith, whole ∙ get_or-append_right texts ([] ∷ []) (length texts) n [] refl end ∙ ap (λ (i : ℕ). slice_index_or ([] ∷ []) i []) last))
    ]

filled_text : (texts : List (List ℕ)) (n : ℕ) → AllPass is_filled texts → n < length texts → length (slice_index_or texts n []) ≡ 0 → ⊥
filled_text texts n f l e = false≢true (sym (ap (λ (i : ℕ). not (i == 0)) e) ∙ f n [] l)

some_here : (xs ys : List (Option GridFault)) (x : GridFault) → first_some xs ≡ Some x → first_some (xs ++ ys) ≡ Some x
some_here [] ys x e = absurd (cc)
some_here (None ∷ xs) ys x e = some_here xs ys x e
some_here (Some y ∷ xs) ys x e = e

range_some : (f : ℕ → Option GridFault) (a n i : ℕ) (x : GridFault) → ((j : ℕ) → a ≤ j → j < i → f j ≡ None) → a ≤ i → i < a + n → f i ≡ Some x
    → first_some (map f (range_with_len a n)) ≡ Some x
range_some f a zero i x h l m e = absurd (omega arith)
range_some f a (suc n) i x h l m e = elim (cases_lt a i) [
  | inl more ↦ rw (h a (omega arith) more) (range_some f (a + 1) n i x (λ j p q. h j (omega arith) q) (omega arith) (omega arith) e)
  | inr here ↦ (let same : i ≡ a = omega arith in rw (ap f (sym same) ∙ e) refl)
]

own_fault : (texts : List (List ℕ)) (n : ℕ) (x : GridFault) → ((j : ℕ) → 1 ≤ j → j < n → line_fault texts j ≡ None) → 1 ≤ n → n < length texts
    → line_fault texts n ≡ Some x → lines_fault texts ≡ Some x
unfolding lines_fault
own_fault texts n x clean one more e =
    let own = map (line_fault texts) (range_with_len 1 (length texts - 1)) in
    some_here (own ++ map (missing_fault texts) all_fields) (count_fault texts ∷ []) x
    (some_here own (map (missing_fault texts) all_fields) x (range_some (line_fault texts) 1 (length texts - 1) n x clean one (omega arith) e))

module _ (bytes : List ℕ) (texts : List (List ℕ)) (p : HasLines bytes texts []) (at n : ℕ) (s : Stated) (r : ReadingOf texts p.lines bytes at n s)
    (text : List ℕ) (next : ℕ) (line : ReadsLine bytes at text next) where
  step : Steps bytes p.lines at n text next
  step = steps bytes p.lines at n text next p.are_lines (omega (arith, line_count texts p.lines p.read, r.few)) r.left line.text_is line.next_is

  -- a text that is not empty is one of the lines
  within : 0 < length text → (n < length texts) × (text ≡ slice_index_or texts n [])
  within l = elim (reads_text texts p.lines n text p.read r.few step.same) [
    | inl a ↦ a
    | inr b ↦ absurd (omega (arith, ap length b.1))
  ]

  pub reading-all : length text ≡ 0 → n ≡ length texts
  reading-all e = elim (reads_text texts p.lines n text p.read r.few step.same) [
    | inl a ↦ absurd (filled_text texts n p.filled a.0 (sym (ap length a.1) ∙ e))
    | inr b ↦ b.0
  ]

  line_is : (l : 0 < length text) (number : ℕ) → number ≡ n + 1 → line_fault texts n ≡ content_fault (take n texts) number (content text)
  line_is l number e =
      ap (λ (i : ℕ). content_fault (take n texts) i (content (slice_index_or texts n []))) (sym e)
      ∙ ap (λ (t : List ℕ). content_fault (take n texts) number (content t)) (sym (within l).1)

  pub reading-more : (number : ℕ) (s' : Stated) → 0 < length text → number ≡ n + 1 → AddsLine s s' number (content text)
      → ReadingOf texts p.lines bytes next (n + 1) s'
  reading-more number s' l e h =
      let w = within l in
      let len = length-take-le n texts r.few in
      let both = h (take n texts) text refl r.stated (omega (arith, e, len)) in
      let more : take n texts ++ text ∷ [] ≡ take (n + 1) texts = ap (λ (t : List ℕ). take n texts ++ t ∷ []) w.1 ∙ sym (take_more texts n [] w.0) in
      record {
        few = omega (arith, w.0);
        left = step.left;
        stated = subst (λ (ts : List (List ℕ)). States s' ts) more both.0;
        clean = λ j a b. elim (cases_lt j n) [
          | inl before ↦ r.clean j a before
          | inr here ↦ (let same : n ≡ j = omega arith in subst (λ (i : ℕ). line_fault texts i ≡ None) same (line_is l number e ∙ both.1))
        ];
      }

  pub reading-fault : (number : ℕ) (f : fault.GridFault) (x : GridFault) → 0 < length text → 1 ≤ n → number ≡ n + 1
      → HasCause s number (content text) f → cause_of f ≡ Some x → lines_fault texts ≡ Some x
  reading-fault number f x l one e h c = own_fault texts n x r.clean one (within l).0 (line_is l number e ∙ sym (h (take n texts) r.stated) ∙ c)

pub reading-ended : (bytes : List ℕ) (texts : List (List ℕ)) (p : HasLines bytes texts []) (at n : ℕ) (s : Stated)
    → ReadingOf texts p.lines bytes at n s → length bytes ≤ at → ⊥
reading-ended bytes texts p at n s r l =
    let count = line_count texts p.lines p.read in
    let more : n < length p.lines = omega (arith, count, r.few) in
    let none : [] ≡ flat_map line_bytes (drop n p.lines) = sym (drop_all at bytes l) ∙ r.left in
    let form = none ∙ ap (flat_map line_bytes) (drop_more p.lines n (record { text = []; has_return = false }) more) in
    omega (
      arith,
      ap length form,
      length-append (line_bytes (get_or p.lines n (record { text = []; has_return = false }))) (flat_map line_bytes (drop (n + 1) p.lines)),
      line_bytes-some (get_or p.lines n (record { text = []; has_return = false })),
    )

-- ---- the end of the lines

some_none : (xs ys : List (Option GridFault)) → first_some xs ≡ None → first_some (xs ++ ys) ≡ first_some ys
some_none [] ys e = refl
some_none (None ∷ xs) ys e = some_none xs ys e
some_none (Some x ∷ xs) ys e = absurd (cc)

range_none : (f : ℕ → Option GridFault) (a n : ℕ) → ((i : ℕ) → a ≤ i → i < a + n → f i ≡ None) → first_some (map f (range_with_len a n)) ≡ None
range_none f a zero h = refl
range_none f a (suc n) h = rw (h a (omega arith) (omega arith)) (range_none f (a + 1) n (λ i l m. h i (omega arith) (omega arith)))

pub lines_fault-whole : (texts : List (List ℕ)) → ((j : ℕ) → 1 ≤ j → j < length texts → line_fault texts j ≡ None) → lines_fault texts ≡ whole_fault texts
unfolding lines_fault
lines_fault-whole texts clean =
    let own = map (line_fault texts) (range_with_len 1 (length texts - 1)) in
    ap first_some (append_assoc own (map (missing_fault texts) all_fields) (count_fault texts ∷ []))
    ∙ some_none own (map (missing_fault texts) all_fields ++ count_fault texts ∷ [])
    (range_none (line_fault texts) 1 (length texts - 1) (λ i l m. clean i l (omega arith)))

-- ---- what the code answers behind the last line

-- all lines were read, and none has a cause of its own
pub record IsDone (texts : List (List ℕ)) (s : Stated) : Type 0 where
  pub stated : States s texts
  pub clean : (j : ℕ) → 1 ≤ j → j < length texts → line_fault texts j ≡ None

pub reading-done : (texts : List (List ℕ)) (ls : List Line) (bytes : List ℕ) (at n : ℕ) (s : Stated) → ReadingOf texts ls bytes at n s
    → n ≡ length texts → IsDone texts s
reading-done texts ls bytes at n s r e = record {
  stated = subst (λ (ts : List (List ℕ)). States s ts) (take_all n texts (omega arith)) r.stated;
  clean = λ j a b. r.clean j a (omega arith);
}

abbrev Done : List ℕ → Stated → Type 0
Done bytes s = (texts : List (List ℕ)) → HasLines bytes texts [] → IsTrue (is_first_line (slice_index_or texts 0 [])) → IsDone texts s

pub answers-spelled : (r : Result Header fault.GridFault) (bytes : List ℕ) (s : Stated) → Done bytes s
    → IfOk r (λ h. (texts : List (List ℕ)) → States s texts → whole_fault texts ≡ None)
    → IfOk r
    (λ h.
    (texts : List (List ℕ)) → States s texts → AllPass is_sound_line (drop 1 texts) → IsTrue (is_first_line (slice_index_or texts 0 []))
    → SpellHeader texts h)
    → IfOk r (λ h. (texts : List (List ℕ)) → HasLines bytes texts [] → IsTrue (is_first_line (slice_index_or texts 0 [])) → SpellHeader texts h)
answers-spelled (Err e) bytes s d w h = tt
answers-spelled (Ok k) bytes s d w h = λ texts p f.
    let done = d texts p f in
    let none : lines_fault texts ≡ None = lines_fault-whole texts done.clean ∙ w texts done.stated in
    h texts done.stated (header_of_lines texts f none).1.between f

pub answers-cause : (r : Result Header fault.GridFault) (bytes : List ℕ) (s : Stated) → Done bytes s
    → IfErr r (λ k. (texts : List (List ℕ)) → States s texts → cause_of k ≡ whole_fault texts)
    → IfErr r (λ k. (texts : List (List ℕ)) → HasLines bytes texts [] → IsTrue (is_first_line (slice_index_or texts 0 [])) → lines_fault texts ≡ cause_of k)
answers-cause (Ok h) bytes s d w = tt
answers-cause (Err k) bytes s d w = λ texts p f. let done = d texts p f in lines_fault-whole texts done.clean ∙ sym (w texts done.stated)

-- a cause of a header's form is one of the definition
pub form_cause : (f : fault.GridFault) → IsTrue (is_header_fault f) → IsNone (blame_of f) → (x : GridFault) × (cause_of f ≡ Some x)
form_cause (variant.TooLarge n) h s = absurd (false≢true h)
form_cause (variant.DataShort n) h s = absurd (false≢true h)
form_cause variant.Trailing h s = absurd (false≢true h)
form_cause variant.Memory h s = absurd (false≢true h)
form_cause (variant.Shelf n) h s = absurd (false≢true (sym s))
form_cause variant.Magic h s = (_, refl)
form_cause variant.HeaderLong h s = (_, refl)
form_cause variant.HeaderEnd h s = (_, refl)
form_cause (variant.Line n) h s = (_, refl)
form_cause (variant.Repeated n) h s = (_, refl)
form_cause (variant.SampleType n) h s = (_, refl)
form_cause (variant.Dimension n) h s = (_, refl)
form_cause (variant.Sizes n) h s = (_, refl)
form_cause (variant.Encoding n) h s = (_, refl)
form_cause (variant.Endian n) h s = (_, refl)
form_cause (variant.Skip n) h s = (_, refl)
form_cause (variant.Detached n) h s = (_, refl)
form_cause (variant.Missing k) h s = (_, refl)
