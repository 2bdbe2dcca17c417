-- Lines without a cause spell a header.
use Rattle.std.specs.Prelude.{unwrap_or, ◌≡◌, ◌⊎◌, ℕ, zero, suc, ◌+◌, ◌-◌, ◌<◌, ◌≤◌, Bool, true, false, not, ◌&&◌, ◌==◌, nat_lt, List, [], ◌∷◌, ◌++◌}
use Rattle.std.specs.Prelude.{map, filter_map, length, take, drop, slice_index_or, Option, Some, None, is_some, if◌then◌else◌}
use Rattle.std.specs.List.{range_with_len, AllPass, cons_option}
use Rattle.std.specs.Option.{option_map_or}
use Rattle.std.proofs.Common.{refl, sym, ap, ◌∙◌, subst, arith, inl, inr}
use Rattle.std.proofs.lemmas.Bool.{false≢true}
use Rattle.std.proofs.lemmas.Bool.Decides.{nat_tests}
use Rattle.std.proofs.lemmas.Slice.Eq.{bytes_eq-Decides}
use Rattle.iso_formats.specs.declared.Field.{Field}
use Rattle.iso_formats.specs.declared.Field.TheVariants.{SampleType, Dimension, Sizes, Encoding, Endian}
use Rattle.lists.specs.Orders.{same_list}
use Rattle.iso_formats.specs.HeaderLines.{Sample, sample_of, dimension_of, sizes_of, big_endian_of, is_raw, is_first_line, Content, passed_over}
use Rattle.iso_formats.specs.HeaderLines.{named_field, unreadable, content, value_if, values, first_some, field_name, is_empty, is_taken, is_zero}
use Rattle.iso_formats.specs.HeaderLines.{is_among, skip_names, data_file_names}
use Rattle.iso_formats.specs.GridFile.{Header, SpellHeader, is_sound_content, is_sound_line}
use Rattle.iso_formats.specs.GridFaults.{GridFault, read_fault, wrong_sizes, line_of, first_value, stated_sample, missing_field, is_needed}
use Rattle.iso_formats.specs.GridFaults.{lines_fault, line_fault, content_fault, missing_fault, count_fault, all_fields}
use Rattle.std.proofs.lemmas.Option.{same_Some}
use Rattle.lists.proofs.Tests.{equal_of}
use Rattle.lists.proofs.Contained.{any_default}
use Rattle.lists.proofs.MemberLaws.{same_head}

-- ---- the first of a list of options

pub first_some-left : {X : Type 0} (xs ys : List (Option X)) → first_some (xs ++ ys) ≡ None → first_some xs ≡ None
first_some-left [] ys e = refl
first_some-left (None ∷ xs) ys e = first_some-left xs ys e
first_some-left (Some x ∷ xs) ys e = e

pub first_some-right : {X : Type 0} (xs ys : List (Option X)) → first_some (xs ++ ys) ≡ None → first_some ys ≡ None
first_some-right [] ys e = e
first_some-right (None ∷ xs) ys e = first_some-right xs ys e
first_some-right {X} (Some x ∷ xs) ys e = absurd (cc)

head_none : {X : Type 0} (o : Option X) (os : List (Option X)) → first_some (o ∷ os) ≡ None → (o ≡ None) × (first_some os ≡ None)
head_none None os e = (refl, e)
head_none (Some x) os e = absurd (cc)

pub first_some-range : {X : Type 0} (f : ℕ → Option X) (a n i : ℕ) → first_some (map f (range_with_len a n)) ≡ None → a ≤ i → i < a + n → f i ≡ None
first_some-range f a zero i e l h = absurd (omega arith)
first_some-range {X} f a (suc n) i e l h =
    let p = head_none (f a) (map f (range_with_len (a + 1) n)) e in
    elim (cases_of a i l) [
      | inl same ↦ subst (λ (k : ℕ). f k ≡ None) same p.0
      | inr more ↦ first_some-range f (a + 1) n i p.1 (omega arith) (omega arith)
    ]
  where
    cases_of : (a i : ℕ) → a ≤ i → (a ≡ i) ⊎ (a < i)
    cases_of a i l = grind (arith, nat_tests)

-- ---- one line

sound_cases : (skips zero_value data_file : Bool) (r w : GridFault) (o : Option GridFault)
    → (if skips then (if zero_value then None else Some r) else if data_file then Some w else o) ≡ None
    → (if skips then zero_value else not data_file) ≡ true
sound_cases true true d r w o e = refl
sound_cases true false d r w o e = absurd (cc)
sound_cases false z true r w o e = absurd (cc)
sound_cases false z false r w o e = refl

sound_content : (earlier : List (List ℕ)) (n : ℕ) (c : Content) → content_fault earlier n c ≡ None → is_sound_content c ≡ true
sound_content earlier n passed_over e = refl
sound_content earlier n unreadable e = absurd (cc)
sound_content earlier n (named_field name value) e = sound_cases (is_among skip_names name) (is_zero value) (is_among data_file_names name) _ _ _ e

clean_cases : (first taken : Bool) (r w : GridFault) (os : List (Option GridFault))
    → first_some ((if not first then Some r else if taken then None else Some w) ∷ os) ≡ None → (first ≡ true) × (taken ≡ true)
clean_cases true true r w os e = (refl, refl)
clean_cases true false r w os e = absurd (cc)
clean_cases false t r w os e = absurd (cc)

-- a field that is read, on a line without a cause, stands there first, and its value is taken
clean_field : (f : Field) (earlier : List (List ℕ)) (n : ℕ) (value : List ℕ) → content_fault earlier n (named_field (field_name f) value) ≡ None
    → (is_empty (values (field_name f) earlier) ≡ true) × (is_taken f value ≡ true)
clean_field SampleType earlier n value e = clean_cases (is_empty (values (field_name SampleType) earlier)) (is_taken SampleType value) _ _ _ e
clean_field Dimension earlier n value e = clean_cases (is_empty (values (field_name Dimension) earlier)) (is_taken Dimension value) _ _ _ e
clean_field Sizes earlier n value e = clean_cases (is_empty (values (field_name Sizes) earlier)) (is_taken Sizes value) _ _ _ e
clean_field Encoding earlier n value e = clean_cases (is_empty (values (field_name Encoding) earlier)) (is_taken Encoding value) _ _ _ e
clean_field Endian earlier n value e = clean_cases (is_empty (values (field_name Endian) earlier)) (is_taken Endian value) _ _ _ e

named_cases : (name n value v : List ℕ) (same : Bool) → (same ≡ true → n ≡ name) → (if same then Some value else None) ≡ Some v → (n ≡ name) × (value ≡ v)
named_cases name n value v true s e = (s refl, cc)
named_cases name n value v false s e = absurd (cc)

clean_content : (f : Field) (earlier : List (List ℕ)) (n : ℕ) (c : Content) (v : List ℕ) → content_fault earlier n c ≡ None → value_if (field_name f) c ≡ Some v
    → (is_empty (values (field_name f) earlier) ≡ true) × (is_taken f v ≡ true)
clean_content f earlier n passed_over v e s = absurd (cc)
clean_content f earlier n unreadable v e s = absurd (cc)
clean_content f earlier n (named_field name value) v e s =
    let k = named_cases (field_name f) name value v (same_list name (field_name f)) ((bytes_eq-Decides name (field_name f)).0) s in
    clean_field f earlier n v
    (subst (λ (w : List ℕ). content_fault earlier n (named_field (field_name f) w) ≡ None) k.1
    (subst (λ (m : List ℕ). content_fault earlier n (named_field m value) ≡ None) k.0 e))

-- ---- all lines

empty_not : {V : Type 0} (v : V) (vs : List V) → is_empty (v ∷ vs) ≡ true → ⊥
empty_not {V} v vs e = absurd (omega (arith, equal_of (length (v ∷ vs)) 0 e))
  where
    equal_of : (a b : ℕ) → (a == b) ≡ true → a ≡ b
    equal_of a b e = grind (arith, nat_tests)

module _ {X V : Type 0} (g : X → Option V) (default : X) where
  none_cases : (x : X) (xs : List X) (o : Option V) → g x ≡ o → (o ≡ None) → filter_map g xs ≡ [] → cons_option o (filter_map g xs) ≡ []
  none_cases x xs None e n r = r
  none_cases x xs (Some v) e n r = absurd (cc)

  not_some : (o : Option V) → ((v : V) → o ≡ Some v → ⊥) → o ≡ None
  not_some None h = refl
  not_some (Some v) h = absurd (h v refl)

  pub filter_map-none : (xs : List X) → ((j : ℕ) (v : V) → j < length xs → g (slice_index_or xs j default) ≡ Some v → ⊥) → filter_map g xs ≡ []
  filter_map-none [] h = refl
  filter_map-none (x ∷ xs) h =
      none_cases x xs (g x) refl (not_some (g x) (λ v e. h 0 v (omega arith) e)) (filter_map-none xs (λ j v l e. h (suc j) v (omega arith) e))

-- each value is taken and stands behind no other
abbrev OnceBefore : {X V : Type 0} → (X → Option V) → X → (V → Bool) → List X → Type 0
OnceBefore {X} {V} g default taken xs =
    (j : ℕ) (v : V) → j < length xs → g (slice_index_or xs j default) ≡ Some v → (is_empty (filter_map g (take j xs)) ≡ true) × (taken v ≡ true)

abbrev AtMostOne : {V : Type 0} → (V → Bool) → List V → Type 0
AtMostOne {V} taken vs = (vs ≡ []) ⊎ ((v : V) × (vs ≡ v ∷ []) × (taken v ≡ true))

once_cases : {X V : Type 0} (g : X → Option V) (default : X) (taken : V → Bool) (x : X) (xs : List X) → OnceBefore g default taken (x ∷ xs)
    → (OnceBefore g default taken xs → AtMostOne taken (filter_map g xs)) → (o : Option V) → g x ≡ o → AtMostOne taken (cons_option o (filter_map g xs))
once_cases {X} {V} g default taken x xs once later None e =
    later (λ j v l s. let p = once (suc j) v (omega arith) s in
    (subst (λ (o : Option V). is_empty (cons_option o (filter_map g (take j xs))) ≡ true) e p.0, p.1))
once_cases {X} {V} g default taken x xs once later (Some v) e =
    inr (
      v,
      ap (λ (vs : List V). v ∷ vs) (filter_map-none g default xs (λ j w l s.
          empty_not v (filter_map g (take j xs))
          (subst (λ (o : Option V). is_empty (cons_option o (filter_map g (take j xs))) ≡ true) e ((once (suc j) w (omega arith) s).0)))),
      (once 0 v (omega arith) e).1,
    )

pub filter_map-once : {X V : Type 0} (g : X → Option V) (default : X) (taken : V → Bool) (xs : List X) → OnceBefore g default taken xs
    → AtMostOne taken (filter_map g xs)
filter_map-once g default taken [] once = inl refl
filter_map-once g default taken (x ∷ xs) once = once_cases g default taken x xs once (filter_map-once g default taken xs) (g x) refl

-- ---- the header that lines without a cause spell

some_of : {X : Type 0} (o : Option X) → is_some o ≡ true → (x : X) × (o ≡ Some x)
some_of (Some x) e = (x, refl)
some_of {X} None e = absurd (false≢true e)

abbrev own_faults : List (List ℕ) → List (Option GridFault)
own_faults texts = map (line_fault texts) (range_with_len 1 (length texts - 1))

abbrev missing_faults : List (List ℕ) → List (Option GridFault)
missing_faults texts = map (missing_fault texts) all_fields

own_none : (texts : List (List ℕ)) → lines_fault texts ≡ None → first_some (own_faults texts) ≡ None
unfolding lines_fault
own_none texts e =
    first_some-left (own_faults texts) (missing_faults texts) (first_some-left (own_faults texts ++ missing_faults texts) (count_fault texts ∷ []) e)

missing_none : (texts : List (List ℕ)) → lines_fault texts ≡ None → first_some (missing_faults texts) ≡ None
unfolding lines_fault
missing_none texts e =
    first_some-right (own_faults texts) (missing_faults texts) (first_some-left (own_faults texts ++ missing_faults texts) (count_fault texts ∷ []) e)

count_none : (texts : List (List ℕ)) → lines_fault texts ≡ None → count_fault texts ≡ None
unfolding lines_fault
count_none texts e = (head_none (count_fault texts) [] (first_some-right (own_faults texts ++ missing_faults texts) (count_fault texts ∷ []) e)).0

-- each line behind the first has no cause
line_none : (first : List ℕ) (rest : List (List ℕ)) → lines_fault (first ∷ rest) ≡ None → (j : ℕ) → j < length rest → line_fault (first ∷ rest) (suc j) ≡ None
line_none first rest e j l =
    first_some-range (line_fault (first ∷ rest)) 1 (length (first ∷ rest) - 1) (suc j) (own_none (first ∷ rest) e) (omega arith) (omega arith)

-- the values of a field are none, or one that is taken
one_value : (first : List ℕ) (rest : List (List ℕ)) → lines_fault (first ∷ rest) ≡ None → (f : Field)
    → AtMostOne (is_taken f) (values (field_name f) (first ∷ rest))
one_value first rest e f =
    filter_map-once (λ text. value_if (field_name f) (content text)) [] (is_taken f) rest
    (λ j v l s. clean_content f (first ∷ take j rest) (suc j + 1) (content (slice_index_or rest j [])) v (line_none first rest e j l) s)

-- a field that is needed is there
is_there : (texts : List (List ℕ)) (f : Field) → missing_fault texts f ≡ None → is_needed texts f ≡ true → AtMostOne (is_taken f) (values (field_name f) texts)
    → (v : List ℕ) × (values (field_name f) texts ≡ v ∷ []) × (is_taken f v ≡ true)
is_there texts f m n (inr r) = r
is_there texts f m n (inl none) =
    let given = subst (λ (vs : List (List ℕ)). (if is_empty vs && is_needed texts f then Some (missing_field f) else None) ≡ None) none m in
    absurd (wanted (is_needed texts f) n given)
  where
    wanted : (b : Bool) → b ≡ true → (if b then Some (missing_field f) else None) ≡ None → ⊥
    wanted true n e = cc
    wanted false n e = false≢true n

wide_cases : (a b c d e f : Bool) (s : Sample)
    → first_some ((if a then Some (record { width = 1; signed = true }) else None) ∷ (if b then Some (record { width = 1; signed = false }) else None)
    ∷ (if c then Some (record { width = 2; signed = true }) else None) ∷ (if d then Some (record { width = 2; signed = false }) else None)
    ∷ (if e then Some (record { width = 4; signed = true }) else None) ∷ (if f then Some (record { width = 4; signed = false }) else None) ∷ []) ≡ Some s
    → 1 ≤ s.width
wide_cases true b c d e f s h = omega (arith, ap (λ (o : Option Sample). option_map_or (λ (t : Sample). t.width) o 0) h)
wide_cases false true c d e f s h = omega (arith, ap (λ (o : Option Sample). option_map_or (λ (t : Sample). t.width) o 0) h)
wide_cases false false true d e f s h = omega (arith, ap (λ (o : Option Sample). option_map_or (λ (t : Sample). t.width) o 0) h)
wide_cases false false false true e f s h = omega (arith, ap (λ (o : Option Sample). option_map_or (λ (t : Sample). t.width) o 0) h)
wide_cases false false false false true f s h = omega (arith, ap (λ (o : Option Sample). option_map_or (λ (t : Sample). t.width) o 0) h)
wide_cases false false false false false true s h = omega (arith, ap (λ (o : Option Sample). option_map_or (λ (t : Sample). t.width) o 0) h)
wide_cases false false false false false false s h = absurd (cc)

then_none : {X : Type 0} (b : Bool) (x : X) → (if b then None else Some x) ≡ None → b ≡ true
then_none true x e = refl
then_none false x e = absurd (cc)

narrow : (w : ℕ) (b : Bool) → nat_lt 1 w ≡ b → 1 ≤ w → (b ≡ true → ⊥) → w ≡ 1
narrow w true e l n = absurd (n refl)
narrow w false e l n = grind (arith, nat_tests)

wanted : (b : Bool) (f : Field) → b ≡ true → (if b then Some (missing_field f) else None) ≡ None → ⊥
wanted true f n e = cc
wanted false f n e = false≢true n

module _ (texts : List (List ℕ)) (s : Sample) (d : ℕ) (ns : List ℕ) where
  count_is : (vd vz : List ℕ) → values (field_name Dimension) texts ≡ vd ∷ [] → dimension_of vd ≡ Some d → values (field_name Sizes) texts ≡ vz ∷ []
      → sizes_of vz ≡ Some ns
      → count_fault texts ≡ None → d ≡ length ns
  count_is vd vz ed sd ez sz count =
      let a : dimension_of (first_value Dimension texts) ≡ Some d = ap (λ (vs : List (List ℕ)). dimension_of (slice_index_or vs 0 [])) ed ∙ sd in
      let b : sizes_of (first_value Sizes texts) ≡ Some ns = ap (λ (vs : List (List ℕ)). sizes_of (slice_index_or vs 0 [])) ez ∙ sz in
      let r : GridFault = wrong_sizes (line_of (field_name Sizes) texts) in
      let g =
      subst
      (λ (o : Option ℕ).
      (if option_map_or (λ d. option_map_or (λ (ns : List ℕ). length ns == d) (sizes_of (first_value Sizes texts)) true) o true then None
      else Some r)
      ≡ None)
      a count in
      let g' = subst (λ (o : Option (List ℕ)). (if option_map_or (λ (ns : List ℕ). length ns == d) o true then None else Some r) ≡ None) b g in
      sym (equal_of (length ns) d (then_none (length ns == d) r g'))

  one_byte : (vt : List ℕ) → values (field_name SampleType) texts ≡ vt ∷ [] → sample_of vt ≡ Some s → missing_fault texts Endian ≡ None
      → values (field_name Endian) texts ≡ [] → s.width ≡ 1
  one_byte vt et st m none =
      let a : stated_sample texts ≡ Some s = ap (λ (vs : List (List ℕ)). sample_of (slice_index_or vs 0 [])) et ∙ st in
      let needed : is_needed texts Endian ≡ nat_lt 1 s.width = ap (λ (o : Option Sample). option_map_or (λ (t : Sample). nat_lt 1 t.width) o false) a in
      let given = subst (λ (vs : List (List ℕ)). (if is_empty vs && is_needed texts Endian then Some (missing_field Endian) else None) ≡ None) none m in
      narrow s.width (nat_lt 1 s.width) refl (wide_cases _ _ _ _ _ _ s st) (λ t. wanted (is_needed texts Endian) Endian (needed ∙ t) given)

  header_of : (vt vd vz vc : List ℕ) → is_first_line (slice_index_or texts 0 []) ≡ true → AllPass is_sound_line (drop 1 texts)
      → values (field_name SampleType) texts ≡ vt ∷ [] → sample_of vt ≡ Some s → values (field_name Dimension) texts ≡ vd ∷ [] → dimension_of vd ≡ Some d
      → values (field_name Sizes) texts ≡ vz ∷ [] → sizes_of vz ≡ Some ns → values (field_name Encoding) texts ≡ vc ∷ [] → is_raw vc ≡ true
      → count_fault texts ≡ None → missing_fault texts Endian ≡ None → AtMostOne (is_taken Endian) (values (field_name Endian) texts)
      → (h : Header) × SpellHeader texts h
  header_of vt vd vz vc f between et st ed sd ez sz ec raw count m (inl none) =
      let one = one_byte vt et st m none in (
        record { sizes = ns; width = s.width; signed = s.signed; big = false },
        record {
          first = f;
          between = between;
          sample_type = (vt, et, st);
          dimension = (vd, ed, sd ∙ ap Some (count_is vd vz ed sd ez sz count));
          sizes = (vz, ez, sz);
          encoding = (vc, ec, raw);
          endian = inl (none, one, refl);
        },
      )
  header_of vt vd vz vc f between et st ed sd ez sz ec raw count m (inr v) =
      let b = some_of (big_endian_of v.0) v.2 in (
        record { sizes = ns; width = s.width; signed = s.signed; big = nat_lt 1 s.width && b.0 },
        record {
          first = f;
          between = between;
          sample_type = (vt, et, st);
          dimension = (vd, ed, sd ∙ ap Some (count_is vd vz ed sd ez sz count));
          sizes = (vz, ez, sz);
          encoding = (vc, ec, raw);
          endian = inr (v.0, b.0, v.1, b.1, refl);
        },
      )

-- lines without a cause, behind a right first line, spell a header
pub header_of_lines : (texts : List (List ℕ)) → is_first_line (slice_index_or texts 0 []) ≡ true → lines_fault texts ≡ None → (h : Header) × SpellHeader texts h
header_of_lines [] f e = absurd (false≢true f)
header_of_lines (first ∷ rest) f e =
    let m0 = head_none _ _ (missing_none (first ∷ rest) e) in
    let m1 = head_none _ _ m0.1 in
    let m2 = head_none _ _ m1.1 in
    let m3 = head_none _ _ m2.1 in
    let t = is_there (first ∷ rest) SampleType m0.0 refl (one_value first rest e SampleType) in
    let d = is_there (first ∷ rest) Dimension m1.0 refl (one_value first rest e Dimension) in
    let z = is_there (first ∷ rest) Sizes m2.0 refl (one_value first rest e Sizes) in
    let c = is_there (first ∷ rest) Encoding m3.0 refl (one_value first rest e Encoding) in
    let s = some_of (sample_of t.0) t.2 in
    let n = some_of (dimension_of d.0) d.2 in
    let ns = some_of (sizes_of z.0) z.2 in
    header_of (first ∷ rest) s.0 n.0 ns.0 t.0 d.0 z.0 c.0 f
    (λ k default l. subst (λ (text : List ℕ). is_sound_line text ≡ true) (any_default rest k [] default l)
    (sound_content (first ∷ take k rest) (suc k + 1) (content (slice_index_or rest k [])) (line_none first rest e k l)))
    t.1 s.1 d.1 n.1 z.1 ns.1 c.1 c.2 (count_none (first ∷ rest) e) (head_none (missing_fault (first ∷ rest) Endian) [] m3.1).0 (one_value first rest e Endian)

-- ---- lines that spell a header have no cause

first_some-append : {X : Type 0} (xs ys : List (Option X)) → first_some xs ≡ None → first_some ys ≡ None → first_some (xs ++ ys) ≡ None
first_some-append [] ys a b = b
first_some-append (None ∷ xs) ys a b = first_some-append xs ys a b
first_some-append (Some x ∷ xs) ys a b = a

first_some-cons : {X : Type 0} (o : Option X) (os : List (Option X)) → o ≡ None → first_some os ≡ None → first_some (o ∷ os) ≡ None
first_some-cons None os a b = b
first_some-cons (Some x) os a b = a

first_some-range_none : {X : Type 0} (f : ℕ → Option X) (a n : ℕ) → ((i : ℕ) → a ≤ i → i < a + n → f i ≡ None) → first_some (map f (range_with_len a n)) ≡ None
first_some-range_none f a zero h = refl
first_some-range_none f a (suc n) h =
    first_some-cons (f a) (map f (range_with_len (a + 1) n)) (h a (omega arith) (omega arith))
    (first_some-range_none f (a + 1) n (λ i l m. h i (omega arith) (omega arith)))

read_cases : (same first taken : Bool) (r w : GridFault) → (same ≡ true → (first ≡ true) × (taken ≡ true))
    → (if not same then None else if not first then Some r else if taken then None else Some w) ≡ None
read_cases false first taken r w h = refl
read_cases true true true r w h = refl
read_cases true false taken r w h = absurd (false≢true (h refl).0)
read_cases true true false r w h = absurd (false≢true (h refl).1)

content_cases : (skips zero_value data_file : Bool) (r w : GridFault) (o : Option GridFault) → (if skips then zero_value else not data_file) ≡ true → o ≡ None
    → (if skips then (if zero_value then None else Some r) else if data_file then Some w else o) ≡ None
content_cases true true d r w o s n = refl
content_cases true false d r w o s n = absurd (false≢true s)
content_cases false z true r w o s n = absurd (false≢true s)
content_cases false z false r w o s n = n

-- what the lines before a line leave for its fields
abbrev Allows : List (List ℕ) → Content → Type 0
Allows earlier c = (f : Field) (v : List ℕ) → value_if (field_name f) c ≡ Some v → (is_empty (values (field_name f) earlier) ≡ true) × (is_taken f v ≡ true)

content_none : (earlier : List (List ℕ)) (n : ℕ) (c : Content) → is_sound_content c ≡ true → Allows earlier c → content_fault earlier n c ≡ None
content_none earlier n passed_over s h = refl
content_none earlier n unreadable s h = absurd (false≢true s)
content_none earlier n (named_field name value) s h =
    content_cases (is_among skip_names name) (is_zero value) (is_among data_file_names name) _ _ _ s
    (first_some-cons _ _ (read SampleType)
    (first_some-cons _ _ (read Dimension)
    (first_some-cons _ _ (read Sizes) (first_some-cons _ _ (read Encoding) (first_some-cons _ _ (read Endian) refl)))))
  where
    read : (f : Field) → read_fault earlier n name value f ≡ None
    read f = read_cases (same_list name (field_name f)) (is_empty (values (field_name f) earlier)) (is_taken f value) _ _
        (λ same. h f value (ap (λ (b : Bool). if b then Some value else None) same))

module _ {X V : Type 0} (g : X → Option V) (default : X) where
  no_member_cases : (xs : List X) (o : Option V) → cons_option o (filter_map g xs) ≡ [] → (o ≡ None) × (filter_map g xs ≡ [])
  no_member_cases xs None e = (refl, e)
  no_member_cases xs (Some v) e = absurd (cc)

  pub no_member : (xs : List X) → filter_map g xs ≡ [] → (j : ℕ) (w : V) → j < length xs → g (slice_index_or xs j default) ≡ Some w → ⊥
  no_member [] e j w l s = absurd (omega arith)
  no_member (x ∷ xs) e zero w l s = let n = (no_member_cases xs (g x) e).0 in cc
  no_member (x ∷ xs) e (suc j) w l s = no_member xs (no_member_cases xs (g x) e).1 j w (omega arith) s

-- the one member of a list that gives something has nothing before it
abbrev IsOnly : {X V : Type 0} → (X → Option V) → X → List X → V → Type 0
IsOnly {X} {V} g default xs v =
    (j : ℕ) (w : V) → j < length xs → g (slice_index_or xs j default) ≡ Some w → (is_empty (filter_map g (take j xs)) ≡ true) × (w ≡ v)

only_cases : {X V : Type 0} (g : X → Option V) (default : X) (x : X) (xs : List X) (v : V) → (filter_map g xs ≡ v ∷ [] → IsOnly g default xs v)
    → (o : Option V) → g x ≡ o → cons_option o (filter_map g xs) ≡ v ∷ [] → IsOnly g default (x ∷ xs) v
only_cases g default x xs v later None e r zero w l s = absurd (cc)
only_cases {X} {V} g default x xs v later None e r (suc j) w l s =
    let p = later r j w (omega arith) s in
    (subst (λ (o : Option V). is_empty (cons_option o (filter_map g (take j xs))) ≡ true) (sym e) p.0, p.1)
only_cases g default x xs v later (Some u) e r zero w l s = (refl, cc)
only_cases {X} {V} g default x xs v later (Some u) e r (suc j) w l s =
    absurd (no_member g default xs (ap (λ (vs : List V). drop 1 vs) r) j w (omega arith) s)

pub only_member : {X V : Type 0} (g : X → Option V) (default : X) (xs : List X) (v : V) → filter_map g xs ≡ v ∷ [] → IsOnly g default xs v
only_member g default [] v e = absurd (cc)
only_member g default (x ∷ xs) v e = only_cases g default x xs v (only_member g default xs v) (g x) refl e

-- every field has at most one value, which is taken
field_values : (texts : List (List ℕ)) (h : Header) → SpellHeader texts h → (f : Field) → AtMostOne (is_taken f) (values (field_name f) texts)
field_values texts h s SampleType = inr (s.sample_type.0, s.sample_type.1, ap (λ (o : Option Sample). is_some o) s.sample_type.2)
field_values texts h s Dimension = inr (s.dimension.0, s.dimension.1, ap (λ (o : Option ℕ). is_some o) s.dimension.2)
field_values texts h s Sizes = inr (s.sizes.0, s.sizes.1, ap (λ (o : Option (List ℕ)). is_some o) s.sizes.2)
field_values texts h s Encoding = inr s.encoding
field_values texts h s Endian = elim s.endian as (λ _. AtMostOne (is_taken Endian) (values (field_name Endian) texts)) [
  | inl a ↦ inl a.0
  | inr b ↦ inr (b.0, b.2, ap (λ (o : Option Bool). is_some o) b.3)
]

allows_cases : (f : Field) (first : List ℕ) (rest : List (List ℕ)) (j : ℕ) (v : List ℕ) → j < length rest
    → value_if (field_name f) (content (slice_index_or rest j [])) ≡ Some v
    → AtMostOne (is_taken f) (values (field_name f) (first ∷ rest)) → (is_empty (values (field_name f) (first ∷ take j rest)) ≡ true) × (is_taken f v ≡ true)
allows_cases f first rest j v l e (inl none) = absurd (no_member (λ text. value_if (field_name f) (content text)) [] rest none j v l e)
allows_cases f first rest j v l e (inr one) =
    let p = only_member (λ text. value_if (field_name f) (content text)) [] rest one.0 one.1 j v l e in
    (p.0, subst (λ (w : List ℕ). is_taken f w ≡ true) (sym p.1) one.2)

pub present_none : (texts : List (List ℕ)) (f : Field) (v : List ℕ) → values (field_name f) texts ≡ v ∷ [] → missing_fault texts f ≡ None
present_none texts f v e = subst (λ (vs : List (List ℕ)). (if is_empty vs && is_needed texts f then Some (missing_field f) else None) ≡ None) (sym e) refl

endian_none : (texts : List (List ℕ)) (h : Header) → SpellHeader texts h → missing_fault texts Endian ≡ None
endian_none texts h s = elim s.endian as (λ _. missing_fault texts Endian ≡ None) [
  | inl a ↦ (let known : stated_sample texts ≡ Some (record { width = h.width; signed = h.signed }) =
      ap (λ (vs : List (List ℕ)). sample_of (slice_index_or vs 0 [])) s.sample_type.1 ∙ s.sample_type.2 in
      let needed : is_needed texts Endian ≡ false =
      ap (λ (o : Option Sample). option_map_or (λ (t : Sample). nat_lt 1 t.width) o false) known ∙ ap (λ (w : ℕ). nat_lt 1 w) a.1 in
      subst (λ (vs : List (List ℕ)). (if is_empty vs && is_needed texts Endian then Some (missing_field Endian) else None) ≡ None) (sym a.0)
      (subst (λ (b : Bool). (if b then Some (missing_field Endian) else None) ≡ None) (sym needed) refl))
  | inr b ↦ present_none texts Endian b.0 b.2
]

equal_refl : (n : ℕ) → (n == n) ≡ true
equal_refl n = grind (arith, nat_tests)

counted_none : (texts : List (List ℕ)) (h : Header) → SpellHeader texts h → count_fault texts ≡ None
counted_none texts h s =
    let a : dimension_of (first_value Dimension texts) ≡ Some (length h.sizes) =
    ap (λ (vs : List (List ℕ)). dimension_of (slice_index_or vs 0 [])) s.dimension.1 ∙ s.dimension.2 in
    let b : sizes_of (first_value Sizes texts) ≡ Some h.sizes = ap (λ (vs : List (List ℕ)). sizes_of (slice_index_or vs 0 [])) s.sizes.1 ∙ s.sizes.2 in
    let r : GridFault = wrong_sizes (line_of (field_name Sizes) texts) in
    subst
    (λ (o : Option ℕ).
    (if option_map_or (λ d. option_map_or (λ (ns : List ℕ). length ns == d) (sizes_of (first_value Sizes texts)) true) o true then None else
    Some r)
    ≡ None)
    (sym a)
    (subst (λ (o : Option (List ℕ)). (if option_map_or (λ (ns : List ℕ). length ns == length h.sizes) o true then None else Some r) ≡ None) (sym b)
    (subst (λ (b : Bool). (if b then None else Some r) ≡ None) (sym (equal_refl (length h.sizes))) refl))

-- lines that spell a header have no cause
pub lines_fault-none : (texts : List (List ℕ)) (h : Header) → SpellHeader texts h → lines_fault texts ≡ None
unfolding lines_fault
lines_fault-none [] h s = absurd (false≢true s.first)
lines_fault-none (first ∷ rest) h s =
    first_some-append (own_faults (first ∷ rest) ++ missing_faults (first ∷ rest)) (count_fault (first ∷ rest) ∷ [])
    (first_some-append (own_faults (first ∷ rest)) (missing_faults (first ∷ rest))
    (first_some-range_none (line_fault (first ∷ rest)) 1 (length (first ∷ rest) - 1) own)
    (first_some-cons _ _ (present_none (first ∷ rest) SampleType s.sample_type.0 s.sample_type.1)
    (first_some-cons _ _ (present_none (first ∷ rest) Dimension s.dimension.0 s.dimension.1)
    (first_some-cons _ _ (present_none (first ∷ rest) Sizes s.sizes.0 s.sizes.1)
    (first_some-cons _ _ (present_none (first ∷ rest) Encoding s.encoding.0 s.encoding.1)
    (first_some-cons _ _ (endian_none (first ∷ rest) h s) refl))))))
    (first_some-cons _ _ (counted_none (first ∷ rest) h s) refl)
  where
    own : (i : ℕ) → 1 ≤ i → i < 1 + (length (first ∷ rest) - 1) → line_fault (first ∷ rest) i ≡ None
    own zero l m = absurd (omega arith)
    own (suc j) l m =
        content_none (first ∷ take j rest) (suc j + 1) (content (slice_index_or rest j [])) (s.between j [] (omega arith))
        (λ f v e. allows_cases f first rest j v (omega arith) e (field_values (first ∷ rest) h s f))

-- ---- lines spell one header

-- what two values of one field are read as
same_read : {Y : Type 0} (read : List ℕ → Option Y) (vs : List (List ℕ)) (a b : List ℕ) (x y : Y) → vs ≡ a ∷ [] → vs ≡ b ∷ [] → read a ≡ Some x
    → read b ≡ Some y → Some x ≡ Some y
same_read read vs a b x y e f r s = sym r ∙ ap read (same_head a b [] [] (sym e ∙ f)) ∙ s

same_order : (texts : List (List ℕ)) (h k : Header) → SpellHeader texts h → SpellHeader texts k → h.width ≡ k.width → h.big ≡ k.big
same_order texts h k a b w = elim a.endian as (λ _. h.big ≡ k.big) [
  | inl p ↦ elim b.endian as (λ _. h.big ≡ k.big) [
    | inl q ↦ p.2 ∙ sym q.2
    | inr q ↦ absurd (cc)
  ]
  | inr p ↦ elim b.endian as (λ _. h.big ≡ k.big) [
    | inl q ↦ absurd (cc)
    | inr q ↦
        p.4
        ∙ ap (λ (c : Bool). nat_lt 1 h.width && c)
        (same_Some p.1 q.1 (same_read big_endian_of (values (field_name Endian) texts) p.0 q.0 p.1 q.1 p.2 q.2 p.3 q.3))
        ∙ ap (λ (n : ℕ). nat_lt 1 n && q.1) w ∙ sym q.4
  ]
]

-- lines spell one header at most
pub one_spelling : (texts : List (List ℕ)) (h k : Header) → SpellHeader texts h → SpellHeader texts k → h ≡ k
one_spelling texts h k a b =
    let s =
    same_Some _ _
    (same_read sample_of (values (field_name SampleType) texts) a.sample_type.0 b.sample_type.0 _ _ a.sample_type.1 b.sample_type.1
    a.sample_type.2 b.sample_type.2) in
    let n = same_Some _ _ (same_read sizes_of (values (field_name Sizes) texts) a.sizes.0 b.sizes.0 _ _ a.sizes.1 b.sizes.1 a.sizes.2 b.sizes.2) in
    let w : h.width ≡ k.width = ap (λ (t : Sample). t.width) s in
    let g : h.signed ≡ k.signed = ap (λ (t : Sample). t.signed) s in
    let o = same_order texts h k a b w in
    λ i. record { sizes = n i; width = w i; signed = g i; big = o i }
