-- What a line more states.
use Rattle.std.proofs.Common.{◌≡◌, inl, inr, ℕ, ◌+◌, ◌<◌, ◌≤◌, Bool, true, false, not, cond, eqb, List, [], ◌∷◌, ◌++◌, length, drop, Option}
use Rattle.std.proofs.Common.{Some, None, refl, sym, ap, ◌∙◌, subst, arith, length-append, append-nil}
use Rattle.std.specs.Prelude.{codes, is_some, IfSome}
use Rattle.std.specs.List.{cons_option, filter_map, position_or_len}
use Rattle.std.specs.Str.{str_to_ascii_lowercase}
use Rattle.std.proofs.lemmas.Bool.{false≢true, or_cases}
use Rattle.std.proofs.lemmas.Bool.Decides.{nat_tests}
use Rattle.std.proofs.lemmas.List.{drop-append-le, length-drop}
use Rattle.std.proofs.lemmas.List.Elements.{filter_map-append}
use Rattle.std.proofs.lemmas.List.Folds.{position_or_len_push}
use Rattle.std.proofs.lemmas.Slice.Eq.{bytes_eq-Decides}
use Rattle.iso_formats.specs.declared.Field.{Field}
use Rattle.iso_formats.specs.declared.Field.TheVariants.{SampleType, Dimension, Sizes, Encoding, Endian}
use Rattle.lists.specs.Orders.{same_list}
use Rattle.iso_formats.specs.HeaderLines as lines
use Rattle.iso_formats.specs.HeaderLines.{Content, passed_over, named_field, unreadable, content, values, value_if, field_name, is_among, skip_names}
use Rattle.iso_formats.specs.HeaderLines.{data_file_names, is_zero, is_taken, is_empty, first_some}
use Rattle.iso_formats.specs.GridFaults.{content_fault, line_of}
use Rattle.nrrd_raw.specs.declared.fields.values.Sample.{Sample}
use Rattle.nrrd_raw.specs.declared.fields.values.Sizes as counted
use Rattle.nrrd_raw.specs.Names.{sample_view, sizes_view}
use Rattle.nrrd_raw.specs.States.{Reads, StatesValues, raw_of, raw_view}

-- ---- the values of one field

values_push : (name : List ℕ) (texts : List (List ℕ)) (text : List ℕ) → 1 ≤ length texts
    → values name (texts ++ text ∷ []) ≡ values name texts ++ filter_map (λ t. value_if name (content t)) (text ∷ [])
values_push name texts text l =
    ap (filter_map (λ t. value_if name (content t))) (drop-append-le 1 texts (text ∷ []) l)
    ∙ filter_map-append (λ t. value_if name (content t)) (drop 1 texts) (text ∷ [])

no_value : (name text : List ℕ) → value_if name (content text) ≡ None → filter_map (λ t. value_if name (content t)) (text ∷ []) ≡ []
no_value name text e = rw e refl

a_value : (name text v : List ℕ) → value_if name (content text) ≡ Some v → filter_map (λ t. value_if name (content t)) (text ∷ []) ≡ v ∷ []
a_value name text v e = rw e refl

pub values-same : (name : List ℕ) (texts : List (List ℕ)) (text : List ℕ) → 1 ≤ length texts → value_if name (content text) ≡ None
    → values name (texts ++ text ∷ []) ≡ values name texts
values-same name texts text l e = values_push name texts text l ∙ ap (λ vs. values name texts ++ vs) (no_value name text e) ∙ append-nil (values name texts)

pub values-new : (name : List ℕ) (texts : List (List ℕ)) (text v : List ℕ) → 1 ≤ length texts → value_if name (content text) ≡ Some v → values name texts ≡ []
    → values name (texts ++ text ∷ []) ≡ v ∷ []
values-new name texts text v l e n = values_push name texts text l ∙ ap (λ vs. values name texts ++ vs) (a_value name text v e) ∙ ap (λ vs. vs ++ v ∷ []) n

reads_same : {X : Type 0} (read : List ℕ → Option X) (name : List ℕ) (texts : List (List ℕ)) (text : List ℕ) (o : Option X) → 1 ≤ length texts
    → value_if name (content text) ≡ None
    → Reads read (values name texts) o → Reads read (values name (texts ++ text ∷ [])) o
reads_same {X} read name texts text o l e r = subst (λ (vs : List (List ℕ)). Reads read vs o) (sym (values-same name texts text l e)) r

reads_new : {X : Type 0} (read : List ℕ → Option X) (name : List ℕ) (texts : List (List ℕ)) (text v : List ℕ) (x : X) → 1 ≤ length texts
    → value_if name (content text) ≡ Some v
    → Reads read (values name texts) None → read v ≡ Some x → Reads read (values name (texts ++ text ∷ [])) (Some x)
reads_new read name texts text v x l e r s = (v, values-new name texts text v l e r, s)

-- ---- the line of the sizes

abbrev states_field : List ℕ → List ℕ → Bool
states_field name text = is_some (value_if name (content text))

line_same : (name : List ℕ) (texts : List (List ℕ)) (text : List ℕ) (n : ℕ) → 1 ≤ length texts → line_of name texts ≡ n → n ≤ length texts
    → line_of name (texts ++ text ∷ []) ≡ n
line_same name texts text n l e m =
    let len = length-drop 1 texts in
    let other : eqb (position_or_len (states_field name) (drop 1 texts)) (length (drop 1 texts)) ≡ false = differs _ _ (omega (arith, e, m, len, l)) in
    ap (λ ts. 2 + position_or_len (states_field name) ts) (drop-append-le 1 texts (text ∷ []) l)
    ∙ ap (λ i. 2 + i) (position_or_len_push (states_field name) (drop 1 texts) text)
    ∙ ap (λ b. 2 + cond b (length (drop 1 texts) + cond (states_field name text) 0 1) (position_or_len (states_field name) (drop 1 texts))) other ∙ e
  where
    differs : (i j : ℕ) → i < j → eqb i j ≡ false
    differs i j l = grind (arith, nat_tests)

before_cases : {V : Type 0} (g : List ℕ → Option V) (x : List ℕ) (xs : List (List ℕ)) (o : Option V)
    → (filter_map g xs ≡ [] → position_or_len (λ y. is_some (g y)) xs ≡ length xs)
    → cons_option o (filter_map g xs) ≡ [] → cond (not (is_some o)) (1 + position_or_len (λ y. is_some (g y)) xs) 0 ≡ length (x ∷ xs)
before_cases g x xs None later e = omega (arith, later e)
before_cases {V} g x xs (Some v) later e = absurd (cc)

none_before : {V : Type 0} (g : List ℕ → Option V) (xs : List (List ℕ)) → filter_map g xs ≡ [] → position_or_len (λ x. is_some (g x)) xs ≡ length xs
none_before g [] e = refl
none_before g (x ∷ xs) e = before_cases g x xs (g x) (none_before g xs) e

line_new : (name : List ℕ) (texts : List (List ℕ)) (text v : List ℕ) → 1 ≤ length texts → value_if name (content text) ≡ Some v → values name texts ≡ []
    → line_of name (texts ++ text ∷ []) ≡ length texts + 1
line_new name texts text v l e n =
    let len = length-drop 1 texts in
    let place = none_before (λ t. value_if name (content t)) (drop 1 texts) n in
    let some : states_field name text ≡ true = ap is_some e in
    ap (λ ts. 2 + position_or_len (states_field name) ts) (drop-append-le 1 texts (text ∷ []) l)
    ∙ ap (λ i. 2 + i) (position_or_len_push (states_field name) (drop 1 texts) text)
    ∙ ap (λ b. 2 + cond b (length (drop 1 texts) + cond (states_field name text) 0 1) (position_or_len (states_field name) (drop 1 texts))) (same _ _ place)
    ∙ ap (λ b. 2 + (length (drop 1 texts) + cond b 0 1)) some ∙ omega (arith, len, l)
  where
    same : (i j : ℕ) → i ≡ j → eqb i j ≡ true
    same i j l = grind (arith, nat_tests)

counts_same : (sizes : Option (counted.Sizes × ℕ)) (texts : List (List ℕ)) (text : List ℕ) → 1 ≤ length texts
    → IfSome sizes (λ (p : counted.Sizes × ℕ). (line_of (field_name Sizes) texts ≡ p.1) × (p.1 ≤ length texts))
    → IfSome sizes (λ (p : counted.Sizes × ℕ). (line_of (field_name Sizes) (texts ++ text ∷ []) ≡ p.1) × (p.1 ≤ length (texts ++ text ∷ [])))
counts_same None texts text l h = tt
counts_same (Some p) texts text l h = (line_same (field_name Sizes) texts text p.1 l h.0 h.1, omega (arith, length-append texts (text ∷ []), h.1))

-- ---- a line that states nothing

pub states-same : (s : Option Sample) (d : Option ℕ) (z : Option (counted.Sizes × ℕ)) (r : Bool) (b : Option Bool) (texts : List (List ℕ)) (text : List ℕ)
    → ((f : Field) → value_if (field_name f) (content text) ≡ None) → StatesValues s d z r b texts → StatesValues s d z r b (texts ++ text ∷ [])
states-same s d z r b texts text e h = record {
  begun = omega (arith, length-append texts (text ∷ []), h.begun);
  sample_type = reads_same lines.sample_of (field_name SampleType) texts text _ h.begun (e SampleType) h.sample_type;
  axes = reads_same lines.dimension_of (field_name Dimension) texts text _ h.begun (e Dimension) h.axes;
  counts = reads_same lines.sizes_of (field_name Sizes) texts text _ h.begun (e Sizes) h.counts;
  counts_line = counts_same z texts text h.begun h.counts_line;
  encoding = reads_same raw_of (field_name Encoding) texts text _ h.begun (e Encoding) h.encoding;
  order = reads_same lines.big_endian_of (field_name Endian) texts text _ h.begun (e Endian) h.order;
}

-- ---- a line that states a field

-- what a content of this field gives each field
given : (f : Field) (text v : List ℕ) (k : Field) → content text ≡ named_field (field_name f) v
    → value_if (field_name k) (content text) ≡ value_if (field_name k) (named_field (field_name f) v)
given f text v k e = ap (value_if (field_name k)) e

pub states-type : (s : Sample) (d : Option ℕ) (z : Option (counted.Sizes × ℕ)) (r : Bool) (b : Option Bool) (texts : List (List ℕ)) (text v : List ℕ)
    → content text ≡ named_field (field_name SampleType) v → lines.sample_of v ≡ Some (sample_view s) → StatesValues None d z r b texts
    → StatesValues (Some s) d z r b (texts ++ text ∷ [])
states-type s d z r b texts text v e x h = record {
  begun = omega (arith, length-append texts (text ∷ []), h.begun);
  sample_type = reads_new lines.sample_of (field_name SampleType) texts text v _ h.begun (given SampleType text v SampleType e) h.sample_type x;
  axes = reads_same lines.dimension_of (field_name Dimension) texts text _ h.begun (given SampleType text v Dimension e) h.axes;
  counts = reads_same lines.sizes_of (field_name Sizes) texts text _ h.begun (given SampleType text v Sizes e) h.counts;
  counts_line = counts_same z texts text h.begun h.counts_line;
  encoding = reads_same raw_of (field_name Encoding) texts text _ h.begun (given SampleType text v Encoding e) h.encoding;
  order = reads_same lines.big_endian_of (field_name Endian) texts text _ h.begun (given SampleType text v Endian e) h.order;
}

pub states-dimension : (s : Option Sample) (d : ℕ) (z : Option (counted.Sizes × ℕ)) (r : Bool) (b : Option Bool) (texts : List (List ℕ)) (text v : List ℕ)
    → content text ≡ named_field (field_name Dimension) v → lines.dimension_of v ≡ Some d → StatesValues s None z r b texts
    → StatesValues s (Some d) z r b (texts ++ text ∷ [])
states-dimension s d z r b texts text v e x h = record {
  begun = omega (arith, length-append texts (text ∷ []), h.begun);
  sample_type = reads_same lines.sample_of (field_name SampleType) texts text _ h.begun (given Dimension text v SampleType e) h.sample_type;
  axes = reads_new lines.dimension_of (field_name Dimension) texts text v _ h.begun (given Dimension text v Dimension e) h.axes x;
  counts = reads_same lines.sizes_of (field_name Sizes) texts text _ h.begun (given Dimension text v Sizes e) h.counts;
  counts_line = counts_same z texts text h.begun h.counts_line;
  encoding = reads_same raw_of (field_name Encoding) texts text _ h.begun (given Dimension text v Encoding e) h.encoding;
  order = reads_same lines.big_endian_of (field_name Endian) texts text _ h.begun (given Dimension text v Endian e) h.order;
}

pub states-sizes : (s : Option Sample) (d : Option ℕ) (z : counted.Sizes) (n : ℕ) (r : Bool) (b : Option Bool) (texts : List (List ℕ)) (text v : List ℕ)
    → content text ≡ named_field (field_name Sizes) v → lines.sizes_of v ≡ Some (sizes_view z) → n ≡ length texts + 1
    → StatesValues s d None r b texts → StatesValues s d (Some (z, n)) r b (texts ++ text ∷ [])
states-sizes s d z n r b texts text v e x l h = record {
  begun = omega (arith, length-append texts (text ∷ []), h.begun);
  sample_type = reads_same lines.sample_of (field_name SampleType) texts text _ h.begun (given Sizes text v SampleType e) h.sample_type;
  axes = reads_same lines.dimension_of (field_name Dimension) texts text _ h.begun (given Sizes text v Dimension e) h.axes;
  counts = reads_new lines.sizes_of (field_name Sizes) texts text v _ h.begun (given Sizes text v Sizes e) h.counts x;
  counts_line = (
    line_new (field_name Sizes) texts text v h.begun (given Sizes text v Sizes e) h.counts ∙ sym l,
    omega (arith, length-append texts (text ∷ []), l),
  );
  encoding = reads_same raw_of (field_name Encoding) texts text _ h.begun (given Sizes text v Encoding e) h.encoding;
  order = reads_same lines.big_endian_of (field_name Endian) texts text _ h.begun (given Sizes text v Endian e) h.order;
}

pub states-encoding : (s : Option Sample) (d : Option ℕ) (z : Option (counted.Sizes × ℕ)) (b : Option Bool) (texts : List (List ℕ)) (text v : List ℕ)
    → content text ≡ named_field (field_name Encoding) v → lines.is_raw v ≡ true → StatesValues s d z false b texts
    → StatesValues s d z true b (texts ++ text ∷ [])
states-encoding s d z b texts text v e x h = record {
  begun = omega (arith, length-append texts (text ∷ []), h.begun);
  sample_type = reads_same lines.sample_of (field_name SampleType) texts text _ h.begun (given Encoding text v SampleType e) h.sample_type;
  axes = reads_same lines.dimension_of (field_name Dimension) texts text _ h.begun (given Encoding text v Dimension e) h.axes;
  counts = reads_same lines.sizes_of (field_name Sizes) texts text _ h.begun (given Encoding text v Sizes e) h.counts;
  counts_line = counts_same z texts text h.begun h.counts_line;
  encoding = reads_new raw_of (field_name Encoding) texts text v true h.begun (given Encoding text v Encoding e) h.encoding (ap raw_view x);
  order = reads_same lines.big_endian_of (field_name Endian) texts text _ h.begun (given Encoding text v Endian e) h.order;
}

pub states-endian : (s : Option Sample) (d : Option ℕ) (z : Option (counted.Sizes × ℕ)) (r : Bool) (b : Bool) (texts : List (List ℕ)) (text v : List ℕ)
    → content text ≡ named_field (field_name Endian) v → lines.big_endian_of v ≡ Some b → StatesValues s d z r None texts
    → StatesValues s d z r (Some b) (texts ++ text ∷ [])
states-endian s d z r b texts text v e x h = record {
  begun = omega (arith, length-append texts (text ∷ []), h.begun);
  sample_type = reads_same lines.sample_of (field_name SampleType) texts text _ h.begun (given Endian text v SampleType e) h.sample_type;
  axes = reads_same lines.dimension_of (field_name Dimension) texts text _ h.begun (given Endian text v Dimension e) h.axes;
  counts = reads_same lines.sizes_of (field_name Sizes) texts text _ h.begun (given Endian text v Sizes e) h.counts;
  counts_line = counts_same z texts text h.begun h.counts_line;
  encoding = reads_same raw_of (field_name Encoding) texts text _ h.begun (given Endian text v Encoding e) h.encoding;
  order = reads_new lines.big_endian_of (field_name Endian) texts text v _ h.begun (given Endian text v Endian e) h.order x;
}

-- ---- the same from a field that is not there yet

none_of : {X : Type 0} (o : Option X) → is_some o ≡ false → o ≡ None
none_of None e = refl
none_of (Some x) e = absurd (false≢true (sym e))

pub adds-type :
    (o : Option Sample) (s : Sample) (d : Option ℕ) (z : Option (counted.Sizes × ℕ)) (r : Bool) (b : Option Bool) (texts : List (List ℕ))
    (text v : List ℕ) (n : ℕ)
    → is_some o ≡ false → content text ≡ named_field (field_name SampleType) v → Some (sample_view s) ≡ lines.sample_of v → StatesValues o d z r b texts
    → StatesValues (Some s) d z r b (texts ++ text ∷ []) × (content_fault texts n (named_field (field_name SampleType) v) ≡ None)
adds-type (Some p) s d z r b texts text v n o e x h = absurd (false≢true (sym o))
adds-type None s d z r b texts text v n o e x h = (states-type s d z r b texts text v e (sym x) h, rw (h.sample_type, ← x) refl)

pub adds-dimension :
    (s : Option Sample) (o : Option ℕ) (d : ℕ) (z : Option (counted.Sizes × ℕ)) (r : Bool) (b : Option Bool) (texts : List (List ℕ)) (text v : List ℕ)
    (n : ℕ)
    → is_some o ≡ false → content text ≡ named_field (field_name Dimension) v → Some d ≡ lines.dimension_of v → StatesValues s o z r b texts
    → StatesValues s (Some d) z r b (texts ++ text ∷ []) × (content_fault texts n (named_field (field_name Dimension) v) ≡ None)
adds-dimension s (Some p) d z r b texts text v n o e x h = absurd (false≢true (sym o))
adds-dimension s None d z r b texts text v n o e x h = (states-dimension s d z r b texts text v e (sym x) h, rw (h.axes, ← x) refl)

pub adds-sizes :
    (s : Option Sample) (d : Option ℕ) (o : Option (counted.Sizes × ℕ)) (z : counted.Sizes) (r : Bool) (b : Option Bool) (texts : List (List ℕ))
    (text v : List ℕ) (n : ℕ)
    → is_some o ≡ false → content text ≡ named_field (field_name Sizes) v → Some (sizes_view z) ≡ lines.sizes_of v → n ≡ length texts + 1
    → StatesValues s d o r b texts
    → StatesValues s d (Some (z, n)) r b (texts ++ text ∷ []) × (content_fault texts n (named_field (field_name Sizes) v) ≡ None)
adds-sizes s d (Some p) z r b texts text v n o e x l h = absurd (false≢true (sym o))
adds-sizes s d None z r b texts text v n o e x l h = (states-sizes s d z n r b texts text v e (sym x) l h, rw (h.counts, ← x) refl)

pub adds-encoding :
    (s : Option Sample) (d : Option ℕ) (z : Option (counted.Sizes × ℕ)) (o : Bool) (b : Option Bool) (texts : List (List ℕ)) (text v : List ℕ) (n : ℕ)
    → o ≡ false → content text ≡ named_field (field_name Encoding) v → lines.is_raw v ≡ true → StatesValues s d z o b texts
    → StatesValues s d z true b (texts ++ text ∷ []) × (content_fault texts n (named_field (field_name Encoding) v) ≡ None)
adds-encoding s d z true b texts text v n o e x h = absurd (false≢true (sym o))
adds-encoding s d z false b texts text v n o e x h = (states-encoding s d z b texts text v e x h, rw (h.encoding, x) refl)

pub adds-endian :
    (s : Option Sample) (d : Option ℕ) (z : Option (counted.Sizes × ℕ)) (r : Bool) (o : Option Bool) (b : Bool) (texts : List (List ℕ))
    (text v : List ℕ) (n : ℕ)
    → is_some o ≡ false → content text ≡ named_field (field_name Endian) v → Some b ≡ lines.big_endian_of v → StatesValues s d z r o texts
    → StatesValues s d z r (Some b) (texts ++ text ∷ []) × (content_fault texts n (named_field (field_name Endian) v) ≡ None)
adds-endian s d z r (Some p) b texts text v n o e x h = absurd (false≢true (sym o))
adds-endian s d z r None b texts text v n o e x h = (states-endian s d z r b texts text v e (sym x) h, rw (h.order, ← x) refl)

-- ---- a field that is passed over

no_read : (f : Field) (name v : List ℕ) → same_list name (field_name f) ≡ false → value_if (field_name f) (named_field name v) ≡ None
no_read f name v e = rw e refl

abbrev NotRead : List ℕ → Type 0
NotRead name = (f : Field) → same_list name (field_name f) ≡ false

not_read-line_skip : NotRead (codes "line skip")
not_read-line_skip SampleType = refl
not_read-line_skip Dimension = refl
not_read-line_skip Sizes = refl
not_read-line_skip Encoding = refl
not_read-line_skip Endian = refl

not_read-lineskip : NotRead (codes "lineskip")
not_read-lineskip SampleType = refl
not_read-lineskip Dimension = refl
not_read-lineskip Sizes = refl
not_read-lineskip Encoding = refl
not_read-lineskip Endian = refl

not_read-byte_skip : NotRead (codes "byte skip")
not_read-byte_skip SampleType = refl
not_read-byte_skip Dimension = refl
not_read-byte_skip Sizes = refl
not_read-byte_skip Encoding = refl
not_read-byte_skip Endian = refl

not_read-byteskip : NotRead (codes "byteskip")
not_read-byteskip SampleType = refl
not_read-byteskip Dimension = refl
not_read-byteskip Sizes = refl
not_read-byteskip Encoding = refl
not_read-byteskip Endian = refl

carry : (name word : List ℕ) → str_to_ascii_lowercase name ≡ name → NotRead word → same_list (str_to_ascii_lowercase name) word ≡ true → NotRead name
carry name word low n e = subst NotRead (sym ((bytes_eq-Decides (str_to_ascii_lowercase name) word).0 e) ∙ low) n

not_read-skip : (name : List ℕ) → str_to_ascii_lowercase name ≡ name → is_among skip_names name ≡ true → NotRead name
not_read-skip name low e = elim (or_cases (same_list (str_to_ascii_lowercase name) (codes "line skip")) _ e) as (λ _. NotRead name) [
  | inl a ↦ carry name _ low not_read-line_skip a
  | inr a ↦ elim (or_cases (same_list (str_to_ascii_lowercase name) (codes "lineskip")) _ a) as (λ _. NotRead name) [
    | inl b ↦ carry name _ low not_read-lineskip b
    | inr b ↦ elim (or_cases (same_list (str_to_ascii_lowercase name) (codes "byte skip")) _ b) as (λ _. NotRead name) [
      | inl c ↦ carry name _ low not_read-byte_skip c
      | inr c ↦ elim (or_cases (same_list (str_to_ascii_lowercase name) (codes "byteskip")) _ c) as (λ _. NotRead name) [
        | inl d ↦ carry name _ low not_read-byteskip d
        | inr d ↦ absurd (false≢true d)
      ]
    ]
  ]
]

pub adds-skip :
    (s : Option Sample) (d : Option ℕ) (z : Option (counted.Sizes × ℕ)) (r : Bool) (b : Option Bool) (texts : List (List ℕ)) (text name v : List ℕ)
    (n : ℕ)
    → str_to_ascii_lowercase name ≡ name → is_among skip_names name ≡ true → is_zero v ≡ true → content text ≡ named_field name v → StatesValues s d z r b texts
    → StatesValues s d z r b (texts ++ text ∷ []) × (content_fault texts n (named_field name v) ≡ None)
adds-skip s d z r b texts text name v n low a zero_value e h = (
  states-same s d z r b texts text (λ f. ap (value_if (field_name f)) e ∙ no_read f name v (not_read-skip name low a f)) h,
  rw (a, zero_value) refl,
)

pub adds-other :
    (s : Option Sample) (d : Option ℕ) (z : Option (counted.Sizes × ℕ)) (r : Bool) (b : Option Bool) (texts : List (List ℕ)) (text name v : List ℕ)
    (n : ℕ)
    → is_among skip_names name ≡ false → is_among data_file_names name ≡ false → NotRead name → content text ≡ named_field name v → StatesValues s d z r b texts
    → StatesValues s d z r b (texts ++ text ∷ []) × (content_fault texts n (named_field name v) ≡ None)
adds-other s d z r b texts text name v n a f other e h = (
  states-same s d z r b texts text (λ k. ap (value_if (field_name k)) e ∙ no_read k name v (other k)) h,
  rw (a, f, other SampleType, other Dimension, other Sizes, other Encoding, other Endian) refl,
)

pub adds-passed :
    (s : Option Sample) (d : Option ℕ) (z : Option (counted.Sizes × ℕ)) (r : Bool) (b : Option Bool) (texts : List (List ℕ)) (text : List ℕ) (n : ℕ)
    (k : Content)
    → passed_over ≡ k → content text ≡ k → StatesValues s d z r b texts → StatesValues s d z r b (texts ++ text ∷ []) × (content_fault texts n k ≡ None)
adds-passed s d z r b texts text n k p e h = (
  states-same s d z r b texts text (λ f. ap (value_if (field_name f)) (e ∙ sym p)) h,
  ap (content_fault texts n) (sym p),
)
