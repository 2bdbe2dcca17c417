-- The header as a whole: a field that is missing, the number of sizes, and the header that the lines spell.
use Rattle.std.proofs.Common.{◌≡◌, ◌⊎◌, inl, inr, ℕ, Bool, true, false, not, List, [], ◌∷◌, length, take, drop, Option, Some, None, unwrap_or, refl}
use Rattle.std.proofs.Common.{sym, ap, ◌∙◌, subst, arith}
use Rattle.std.specs.Prelude.{◌&&◌, ◌==◌, nat_lt, is_some, IsTrue, slice_index_or, if◌then◌else◌}
use Rattle.std.specs.List.{AllPass}
use Rattle.std.specs.Option.{option_map_or}
use Rattle.std.proofs.lemmas.Bool.{false≢true}
use Rattle.std.proofs.lemmas.Bool.Decides.{nat_tests}
use Rattle.iso_formats.specs.declared.Field.{Field}
use Rattle.iso_formats.specs.declared.Field.TheVariants.{Dimension, Sizes, Endian}
use Rattle.iso_formats.specs.HeaderLines as lines
use Rattle.iso_formats.specs.HeaderLines.{values, field_name, is_empty, first_some, is_first_line, is_raw}
use Rattle.iso_formats.specs.GridFile.{SpellHeader, is_sound_line}
use Rattle.iso_formats.specs.GridFaults.{GridFault, missing_fault, missing_field, count_fault, wrong_sizes, line_of, is_needed, stated_sample, first_value}
use Rattle.nrrd_raw.specs.declared.fields.values.Sample.{Sample}
use Rattle.nrrd_raw.specs.declared.fields.values.Sizes as counted
use Rattle.nrrd_raw.specs.Shapes.{axes-stated, is_width}
use Rattle.nrrd_raw.specs.Names.{sample_view, sizes_view}
use Rattle.nrrd_raw.specs.States.{StatesValues}
use Rattle.lists.proofs.Tests.{equal_of}
use Rattle.iso_formats.proofs.HeaderLaws.{present_none}

-- ---- missing fields

gone : (texts : List (List ℕ)) (f : Field) → values (field_name f) texts ≡ [] → is_needed texts f ≡ true → missing_fault texts f ≡ Some (missing_field f)
gone texts f e n = subst (λ (vs : List (List ℕ)). (if is_empty vs && is_needed texts f then Some (missing_field f) else None) ≡ Some (missing_field f)) (sym e)
    (ap (λ b. if b then Some (missing_field f) else None) n)

unneeded : (texts : List (List ℕ)) (f : Field) → values (field_name f) texts ≡ [] → is_needed texts f ≡ false → missing_fault texts f ≡ None
unneeded texts f e n = subst (λ (vs : List (List ℕ)). (if is_empty vs && is_needed texts f then Some (missing_field f) else None) ≡ None) (sym e)
    (ap (λ b. if b then Some (missing_field f) else None) n)

-- what stands present_none, with its values known
pub states-at : (os os' : Option Sample) (od od' : Option ℕ) (oz oz' : Option (counted.Sizes × ℕ)) (r r' : Bool) (ob ob' : Option Bool)
    (texts : List (List ℕ))
    → os ≡ os' → od ≡ od' → oz ≡ oz' → r ≡ r' → ob ≡ ob'
    → StatesValues os od oz r ob texts → StatesValues os' od' oz' r' ob' texts
states-at os os' od od' oz oz' r r' ob ob' texts a b c d e h =
    subst (λ (o : Option Bool). StatesValues os' od' oz' r' o texts) e
    (subst (λ (o : Bool). StatesValues os' od' oz' o ob texts) d
    (subst (λ (o : Option (counted.Sizes × ℕ)). StatesValues os' od' o r ob texts) c
    (subst (λ (o : Option ℕ). StatesValues os' o oz r ob texts) b
    (subst (λ (o : Option Sample). StatesValues o od oz r ob texts) a h))))

-- the order of bytes is needed where a sample has more than one
needed_is : (s : Sample) (d : Option ℕ) (z : Option (counted.Sizes × ℕ)) (r : Bool) (b : Option Bool) (texts : List (List ℕ))
    → StatesValues (Some s) d z r b texts → is_needed texts Endian ≡ nat_lt 1 s.width
needed_is s d z r b texts h =
    let known : stated_sample texts ≡ Some (sample_view s) =
    ap (λ (vs : List (List ℕ)). lines.sample_of (slice_index_or vs 0 [])) h.sample_type.1 ∙ h.sample_type.2 in
    ap (λ (o : Option lines.Sample). option_map_or (λ (t : lines.Sample). nat_lt 1 t.width) o false) known

and_left : (a b : Bool) → a && b ≡ true → a ≡ true
and_left true b e = refl
and_left false b e = absurd (false≢true e)

and_not : (a : Bool) → a && true ≡ false → a ≡ false
and_not true e = absurd (false≢true (sym e))
and_not false e = refl

order_there : (s : Sample) (d : ℕ) (z : counted.Sizes × ℕ) (b : Option Bool) (texts : List (List ℕ)) → StatesValues (Some s) (Some d) (Some z) true b texts
    → (nat_lt 1 s.width && not (is_some b)) ≡ false → missing_fault texts Endian ≡ None
order_there s d z (Some x) texts h e = present_none texts Endian h.order.0 h.order.1
order_there s d z None texts h e = unneeded texts Endian h.order (needed_is s (Some d) (Some z) true None texts h ∙ and_not (nat_lt 1 s.width) e)

-- ---- the number of sizes

count_is : (s : Sample) (d : ℕ) (z : counted.Sizes) (n : ℕ) (b : Option Bool) (texts : List (List ℕ)) (same : Bool)
    → StatesValues (Some s) (Some d) (Some (z, n)) true b texts
    → (z.count == d) ≡ same → count_fault texts ≡ (if same then None else Some (wrong_sizes n))
count_is s d z n b texts same h e =
    let r : ℕ → GridFault = λ k. wrong_sizes k in
    let a : lines.dimension_of (first_value Dimension texts) ≡ Some d =
    ap (λ (vs : List (List ℕ)). lines.dimension_of (slice_index_or vs 0 [])) h.axes.1 ∙ h.axes.2 in
    let c : lines.sizes_of (first_value Sizes texts) ≡ Some (sizes_view z) =
    ap (λ (vs : List (List ℕ)). lines.sizes_of (slice_index_or vs 0 [])) h.counts.1 ∙ h.counts.2 in
    ap
    (λ (o : Option ℕ).
    if option_map_or (λ d. option_map_or (λ (ns : List ℕ). length ns == d) (lines.sizes_of (first_value Sizes texts)) true) o true then None
    else Some (wrong_sizes (line_of (field_name Sizes) texts)))
    a
    ∙ ap
    (λ (o : Option (List ℕ)).
    if option_map_or (λ (ns : List ℕ). length ns == d) o true then None else Some (wrong_sizes (line_of (field_name Sizes) texts)))
    c
    ∙ ap (λ (k : ℕ). if (k == d) then None else Some (wrong_sizes (line_of (field_name Sizes) texts))) (axes-stated z.count z.places z.shape)
    ∙ ap (λ (t : Bool). if t then None else Some (wrong_sizes (line_of (field_name Sizes) texts))) e
    ∙ ap (λ (k : ℕ). if same then None else Some (wrong_sizes k)) h.counts_line.0

-- ---- the header that is spelled

raw_is : (b : Bool) → (if b then Some true else None) ≡ Some true → b ≡ true
raw_is true e = refl
raw_is false e = absurd (cc)

one_of : (w : ℕ) → is_width w ≡ true → nat_lt 1 w ≡ false → w ≡ 1
one_of w e l = grind (arith, nat_tests)

order_is : (s : Sample) (d : ℕ) (z : counted.Sizes × ℕ) (b : Option Bool) (texts : List (List ℕ)) (big : Bool)
    → StatesValues (Some s) (Some d) (Some z) true b texts
    → (nat_lt 1 s.width && not (is_some b)) ≡ false → big ≡ (nat_lt 1 s.width && unwrap_or b false)
    → ((values (field_name Endian) texts ≡ []) × (s.width ≡ 1) × (big ≡ false))
    ⊎
    ((value : List ℕ) × (order : Bool) × (values (field_name Endian) texts ≡ value ∷ []) × (lines.big_endian_of value ≡ Some order)
    × (big ≡ (nat_lt 1 s.width && order)))
order_is s d z (Some x) texts big h o e = inr (h.order.0, x, h.order.1, h.order.2, e)
order_is s d z None texts big h o e =
    let one = and_not (nat_lt 1 s.width) o in
    inl (h.order, one_of s.width s.sized one, e ∙ ap (λ t. t && false) one)

pub header-spelled : (s : Sample) (d : ℕ) (z : counted.Sizes) (n : ℕ) (b : Option Bool) (texts : List (List ℕ)) (big : Bool)
    → StatesValues (Some s) (Some d) (Some (z, n)) true b texts
    → (nat_lt 1 s.width && not (is_some b)) ≡ false → (z.count == d) ≡ true → big ≡ (nat_lt 1 s.width && unwrap_or b false)
    → AllPass is_sound_line (drop 1 texts) → IsTrue (is_first_line (slice_index_or texts 0 []))
    → SpellHeader texts (record { sizes = take d z.places; width = s.width; signed = s.signed; big = big })
header-spelled s d z n b texts big h o e g between first =
    let same : z.count ≡ d = equal_of z.count d e in
    let len : length (take d z.places) ≡ d = ap (λ k. length (take k z.places)) (sym same) ∙ axes-stated z.count z.places z.shape ∙ same in
    record {
      first = first;
      between = between;
      sample_type = h.sample_type;
      dimension = (h.axes.0, h.axes.1, h.axes.2 ∙ ap Some (sym len));
      sizes = (h.counts.0, h.counts.1, h.counts.2 ∙ ap (λ k. Some (take k z.places)) same);
      encoding = (h.encoding.0, h.encoding.1, raw_is (is_raw h.encoding.0) h.encoding.2);
      endian = order_is s d (z, n) b texts big h o g;
    }
