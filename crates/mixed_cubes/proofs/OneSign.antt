-- Where all samples of a cube have one sign, so have all corners of its cells.
use Rattle.std.proofs.Common.{◌≡◌, ℕ, zero, suc, ◌+◌, ◌*◌, ◌/◌, ◌%◌, ◌^◌, ◌<◌, ◌≤◌, Bool, true, false, not, None, List, [], ◌∷◌, length, refl, sym}
use Rattle.std.proofs.Common.{ap, ◌∙◌, arith, ℤ, pos, ◌*ℤ◌, ◌≤ℤ◌, ◌<ℤ◌, int_le, inl, inr}
use Rattle.std.specs.Prelude.{map, slice_index, slice_index_or, ◌&&◌, ◌==◌, ◌⊎◌, if◌then◌else◌}
use Rattle.std.specs.List.{list_any, list_all}
use Rattle.std.specs.Int.{bit_at}
use Rattle.std.proofs.lemmas.Bool.{false≢true, not-false}
use Rattle.std.proofs.lemmas.Int.{ints}
use Rattle.std.proofs.lemmas.List.{get_or-map, length-map}
use Rattle.std.proofs.lemmas.List.FromFn.{get_or-map-range_with_len, length-map-range_with_len}
use Rattle.std.proofs.lemmas.List.Folds.{list_any_at, list_all_at}
use Rattle.iso_model.specs.declared.Kind.{Kind}
use Rattle.iso_model.specs.Points.{point}
use Rattle.iso_model.specs.Turns.{total}
use Rattle.iso_model.specs.Cells.{HasDimension, corner_count}
use Rattle.iso_model.specs.Splits.{cells_per_cube, cube_of, rank_of, corner, corner_offset}
use Rattle.iso_model.specs.Values.{Grid, volume, sample_at, cube_samples, value_at, is_positive, positive_at, label_of}
use Rattle.iso_model.proofs.DimensionLaws.{dimension_cases}
use Rattle.iso_model.specs.Dimensions.{IsDimension}
use Rattle.split_laws.proofs.Coordinates.{lists_same, coordinate, length-point, length-cube_at, rank_below}
use Rattle.split_laws.proofs.SplitTheorems.{small_offsets}
use Rattle.mixed_cubes.specs.Mixed.{are_mixed, HasPlainLabel}
use Rattle.mixed_cubes.proofs.OffsetCases.{offset_case}
use Rattle.lists.proofs.Powers.{powers_below, powers_few, powers_bits, powers_none, powers_all}
use Rattle.lists.proofs.MemberLaws.{even_all}
use Rattle.iso_model.proofs.CellCounts.{some_ranks}

-- ---- samples that are not mixed

-- each sample of the list has this sign
abbrev AllOfSign : ℤ → Bool → List ℤ → Type 0
AllOfSign iso b xs = (k : ℕ) → k < length xs → int_le iso (slice_index_or xs k (pos 0)) ≡ b

none_passes : (p : ℤ → Bool) (xs : List ℤ) → list_any p xs ≡ false → (k : ℕ) → k < length xs → p (slice_index_or xs k (pos 0)) ≡ false
none_passes p xs none k h = go (p (slice_index_or xs k (pos 0))) refl
  where
    go : (b : Bool) → p (slice_index_or xs k (pos 0)) ≡ b → b ≡ false
    go true e = absurd (false≢true (sym none ∙ list_any_at p xs k (pos 0) h e))
    go false e = refl

one_sign : (iso : ℤ) (xs : List ℤ) → are_mixed iso xs ≡ false → (b : Bool) × AllOfSign iso b xs
one_sign iso xs h = go (list_any (λ s. int_le iso s) xs) refl (list_any (λ s. not (int_le iso s)) xs) refl h
  where
    go : (a : Bool) → list_any (λ s. int_le iso s) xs ≡ a → (c : Bool) → list_any (λ s. not (int_le iso s)) xs ≡ c → (a && c) ≡ false
        → (b : Bool) × AllOfSign iso b xs
    go false none c e f = (false, none_passes (λ s. int_le iso s) xs none)
    go true some false none f = (true, λ k hk. not-false (int_le iso (slice_index_or xs k (pos 0))) (none_passes (λ s. not (int_le iso s)) xs none k hk))
    go true some true e f = absurd (false≢true (sym f))

-- ---- values

pub eighths : (iso s : ℤ) (b : Bool) → int_le iso s ≡ b → int_le (pos 8 *ℤ iso) (pos 8 *ℤ s) ≡ b
eighths iso s true h = grind (arith, ints)
eighths iso s false h = grind (arith, ints)

least : (iso s : ℤ) → int_le iso s ≡ true → iso ≤ℤ s
least iso s h = grind (arith, ints)

less : (iso s : ℤ) → int_le iso s ≡ false → s <ℤ iso
less iso s h = grind (arith, ints)

le_test : (a b : ℤ) → a ≤ℤ b → int_le a b ≡ true
le_test a b h = grind (arith, ints)

lt_test : (a b : ℤ) → b <ℤ a → int_le a b ≡ false
lt_test a b h = grind (arith, ints)

eight_least : (iso s t u v w x y z : ℤ) → iso ≤ℤ s → iso ≤ℤ t → iso ≤ℤ u → iso ≤ℤ v → iso ≤ℤ w → iso ≤ℤ x → iso ≤ℤ y → iso ≤ℤ z
    → (pos 8 *ℤ iso) ≤ℤ total (s ∷ t ∷ u ∷ v ∷ w ∷ x ∷ y ∷ z ∷ [])
eight_least iso s t u v w x y z hs ht hu hv hw hx hy hz = omega (arith, ints)

eight_less : (iso s t u v w x y z : ℤ) → s <ℤ iso → t <ℤ iso → u <ℤ iso → v <ℤ iso → w <ℤ iso → x <ℤ iso → y <ℤ iso → z <ℤ iso
    → total (s ∷ t ∷ u ∷ v ∷ w ∷ x ∷ y ∷ z ∷ []) <ℤ (pos 8 *ℤ iso)
eight_less iso s t u v w x y z hs ht hu hv hw hx hy hz = omega (arith, ints)

eight_samples : (iso : ℤ) (b : Bool) (s t u v w x y z : ℤ) → int_le iso s ≡ b → int_le iso t ≡ b → int_le iso u ≡ b → int_le iso v ≡ b
    → int_le iso w ≡ b → int_le iso x ≡ b → int_le iso y ≡ b → int_le iso z ≡ b →
    int_le (pos 8 *ℤ iso) (total (s ∷ t ∷ u ∷ v ∷ w ∷ x ∷ y ∷ z ∷ [])) ≡ b
eight_samples iso true s t u v w x y z hs ht hu hv hw hx hy hz =
    le_test (pos 8 *ℤ iso) (total (s ∷ t ∷ u ∷ v ∷ w ∷ x ∷ y ∷ z ∷ []))
    (eight_least iso s t u v w x y z (least iso s hs) (least iso t ht) (least iso u hu) (least iso v hv) (least iso w hw) (least iso x hx)
    (least iso y hy) (least iso z hz))
eight_samples iso false s t u v w x y z hs ht hu hv hw hx hy hz =
    lt_test (pos 8 *ℤ iso) (total (s ∷ t ∷ u ∷ v ∷ w ∷ x ∷ y ∷ z ∷ []))
    (eight_less iso s t u v w x y z (less iso s hs) (less iso t ht) (less iso u hu) (less iso v hv) (less iso w hw) (less iso x hx) (less iso y hy)
    (less iso z hz))

total_sign : (iso : ℤ) (b : Bool) (xs : List ℤ) → length xs ≡ 8 → AllOfSign iso b xs → int_le (pos 8 *ℤ iso) (total xs) ≡ b
total_sign iso b (s ∷ t ∷ u ∷ v ∷ w ∷ x ∷ y ∷ z ∷ []) long all =
    eight_samples iso b s t u v w x y z (all 0 (omega arith)) (all 1 (omega arith)) (all 2 (omega arith)) (all 3 (omega arith)) (all 4 (omega arith))
    (all 5 (omega arith)) (all 6 (omega arith)) (all 7 (omega arith))
total_sign iso b [] long all = absurd (omega (arith, long))
total_sign iso b (s ∷ []) long all = absurd (omega (arith, long))
total_sign iso b (s ∷ t ∷ []) long all = absurd (omega (arith, long))
total_sign iso b (s ∷ t ∷ u ∷ []) long all = absurd (omega (arith, long))
total_sign iso b (s ∷ t ∷ u ∷ v ∷ []) long all = absurd (omega (arith, long))
total_sign iso b (s ∷ t ∷ u ∷ v ∷ w ∷ []) long all = absurd (omega (arith, long))
total_sign iso b (s ∷ t ∷ u ∷ v ∷ w ∷ x ∷ []) long all = absurd (omega (arith, long))
total_sign iso b (s ∷ t ∷ u ∷ v ∷ w ∷ x ∷ y ∷ []) long all = absurd (omega (arith, long))
total_sign iso b (s ∷ t ∷ u ∷ v ∷ w ∷ x ∷ y ∷ z ∷ r ∷ rs) long all = absurd (omega (arith, long))

-- ---- corners

abbrev pub halves : List ℕ → List ℕ
halves p = map (λ c. c / 2) p

pub even_value : (sizes : List ℕ) (samples : List ℤ) (p : List ℕ) → ((i : ℕ) → i < length p → slice_index p i % 2 ≡ 0)
    → value_at sizes samples p ≡ pos 8 *ℤ sample_at sizes samples (halves p)
unfolding value_at
even_value sizes samples p even = rw (even_all p even) refl

pub odd_value : (sizes : List ℕ) (samples : List ℤ) (p : List ℕ) → 0 < length p → slice_index p 0 % 2 ≡ 1
    → value_at sizes samples p ≡ total (cube_samples sizes samples (halves p))
unfolding value_at
odd_value sizes samples p some odd =
    let not_even : list_all (λ c. c % 2 == 0) p ≡ false = list_all_at (λ c. c % 2 == 0) p 0 0 some (rw odd refl) in
    rw not_even refl

pub halves_are : (d : ℕ) (f g : ℕ → ℕ) → ((i : ℕ) → i < d → f i / 2 ≡ g i) → halves (point d f) ≡ point d g
halves_are d f g same =
    lists_same (halves (point d f)) (point d g) (length-map (point d f) (λ c. c / 2) ∙ length-point d f ∙ sym (length-point d g)) (λ i h.
    let inside : i < d = omega (arith, h, length-map (point d f) (λ c. c / 2), length-point d f) in
    get_or-map (λ c. c / 2) (point d f) i 0 0 (omega (arith, inside, length-point d f)) ∙ ap (λ (c : ℕ). c / 2) (coordinate d f i inside)
    ∙ same i inside ∙ sym (coordinate d g i inside))

-- half of coordinates that are 0 or 2 are the bits of a number
pub offset_bits : (d : ℕ) (o : ℕ → ℕ) → ((i : ℕ) → i < d → (o i % 2 ≡ 0) × (o i ≤ 2)) → (i : ℕ) → i < d → o i ≡ 2 * bit_at (powers_below (λ j. o j == 2) d) i
offset_bits d o small i h = bit_of (o i) (bit_at (powers_below (λ j. o j == 2) d) i) (small i h).0 (small i h).1 (powers_bits (λ j. o j == 2) d i h)
  where
    bit_of : (n bit : ℕ) → n % 2 ≡ 0 → n ≤ 2 → bit ≡ (if n == 2 then 1 else 0) → n ≡ 2 * bit
    bit_of zero bit even most is = omega (arith, is)
    bit_of (suc zero) bit even most is = absurd (omega (arith, even))
    bit_of (suc (suc zero)) bit even most is = omega (arith, is)
    bit_of (suc (suc (suc n))) bit even most is = absurd (omega (arith, most))

with_bits : (d : ℕ) (o : ℕ → ℕ) → ((i : ℕ) → i < d → (o i % 2 ≡ 0) × (o i ≤ 2)) → (m : ℕ) × (m < 2 ^ d) × ((i : ℕ) → i < d → o i ≡ 2 * bit_at m i)
with_bits d o small = (powers_below (λ i. o i == 2) d, powers_few (λ i. o i == 2) d, offset_bits d o small)

-- a corner that is a corner of the cube
at_corner : (iso : ℤ) (b : Bool) (sizes : List ℕ) (samples : List ℤ) (x o : List ℕ) → AllOfSign iso b (cube_samples sizes samples x)
    → ((i : ℕ) → i < length sizes → (slice_index o i % 2 ≡ 0) × (slice_index o i ≤ 2)) →
    is_positive iso (value_at sizes samples (point (length sizes) (λ i. 2 * slice_index x i + slice_index o i))) ≡ b
at_corner iso b sizes samples x o all small =
    let d : ℕ = length sizes in
    let m = with_bits d (λ i. slice_index o i) small in
    let p : List ℕ = point d (λ i. 2 * slice_index x i + slice_index o i) in
    let even : (i : ℕ) → i < length p → slice_index p i % 2 ≡ 0 = λ i h.
    let inside : i < d = omega (arith, h, length-point d (λ i. 2 * slice_index x i + slice_index o i)) in
    let two : slice_index o i % 2 ≡ 0 = (small i inside).0 in
    ap (λ (c : ℕ). c % 2) (coordinate d (λ i. 2 * slice_index x i + slice_index o i) i inside) ∙ even_sum (slice_index x i) (slice_index o i) two in
    let half : halves p ≡ point d (λ i. slice_index x i + bit_at m.0 i) =
    halves_are d (λ i. 2 * slice_index x i + slice_index o i) (λ i. slice_index x i + bit_at m.0 i)
    (λ i h. half_sum (slice_index x i) (slice_index o i) (bit_at m.0 i) (m.2 i h)) in
    let F : ℕ → ℤ = λ k. sample_at sizes samples (point d (λ i. slice_index x i + bit_at k i)) in
    let sample : slice_index_or (cube_samples sizes samples x) m.0 (pos 0) ≡ sample_at sizes samples (halves p) =
    get_or-map-range_with_len F 0 (2 ^ d) m.0 m.0 (pos 0) m.1 (omega arith) ∙ ap (sample_at sizes samples) (sym half) in
    let there : m.0 < length (cube_samples sizes samples x) = let below : m.0 < 2 ^ d = m.1 in omega (arith, below, length-map-range_with_len F 0 (2 ^ d)) in
    ap (is_positive iso) (even_value sizes samples p even) ∙ eighths iso (sample_at sizes samples (halves p)) b (ap (int_le iso) (sym sample) ∙ all m.0 there)
  where
    even_sum : (a c : ℕ) → c % 2 ≡ 0 → (2 * a + c) % 2 ≡ 0
    even_sum a c h = omega (arith, h)

    half_sum : (a c bit : ℕ) → c ≡ 2 * bit → (2 * a + c) / 2 ≡ a + bit
    half_sum a c bit h = omega (arith, h)

-- a corner that is the centre of the cube
at_centre : (iso : ℤ) (b : Bool) (sizes : List ℕ) (samples : List ℤ) (x o : List ℕ) → length x ≡ length sizes
    → AllOfSign iso b (cube_samples sizes samples x) → length sizes ≡ 3 → ((i : ℕ) → i < 3 → slice_index o i ≡ 1) →
    is_positive iso (value_at sizes samples (point (length sizes) (λ i. 2 * slice_index x i + slice_index o i))) ≡ b
at_centre iso b sizes samples x o long all three ones =
    let d : ℕ = length sizes in
    let p : List ℕ = point d (λ i. 2 * slice_index x i + slice_index o i) in
    let some : 0 < length p = omega (arith, length-point d (λ i. 2 * slice_index x i + slice_index o i), three) in
    let first : slice_index p 0 ≡ 2 * slice_index x 0 + slice_index o 0 = coordinate d (λ i. 2 * slice_index x i + slice_index o i) 0 (omega (arith, three)) in
    let one : slice_index o 0 ≡ 1 = ones 0 (omega arith) in
    let odd : slice_index p 0 % 2 ≡ 1 = ap (λ (c : ℕ). c % 2) first ∙ odd_sum (slice_index x 0) (slice_index o 0) one in
    let half : halves p ≡ point d (λ i. slice_index x i) =
    halves_are d (λ i. 2 * slice_index x i + slice_index o i) (λ i. slice_index x i)
    (λ i h. half_sum (slice_index x i) (slice_index o i) (ones i (omega (arith, h, three)))) in
    let whole : halves p ≡ x =
    half
    ∙ lists_same (point d (λ i. slice_index x i)) x (length-point d (λ i. slice_index x i) ∙ sym long)
    (λ i h. coordinate d (λ i. slice_index x i) i (omega (arith, h, length-point d (λ i. slice_index x i)))) in
    let F : ℕ → ℤ = λ k. sample_at sizes samples (point d (λ i. slice_index x i + bit_at k i)) in
    let eight : length (cube_samples sizes samples x) ≡ 8 = length-map-range_with_len F 0 (2 ^ d) ∙ ap (λ (n : ℕ). 2 ^ n) three in
    ap (is_positive iso) (odd_value sizes samples p some odd) ∙ ap (λ (y : List ℕ). is_positive iso (total (cube_samples sizes samples y))) whole
    ∙ total_sign iso b (cube_samples sizes samples x) eight all
  where
    odd_sum : (a c : ℕ) → c ≡ 1 → (2 * a + c) % 2 ≡ 1
    odd_sum a c h = omega (arith, h)

    half_sum : (a c : ℕ) → c ≡ 1 → (2 * a + c) / 2 ≡ a
    half_sum a c h = omega (arith, h)

-- ---- cells

corner_sign : (kind : Kind) (g : Grid) (iso : ℤ) (cell k : ℕ) (b : Bool) → HasDimension kind (length g.sizes) → k < corner_count kind (length g.sizes)
    → AllOfSign iso b (cube_samples g.sizes g.samples (cube_of kind g.sizes cell)) →
    positive_at (volume kind g iso None) (corner kind g.sizes cell k) ≡ b
corner_sign kind g iso cell k b has hk all =
    let d : ℕ = length g.sizes in
    let is : IsDimension d = dimension_cases kind d has in
    let rank : ℕ = rank_of kind g.sizes cell in
    let o : List ℕ = corner_offset kind d rank k in
    let small : (i : ℕ) → slice_index o i ≤ 2 = λ i. small_offsets kind d is has rank k i (rank_below kind g.sizes cell (some_ranks kind d is has)) hk in
    elim (offset_case kind d rank k has) as (λ _. positive_at (volume kind g iso None) (corner kind g.sizes cell k) ≡ b) [
      | inl even ↦ at_corner iso b g.sizes g.samples (cube_of kind g.sizes cell) o all (λ i h. (even i h, small i))
      | inr centre ↦
          at_centre iso b g.sizes g.samples (cube_of kind g.sizes cell) o (length-cube_at g.sizes (cell / cells_per_cube kind d)) all centre.0
          centre.1
    ]

plain_label : (F : ℕ → Bool) (n : ℕ) (b : Bool) → ((k : ℕ) → k < n → F k ≡ b) → (powers_below F n ≡ 0) ⊎ (powers_below F n + 1 ≡ 2 ^ n)
plain_label F n true all = inr (powers_all F n all)
plain_label F n false none = inl (powers_none F n none)

-- the label of a cell of a cube that is not mixed
pub has_plain_label : (kind : Kind) (g : Grid) (iso : ℤ) (cell : ℕ) → HasPlainLabel kind g iso cell
unfolding label_of
has_plain_label kind g iso cell has plain =
    let b = one_sign iso (cube_samples g.sizes g.samples (cube_of kind g.sizes cell)) plain in
    plain_label (λ k. positive_at (volume kind g iso None) (corner kind g.sizes cell k)) (corner_count kind (length g.sizes)) b.0
    (λ k hk. corner_sign kind g iso cell k b.0 has hk b.1)
