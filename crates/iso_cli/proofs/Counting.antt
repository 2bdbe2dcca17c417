-- The spectrum of a grid: when its file is not refused, and the lines that are put.
use Rattle.std.proofs.Common.{◌≡◌, ◌≤◌, ◌<◌, ◌+◌, ℕ, ℤ, List, [], ◌∷◌, ◌++◌, length, map, refl, sym, ap, subst, ◌∙◌, arith, inl, inr, Option, Some}
use Rattle.std.specs.Prelude.{◌^◌, ◌-ℤ◌, flat_map, slice_index, unsigned_abs, Result, Ok, Err, IfOk}
use Rattle.std.specs.Prelude.{Vec}
use Rattle.std.proofs.Common.{Global, w64, to_z, of_z}
use Rattle.std.proofs.lemmas.Int.{fits_signed_from_abs, to_z-of_z}
use Rattle.std.proofs.lemmas.List.{append-nil, length-map}
use Rattle.std.proofs.lemmas.List.Concat.{flat_map-append}
use Rattle.std.proofs.lemmas.List.FromFn.{length-range_with_len}
use Rattle.iso_base.specs.Files.{Files}
use Rattle.lists.specs.Members.{In}
use Rattle.lists.specs.Orders.{numbers}
use Rattle.lists.proofs.MemberLaws.{at_numbers, from_In-numbers, range-push}
use Rattle.iso_model.specs.declared.Kind.{Kind}
use Rattle.iso_model.specs.declared.Kind.TheVariants.{Cube, Simplex, Pyramid}
use Rattle.iso_model.specs.Cells.{HasDimension}
use Rattle.iso_model.specs.Values.{Grid, IsRegularGrid}
use Rattle.iso_commands.specs.Commands.{IsRange}
use Rattle.iso_formats.specs.GridFile.{SpellsGrid}
use Rattle.edge_spectrum.specs.Spectrum.{edges_at, iso_after, isovalues, spectrum_of}
use Rattle.iso_cli.specs.declared.status.Status.{Status}
use Rattle.iso_cli.specs.Axes.{axes_needed}
use Rattle.iso_cli.specs.Refusals.{FileHas, IsRefusedGrid}
use Rattle.iso_cli.specs.Spectra.{HoldsGrid, IsSpectrumText, count_line, spectrum_text}
use Rattle.iso_cli.proofs.Excluding.{both_have, not_refused_grid}

-- ---- the grid

-- a dimension that cells of a kind have is the one that is needed
needed_has : (kind : Kind) (n : ℕ) → HasDimension kind n → axes_needed kind n ≡ n
needed_has Cube n has = refl
needed_has Simplex n has = refl
needed_has Pyramid n has = sym has

-- and of two to four the one that is needed is one that they have
pub has_needed : (kind : Kind) (n : ℕ) → 2 ≤ n → n ≤ 4 → axes_needed kind n ≡ n → HasDimension kind n
has_needed Cube n least most is = (least, most)
has_needed Simplex n least most is = (least, most)
has_needed Pyramid n least most is = sym is

pub not_refused_spectrum : (files : Files) (name : List ℕ) (kind : Kind) (g : Grid) (status : Status) → HoldsGrid (Some files) name kind g
    → FileHas (Some files) name (λ bytes. IsRefusedGrid (axes_needed kind) bytes status) → ⊥
not_refused_spectrum files name kind g status holds refused =
    let both = both_have files name (λ bytes. SpellsGrid bytes g) (λ bytes. IsRefusedGrid (axes_needed kind) bytes status) holds.held refused in
    not_refused_grid (axes_needed kind) both.0 g status both.1 (needed_has kind (length g.sizes) holds.fits) both.2

-- the file of a grid that was read
pub holds_grid : {E : Type 0} (files : Option Files) (name : List ℕ) (kind : Kind) (result : Result Grid E)
    → IfOk result (λ g. FileHas files name (λ bytes. SpellsGrid bytes g)) → IfOk result (λ g. axes_needed kind (length g.sizes) ≡ length g.sizes)
    → IfOk result IsRegularGrid → IfOk result (HoldsGrid files name kind)
holds_grid files name kind (Ok g) held fits regular =
    record { held = held; fits = has_needed kind (length g.sizes) regular.two_axes regular.four_axes fits }
holds_grid files name kind (Err e) held fits regular = tt

-- ---- numbers of 64 bits

pub isovalue_is : (n : ℤ) → unsigned_abs n ≤ 2 ^ 40 → to_z w64 (of_z w64 n) ≡ n
isovalue_is n small = to_z-of_z w64 n (fits_signed_from_abs w64 n (omega (arith, small)))

pub range_moved : (from to from' to' : ℤ) → from' ≡ from → to' ≡ to → IsRange from to → IsRange from' to'
range_moved from to from' to' first last range =
    subst (λ (z : ℤ). IsRange z to') (sym first) (subst (λ (z : ℤ). IsRange from z) (sym last) range)

pub few_steps : (from to : ℤ) → IsRange from to → unsigned_abs (to -ℤ from) ≤ 65535
few_steps from to range = omega (arith, range.1)

-- ---- the lines

flat_same : {X Y : Type 0} (f g : X → List Y) (xs : List X) → ((x : X) → In x xs → f x ≡ g x) → flat_map f xs ≡ flat_map g xs
flat_same f g [] same = refl
flat_same f g (x ∷ xs) same = (λ i. same x (inl refl) i ++ flat_same f g xs (λ y m. same y (inr m)) i)

-- one more line
pub one_line : (from : ℤ) (counts : List ℕ) (i : ℕ) (before after line : List ℕ)
    → before ≡ flat_map (λ j. count_line (iso_after from j) (slice_index counts j)) (numbers i) → after ≡ before ++ line
    → line ≡ count_line (iso_after from i) (slice_index counts i)
    → after ≡ flat_map (λ j. count_line (iso_after from j) (slice_index counts j)) (numbers (i + 1))
one_line from counts i before after line was put is =
    let f : ℕ → List ℕ = λ j. count_line (iso_after from j) (slice_index counts j) in
    let plain : 0 + i ≡ i = omega arith in
    let more : numbers (i + 1) ≡ numbers i ++ i ∷ [] = range-push 0 i ∙ ap (λ k. numbers i ++ k ∷ []) plain in
    put ∙ (λ k. was k ++ is k) ∙ ap (λ (xs : List ℕ). flat_map f (numbers i) ++ xs) (sym (append-nil (f i)))
    ∙ sym (flat_map-append f (numbers i) (i ∷ [])) ∙ ap (flat_map f) (sym more)

-- the lines of the counts are the text of the spectrum
pub lines_are : (kind : Kind) (g : Grid) (from to : ℤ) (counts : List ℕ) → counts ≡ spectrum_of kind g from to
    → flat_map (λ i. count_line (iso_after from i) (slice_index counts i)) (numbers (length counts)) ≡ spectrum_text kind g from to
lines_are kind g from to counts is =
    let f : ℕ → ℕ = λ i. edges_at kind g (iso_after from i) in
    let n : ℕ = isovalues from to in
    let long : length counts ≡ n = ap (λ (xs : List ℕ). length xs) is ∙ length-map (numbers n) f ∙ length-range_with_len 0 n in
    let one : (i : ℕ) → In i (numbers n) → slice_index counts i ≡ f i =
    λ i m. ap (λ (xs : List ℕ). slice_index xs i) is ∙ at_numbers f n i 0 (from_In-numbers n i m) in
    ap (λ (k : ℕ). flat_map (λ i. count_line (iso_after from i) (slice_index counts i)) (numbers k)) long
    ∙ flat_same (λ i. count_line (iso_after from i) (slice_index counts i)) (λ i. count_line (iso_after from i) (f i)) (numbers n)
    (λ i m. ap (count_line (iso_after from i)) (one i m))

-- there are few of them
pub counts_few : (kind : Kind) (g : Grid) (from to : ℤ) (counts : List ℕ) → IsRange from to → counts ≡ spectrum_of kind g from to → length counts ≤ 65536
counts_few kind g from to counts range is =
    let f : ℕ → ℕ = λ i. edges_at kind g (iso_after from i) in
    let long : length counts ≡ isovalues from to =
    ap (λ (xs : List ℕ). length xs) is ∙ length-map (numbers (isovalues from to)) f ∙ length-range_with_len 0 (isovalues from to) in
    omega (arith, long, range.1)

-- the lines of counts that are those of the spectrum
pub lines_put : {E : Type 0} (kind : Kind) (g : Grid) (from to : ℤ) (counts : List ℕ) (result : Result (Vec ℕ Global) E) → counts ≡ spectrum_of kind g from to
    → IfOk result (λ bytes. bytes.items ≡ flat_map (λ i. count_line (iso_after from i) (slice_index counts i)) (numbers (length counts)))
    → IfOk result (λ bytes. bytes.items ≡ spectrum_text kind g from to)
lines_put kind g from to counts (Ok bytes) is put = put ∙ lines_are kind g from to counts is
lines_put kind g from to counts (Err e) is put = tt

-- where the ends of the range are given by other numbers that equal them
pub spectrum_text_at : (files : Option Files) (name : List ℕ) (kind : Kind) (from to from' to' : ℤ) (g : Grid) → HoldsGrid files name kind g
    → IsRegularGrid g → from' ≡ from → to' ≡ to → (text : List ℕ) → text ≡ spectrum_text kind g from' to' → IsSpectrumText files name kind from to text
spectrum_text_at files name kind from to from' to' g held regular same_from same_to text spelled = record {
  g = g;
  held = held;
  regular = regular;
  spelled = spelled ∙ (λ i. spectrum_text kind g (same_from i) (same_to i));
}
