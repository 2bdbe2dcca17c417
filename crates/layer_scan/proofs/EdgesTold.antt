-- What the planes of edges of a scan tell after each of its calls.
use Rattle.std.proofs.Common.{ap, arith, inl, inr, refl, sym, subst, ◌∙◌}
use Rattle.std.proofs.Math.Nat.{div-eq_of_lt, mod-eq_of_lt, zero-div, zero-mod}
use Rattle.std.proofs.lemmas.Bool.{false≢true}
use Rattle.std.proofs.lemmas.Int.{ints}
use Rattle.std.specs.Int.{bit_at}
use Rattle.std.specs.Prelude.{All, Bool, List, [], ◌∷◌, drop, false, length, map, nat_lt, replicate, slice_index, slice_index_or, true, ℕ, ℤ, pos}
use Rattle.std.specs.Prelude.{◌&&◌, ◌==◌, ◌%◌, ◌*◌, ◌+◌, ◌+ℤ◌, ◌-◌, ◌/◌, ◌<◌, ◌≤◌, ◌≡◌, ◌≢◌, ◌⊎◌, ◌^◌}
use Rattle.lists.specs.Orders.{numbers}
use Rattle.lists.proofs.Tests.{and_left, lt_of, next_below}
use Rattle.iso_model.specs.declared.Kind.{Kind}
use Rattle.iso_model.specs.declared.Kind.TheVariants.{Cube, Simplex, Pyramid}
use Rattle.iso_model.specs.Cells.{HasDimension}
use Rattle.iso_model.specs.Points.{point}
use Rattle.iso_model.specs.Turns.{total}
use Rattle.iso_model.specs.Values.{Volume, is_positive, sample_at}
use Rattle.iso_model.proofs.DimensionLaws.{dimension_cases}
use Rattle.bit_rows.specs.Rows.{row_bit, word_count}
use Rattle.grid_rows.specs.declared.grids.GridRows.{GridRows}
use Rattle.grid_rows.specs.declared.grids.MiddleAxis.{MiddleAxis}
use Rattle.grid_rows.specs.declared.planes.BitPlane.{BitPlane}
use Rattle.grid_rows.specs.MiddleAxes.{edge_span}
use Rattle.grid_rows.specs.Planes.{bit_row}
use Rattle.grid_rows.specs.RowNumbers.{bordered, cube_rows, cubes_around, edge_rows, sample_row}
use Rattle.edge_middles.specs.GridMiddles.{count_before}
use Rattle.edge_middles.specs.RowLists.{row_at}
use Rattle.edge_middles.specs.WhatIsThere.{has_cube_at, is_centre_above, is_kept_around, is_kept_at}
use Rattle.edge_middles.proofs.RowCounts.{counts_none}
use Rattle.layer_scan.specs.declared.edges.LayerEdges.{LayerEdges}
use Rattle.layer_scan.specs.declared.scan.LayerPlanes.{LayerPlanes}
use Rattle.layer_scan.specs.Centres.{centre_at, far_place, four_samples, is_centre_above as is_sum_above, near_place}
use Rattle.layer_scan.specs.CubePlanes.{AreCubeBits, with_border}
use Rattle.layer_scan.specs.GridEdges.{HasMet, TellsCentreEdges, TellsCentres, TellsEdges, TellsLayer, first_at}
use Rattle.layer_scan.specs.GridPlanes.{AreRowsOf, TellsKept, TellsSigns, after_first, slice_of}
use Rattle.layer_scan.specs.GridStates.{StandsAt, StandsBetween, slice_count}
use Rattle.layer_scan.specs.PlanesOfCentres.{centre_firsts, centre_seconds}
use Rattle.layer_scan.specs.PlanesOfEdges.{firsts_of, seconds_of}
use Rattle.layer_scan.specs.RowsOfEdges.{around}
use Rattle.layer_scan.specs.ScanEdges.{AreNumberedTo, HasEdges, NumbersPyramids, NumbersSlice, NumbersUpright}
use Rattle.layer_scan.specs.ScanPlanes.{HasPlanes}
use Rattle.layer_scan.proofs.CentresThere.{TellsSides, axes_of_three, centres_told, row_of_cubes}
use Rattle.layer_scan.proofs.EdgeNumbers.{edges_told}
use Rattle.layer_scan.proofs.EdgesThere.{TellsEnds}
use Rattle.layer_scan.proofs.GridKept.{kept_upright}
use Rattle.layer_scan.proofs.GridSlices.{sample_of_slice}
use Rattle.layer_scan.proofs.HeightsMet.{plain_odd}
use Rattle.layer_scan.proofs.KeptAtSlices.{kept_at_last, kept_at_slice}
use Rattle.iso_model.proofs.CellCounts.{axes_between}

-- ---- before the first slice

-- the first point of a grid
first_point : (sizes : List ℕ) → 2 ≤ length sizes → length sizes ≤ 4 → 0 ∷ row_at (drop 1 sizes) 0 0 ≡ replicate (length sizes) 0
first_point [] few most = absurd (omega (arith, few))
first_point (a ∷ []) few most = absurd (omega (arith, few))
first_point (a ∷ b ∷ []) few most = refl
first_point (a ∷ b ∷ c ∷ []) few most = ap (λ z. 0 ∷ 2 * z ∷ 0 ∷ []) (zero-mod (2 * b - 1))
first_point (a ∷ b ∷ c ∷ d ∷ []) few most =
    ap (λ z. 0 ∷ 2 * z ∷ 2 * (0 / (2 * b - 1) % (2 * c - 1)) ∷ 0 ∷ []) (zero-mod (2 * b - 1))
    ∙ ap (λ z. 0 ∷ 0 ∷ 2 * (z % (2 * c - 1)) ∷ 0 ∷ []) (zero-div (2 * b - 1)) ∙ ap (λ z. 0 ∷ 0 ∷ 2 * z ∷ 0 ∷ []) (zero-mod (2 * c - 1))
first_point (a ∷ b ∷ c ∷ d ∷ e ∷ more) few most = absurd (omega (arith, most))

pub none_met : (v : Volume) (count : ℕ) → HasDimension v.kind (length v.sizes) → count ≡ 0 → count ≡ count_before v (first_at v 0)
none_met v count fits none =
    let within = axes_between (length v.sizes) (dimension_cases v.kind (length v.sizes) fits) in
    none ∙ sym (ap (count_before v) (first_point v.sizes within.0 within.1) ∙ counts_none v (length v.sizes))

-- ---- the edges in a slice

at_slice : (s : ℕ) → 4 * s / 4 ≡ s
at_slice s = omega arith

past_slice : (s : ℕ) → (4 * s + 2) / 4 ≡ s
past_slice s = omega arith

not_upright : (s : ℕ) → (4 * s % 4 == 2) ≡ false
not_upright s = let none : 4 * s % 4 ≡ 0 = omega arith in ap (λ n. n == 2) none

ends_in_slice : (v : Volume) (rows : GridRows) (s : ℕ) (signs kept : BitPlane) → TellsSigns v rows s signs
    → ((i j x : ℕ) → i < edge_span rows.second → j < edge_span rows.third
    → around (map (bit_row kept) (cubes_around rows i j)) x ≡ is_kept_around v (after_first (length v.sizes) (2 * i) (2 * j) (4 * s)) x)
    → TellsEnds v rows (4 * s) false signs signs kept
ends_in_slice v rows s signs kept tells kept_there = record {
  even = omega arith;
  goes = not_upright s;
  near_signs = subst (λ t. TellsSigns v rows t signs) (sym (at_slice s)) tells;
  far_signs = subst (λ t. TellsSigns v rows t signs) (sym (past_slice s)) tells;
  kept_there = kept_there;
}

slice_told : (v : Volume) (s : ℕ) (planes : LayerPlanes) (kept : BitPlane) (old new : LayerEdges) → StandsAt v s planes → HasPlanes planes
    → old.kind ≡ v.kind → TellsEnds v planes.rows (4 * s) false planes.lower_signs planes.lower_signs kept → HasEdges planes.rows new
    → HasMet v (4 * s) old → NumbersSlice planes kept old new → TellsEdges v planes.rows (4 * s) new.lower × HasMet v (4 * s + 1) new
slice_told v s planes kept old new stands has kind ends shape met numbers =
    edges_told v planes.rows (4 * s) old.count new.count false planes.lower_signs planes.lower_signs kept new.lower stands.scan.regular.fits
    stands.scan.regular.sized stands.scan.rows has.words ends shape.lower.0 met
    (subst (λ k. AreNumberedTo (firsts_of planes.rows k false planes.lower_signs planes.lower_signs kept)
    (seconds_of planes.rows k false planes.lower_signs planes.lower_signs kept) old.count (edge_rows planes.rows) new.lower new.count) kind numbers.lower)

pub lower_told : (v : Volume) (s : ℕ) (planes : LayerPlanes) (old new : LayerEdges) → StandsBetween v s planes → HasPlanes planes → old.kind ≡ v.kind
    → HasEdges planes.rows new → HasMet v (4 * s) old → NumbersSlice planes planes.around old new
    → TellsEdges v planes.rows (4 * s) new.lower × HasMet v (4 * s + 1) new
lower_told v s planes old new stands has kind shape met numbers =
    slice_told v s planes planes.around old new stands.lower has kind
    (ends_in_slice v planes.rows s planes.lower_signs planes.around stands.lower.signs
    (kept_at_slice v planes.rows s planes.kept_below planes.kept planes.around stands.lower.scan.regular.fits stands.lower.scan.rows stands.lower.below
    stands.kept stands.around))
    shape met numbers

pub last_told : (v : Volume) (s : ℕ) (planes : LayerPlanes) (old new : LayerEdges) → StandsAt v s planes → s + 1 ≡ slice_count v → HasPlanes planes
    → old.kind ≡ v.kind → HasEdges planes.rows new → HasMet v (4 * s) old → NumbersSlice planes planes.kept_below old new
    → TellsEdges v planes.rows (4 * s) new.lower × HasMet v (4 * s + 1) new
last_told v s planes old new stands last has kind shape met numbers =
    slice_told v s planes planes.kept_below old new stands has kind
    (ends_in_slice v planes.rows s planes.lower_signs planes.kept_below stands.signs
    (kept_at_last v planes.rows s planes.kept_below stands.scan.regular.fits stands.scan.rows last stands.below))
    shape met numbers

-- ---- the edges from a slice to the next one

in_layer : (s : ℕ) → (4 * s + 2 + 2) / 4 ≡ s + 1
in_layer s = omega arith

ends_upright : (v : Volume) (s : ℕ) (planes : LayerPlanes) → StandsBetween v s planes
    → TellsEnds v planes.rows (4 * s + 2) true planes.lower_signs planes.upper_signs planes.kept
ends_upright v s planes stands = record {
  even = omega arith;
  goes = let two : (4 * s + 2) % 4 ≡ 2 = omega arith in ap (λ n. n == 2) two;
  near_signs = subst (λ t. TellsSigns v planes.rows t planes.lower_signs) (sym (past_slice s)) stands.lower.signs;
  far_signs = subst (λ t. TellsSigns v planes.rows t planes.upper_signs) (sym (in_layer s)) stands.signs;
  kept_there = kept_upright v planes.rows s planes.kept stands.lower.scan.regular.fits stands.lower.scan.rows stands.kept;
}

-- the height after a height, by its own name
met_at : (v : Volume) (height next count : ℕ) → height ≡ next → count ≡ count_before v (first_at v height) → count ≡ count_before v (first_at v next)
met_at v height next count same met = met ∙ ap (λ h. count_before v (first_at v h)) same

-- of cubes and simplices
pub upright_told : (v : Volume) (s : ℕ) (planes : LayerPlanes) (old new : LayerEdges) → StandsBetween v s planes → HasPlanes planes → old.kind ≡ v.kind
    → old.kind ≢ Pyramid → HasEdges planes.rows new → HasMet v (4 * s + 1) old → NumbersUpright planes old new
    → TellsLayer v planes.rows s new × HasMet v (4 * (s + 1)) new
upright_told v s planes old new stands has kind other shape met numbers =
    let fits : HasDimension v.kind (length v.sizes) = stands.lower.scan.regular.fits in
    let plain : v.kind ≢ Pyramid = λ e. other (kind ∙ e) in
    let start = met_at v (4 * s + 1 + 1) (4 * s + 2) old.count (omega arith) (met ∙ plain_odd v (4 * s + 1) fits plain (omega arith)) in
    let told = edges_told v planes.rows (4 * s + 2) old.count new.count true planes.lower_signs planes.upper_signs planes.kept new.upright fits
    stands.lower.scan.regular.sized stands.lower.scan.rows has.words (ends_upright v s planes stands) shape.upright.0 start
    (subst (λ k. AreNumberedTo (firsts_of planes.rows k true planes.lower_signs planes.upper_signs planes.kept)
    (seconds_of planes.rows k true planes.lower_signs planes.upper_signs planes.kept) old.count (edge_rows planes.rows) new.upright new.count)
    kind numbers.upright) in (
      record {
        upright = told.0;
        centres = λ e. absurd (plain e);
        to_lower = λ e. absurd (plain e);
        to_upper = λ e. absurd (plain e);
      },
      met_at v (4 * s + 2 + 1 + 1) (4 * (s + 1)) new.count (omega arith) (told.1 ∙ plain_odd v (4 * s + 2 + 1) fits plain (omega arith)),
    )

-- ---- pyramids

-- the corners of a cube are in its two slices
eight : (a b c d e f g h : ℤ) → (a +ℤ (b +ℤ (c +ℤ (d +ℤ pos 0)))) +ℤ (e +ℤ (f +ℤ (g +ℤ (h +ℤ pos 0))))
    ≡ a +ℤ (b +ℤ (c +ℤ (d +ℤ (e +ℤ (f +ℤ (g +ℤ (h +ℤ pos 0)))))))
eight a b c d e f g h = omega (arith, ints)

module _ (v : Volume) (rows : GridRows) (s i x : ℕ) (fits : HasDimension v.kind (length v.sizes)) (three : length v.sizes ≡ 3)
    (is : AreRowsOf v.sizes rows) (h : i < rows.second.cubes) (lt : x + 1 < rows.length) where
  abbrev corner_value : ℕ → ℕ → ℕ → ℤ
  corner_value p q t = sample_at v.sizes v.samples ((x + p) ∷ (i + q) ∷ (s + t) ∷ [])

  -- the sample at a corner, in its slice
  in_slice : (p q t : ℕ) → p ≤ 1 → q ≤ 1
      → slice_index_or (slice_of rows v.samples (s + t)) (sample_row rows (i + q) 0 * rows.length + (x + p)) (pos 0) ≡ corner_value p q t
  in_slice p q t few low =
      let axes = axes_of_three rows v.sizes three is in
      sample_of_slice v rows (s + t) (i + q) 0 (x + p) fits is (omega (arith, h, low, axes.0, axes.1)) (omega (arith, axes.2)) (omega (arith, lt, few))
      ∙ ap (λ d. sample_at v.sizes v.samples ((x + p) ∷ after_first d (i + q) 0 (s + t))) three

  -- where the corners stand in a slice
  near_at : near_place rows i + x ≡ sample_row rows (i + 0) 0 * rows.length + (x + 0)
  near_at =
      let first : i % rows.second.cubes ≡ i = mod-eq_of_lt h in
      let second : i / rows.second.cubes ≡ 0 = div-eq_of_lt h in
      let plain : sample_row rows i 0 * rows.length + x ≡ sample_row rows (i + 0) 0 * rows.length + (x + 0) =
      (λ t. sample_row rows (one i t) 0 * rows.length + one x t) in
      (λ t. sample_row rows (first t) (second t) * rows.length + x) ∙ plain
    where
      one : (n : ℕ) → n ≡ n + 0
      one n = omega arith

  far_at : far_place rows i + x ≡ sample_row rows (i + 1) 0 * rows.length + (x + 0)
  far_at =
      let first : i % rows.second.cubes ≡ i = mod-eq_of_lt h in
      let second : i / rows.second.cubes ≡ 0 = div-eq_of_lt h in
      let step : rows.second.step ≡ 1 = omega (arith, rows.few.0.2, h, (axes_of_three rows v.sizes three is).0, (axes_of_three rows v.sizes three is).1) in
      let plain : x ≡ x + 0 = omega arith in
      (λ t. sample_row rows (first t + step t) (second t) * rows.length + plain t)

  abbrev sum_in : ℕ → ℤ
  sum_in t = corner_value 0 0 t +ℤ (corner_value 1 0 t +ℤ (corner_value 0 1 t +ℤ (corner_value 1 1 t +ℤ pos 0)))

  -- the samples of the cube in one of the slices
  slice_sum : (t : ℕ) → total (four_samples (slice_of rows v.samples (s + t)) (near_place rows i + x) (far_place rows i + x)) ≡ sum_in t
  slice_sum t =
      let slice : List ℤ = slice_of rows v.samples (s + t) in
      let next : (n k : ℕ) → n + (k + 0) + 1 ≡ n + (k + 1) = λ n k. omega arith in
      let at = λ (n : ℕ). slice_index_or slice n (pos 0) in
      let a : at (near_place rows i + x) ≡ corner_value 0 0 t = ap at near_at ∙ in_slice 0 0 t (omega arith) (omega arith) in
      let b : at (near_place rows i + x + 1) ≡ corner_value 1 0 t =
      ap (λ n. at (n + 1)) near_at ∙ ap at (next (sample_row rows (i + 0) 0 * rows.length) x) ∙ in_slice 1 0 t (omega arith) (omega arith) in
      let c : at (far_place rows i + x) ≡ corner_value 0 1 t = ap at far_at ∙ in_slice 0 1 t (omega arith) (omega arith) in
      let d : at (far_place rows i + x + 1) ≡ corner_value 1 1 t =
      ap (λ n. at (n + 1)) far_at ∙ ap at (next (sample_row rows (i + 1) 0 * rows.length) x) ∙ in_slice 1 1 t (omega arith) (omega arith) in
      λ k. a k +ℤ (b k +ℤ (c k +ℤ (d k +ℤ pos 0)))

  pub centre_sum : (lower upper : List ℤ) → lower ≡ slice_of rows v.samples s → upper ≡ slice_of rows v.samples (s + 1)
      → is_sum_above v.iso lower upper (near_place rows i + x) (far_place rows i + x) ≡ is_centre_above v (x ∷ i ∷ s ∷ [])
  centre_sum lower upper low high =
      let own : s ≡ s + 0 = omega arith in
      let near : ℕ = near_place rows i + x in
      let far : ℕ = far_place rows i + x in
      (λ t. is_sum_above v.iso (low t) (high t) near far)
      ∙ ap (λ r. is_sum_above v.iso (slice_of rows v.samples r) (slice_of rows v.samples (s + 1)) near far) own
      ∙ (λ t. is_positive v.iso (slice_sum 0 t +ℤ slice_sum 1 t))
      ∙ ap (is_positive v.iso) (eight (corner_value 0 0 0) (corner_value 1 0 0) (corner_value 0 1 0) (corner_value 1 1 0)
      (corner_value 0 0 1) (corner_value 1 0 1) (corner_value 0 1 1) (corner_value 1 1 1))
      ∙ ap (λ d. is_positive v.iso (total (map (λ k. sample_at v.sizes v.samples (point d (λ a. slice_index (x ∷ i ∷ s ∷ []) a + bit_at k a)))
      (numbers (2 ^ d))))) (sym three)

-- the signs of the centres of kept cubes
centres_tell : (v : Volume) (s : ℕ) (planes : LayerPlanes) (centres : BitPlane) (lower upper : List ℤ) → v.kind ≡ Pyramid → length v.sizes ≡ 3
    → StandsBetween v s planes → lower ≡ slice_of planes.rows v.samples s → upper ≡ slice_of planes.rows v.samples (s + 1)
    → AreCubeBits planes.rows (centre_at planes.rows planes.kept planes.iso lower upper) centres → TellsCentres v planes.rows s centres
centres_tell v s planes centres lower upper pyramid three stands low high bits i x h there =
    let rows : GridRows = planes.rows in
    let is : AreRowsOf v.sizes rows = stands.lower.scan.rows in
    let axes = axes_of_three rows v.sizes three is in
    let cubes : cube_rows rows ≡ rows.second.cubes * 1 = ap (λ k. rows.second.cubes * k) axes.3 in
    let row = row_of_cubes rows i h in
    let near : ℕ = near_place rows i + x in
    let far : ℕ = far_place rows i + x in
    let kept : row_bit (bit_row planes.kept (with_border rows i)) x ≡ true =
    ap (λ k. row_bit (bit_row planes.kept k) x) row ∙ stands.kept.cubes i 0 x h (omega (arith, axes.3))
    ∙ ap (λ d. is_kept_at v (x ∷ after_first d i 0 s)) three ∙ there in
    let lt : x + 1 < rows.length = inside v.sizes is (and_left (has_cube_at v.sizes (x ∷ i ∷ s ∷ [])) (v.kept (x ∷ i ∷ s ∷ [])) there) in
    ap (λ k. row_bit (bit_row centres k) x) (sym row) ∙ bits i (omega (arith, h, cubes)) x
    ∙ ap (λ t. t && is_sum_above planes.iso lower upper near far) kept
    ∙ ap (λ (z : ℤ). is_sum_above z lower upper near far) stands.lower.scan.iso
    ∙ centre_sum v rows s i x stands.lower.scan.regular.fits three is h lt lower upper low high
  where
    inside : (sizes : List ℕ) → AreRowsOf sizes planes.rows → has_cube_at sizes (x ∷ i ∷ s ∷ []) ≡ true → x + 1 < planes.rows.length
    inside [] is t = absurd (false≢true t)
    inside (n ∷ sizes) is t = let lt = lt_of (x + 1) n (and_left (nat_lt (x + 1) n) (has_cube_at sizes (i ∷ s ∷ [])) t) in omega (arith, lt, is.first)

pub pyramids_told : (v : Volume) (s : ℕ) (planes : LayerPlanes) (lower upper : List ℤ) (old new : LayerEdges) → StandsBetween v s planes
    → HasPlanes planes → old.kind ≡ v.kind → old.kind ≡ Pyramid → HasEdges planes.rows new
    → lower ≡ slice_of planes.rows v.samples s → upper ≡ slice_of planes.rows v.samples (s + 1)
    → HasMet v (4 * s + 1) old → NumbersPyramids planes lower upper old new → TellsLayer v planes.rows s new × HasMet v (4 * (s + 1)) new
pyramids_told v s planes lower upper old new stands has kind own shape low high met numbers =
    let same : new.kind ≡ Pyramid = ap (λ (e : LayerEdges). e.kind) numbers.rest ∙ own in
    let rows : GridRows = planes.rows in
    let fits : HasDimension v.kind (length v.sizes) = stands.lower.scan.regular.fits in
    let is : AreRowsOf v.sizes rows = stands.lower.scan.rows in
    let pyramid : v.kind ≡ Pyramid = sym kind ∙ own in
    let three : length v.sizes ≡ 3 = subst (λ k. HasDimension k (length v.sizes)) pyramid fits in
    let tells = centres_tell v s planes new.centres lower upper pyramid three stands low high numbers.centres in
    let below : TellsSides v rows (4 * s + 1) new.centres planes.lower_signs planes.kept = record {
      odd = omega arith;
      centre_signs = subst (λ t. TellsCentres v rows t new.centres) (sym (first_quarter s)) tells;
      corner_signs = subst (λ t. TellsSigns v rows t planes.lower_signs) (sym (before_half s)) stands.lower.signs;
      kept_there = subst (λ t. TellsKept v rows t planes.kept) (sym (first_quarter s)) stands.kept;
    } in
    let above : TellsSides v rows (4 * s + 3) new.centres planes.upper_signs planes.kept = record {
      odd = omega arith;
      centre_signs = subst (λ t. TellsCentres v rows t new.centres) (sym (third_quarter s)) tells;
      corner_signs = subst (λ t. TellsSigns v rows t planes.upper_signs) (sym (past_quarters s)) stands.signs;
      kept_there = subst (λ t. TellsKept v rows t planes.kept) (sym (third_quarter s)) stands.kept;
    } in
    let first = centres_told v rows (4 * s + 1) old.count numbers.second new.centres planes.lower_signs planes.kept new.to_lower fits pyramid three is
    has.words below (shape.to_lower same).0 met numbers.to_lower in
    let second = edges_told v rows (4 * s + 2) numbers.second numbers.third true planes.lower_signs planes.upper_signs planes.kept new.upright fits
    stands.lower.scan.regular.sized is has.words (ends_upright v s planes stands) shape.upright.0
    (met_at v (4 * s + 1 + 1) (4 * s + 2) numbers.second (omega arith) first.1)
    (subst (λ k. AreNumberedTo (firsts_of rows k true planes.lower_signs planes.upper_signs planes.kept)
    (seconds_of rows k true planes.lower_signs planes.upper_signs planes.kept) numbers.second (edge_rows rows) new.upright numbers.third)
    kind numbers.upright) in
    let third = centres_told v rows (4 * s + 3) numbers.third new.count new.centres planes.upper_signs planes.kept new.to_upper fits pyramid three is
    has.words above (shape.to_upper same).0 (met_at v (4 * s + 2 + 1) (4 * s + 3) numbers.third (omega arith) second.1) numbers.to_upper in (
      record { upright = second.0; centres = λ e. tells; to_lower = λ e. first.0; to_upper = λ e. third.0 },
      met_at v (4 * s + 3 + 1) (4 * (s + 1)) new.count (omega arith) third.1,
    )
  where
    first_quarter : (s : ℕ) → (4 * s + 1) / 4 ≡ s
    first_quarter s = omega arith

    before_half : (s : ℕ) → (4 * s + 1 + 1) / 4 ≡ s
    before_half s = omega arith

    third_quarter : (s : ℕ) → (4 * s + 3) / 4 ≡ s
    third_quarter s = omega arith

    past_quarters : (s : ℕ) → (4 * s + 3 + 1) / 4 ≡ s + 1
    past_quarters s = omega arith

-- ---- whichever the kind

pub pyramid_or_not : (kind : Kind) → (kind ≡ Pyramid) ⊎ (kind ≢ Pyramid)
pyramid_or_not Cube = inr (λ p. absurd (cc))
pyramid_or_not Simplex = inr (λ p. absurd (cc))
pyramid_or_not Pyramid = inl refl

pub layer_told : (v : Volume) (s : ℕ) (planes : LayerPlanes) (lower upper : List ℤ) (old new : LayerEdges) → StandsBetween v s planes
    → HasPlanes planes → old.kind ≡ v.kind → HasEdges planes.rows new → lower ≡ slice_of planes.rows v.samples s
    → upper ≡ slice_of planes.rows v.samples (s + 1) → HasMet v (4 * s + 1) old → (old.kind ≢ Pyramid → NumbersUpright planes old new)
    → (old.kind ≡ Pyramid → NumbersPyramids planes lower upper old new) → TellsLayer v planes.rows s new × HasMet v (4 * (s + 1)) new
layer_told v s planes lower upper old new stands has kind shape low high met plain pyramids =
    elim (pyramid_or_not old.kind) as (λ _. TellsLayer v planes.rows s new × HasMet v (4 * (s + 1)) new) [
      | inl own ↦ pyramids_told v s planes lower upper old new stands has kind own shape low high met (pyramids own)
      | inr other ↦ upright_told v s planes old new stands has kind other shape met (plain other)
    ]
