-- Which edges lead to the centres of a layer of pyramids, and their numbers.
use Rattle.std.proofs.Common.{ap, arith, inl, inr, refl, sym, subst, ◌∙◌}
use Rattle.std.proofs.Math.Nat.{div-eq_of_lt, mod-eq_of_lt, zero-mod}
use Rattle.std.proofs.lemmas.Bool.{cases_lt}
use Rattle.std.specs.List.{list_any}
use Rattle.std.specs.Prelude.{All, Bool, List, [], ◌∷◌, count_by, drop, false, length, nat_lt, slice_index, suc, true, ℕ, if◌then◌else◌}
use Rattle.std.specs.Prelude.{◌&&◌, ◌||◌, ◌==◌, ◌%◌, ◌*◌, ◌+◌, ◌-◌, ◌/◌, ◌<◌, ◌≤◌, ◌≡◌, ◌⊎◌}
use Rattle.lists.specs.Orders.{numbers}
use Rattle.lists.proofs.Tests.{of_equal, of_lt, not_below}
use Rattle.iso_model.specs.declared.Kind.TheVariants.{Pyramid}
use Rattle.iso_model.specs.Bipolar.{differ}
use Rattle.iso_model.specs.Cells.{HasDimension}
use Rattle.iso_model.specs.Values.{Volume}
use Rattle.bit_rows.specs.Rows.{row_bit, word_count}
use Rattle.grid_rows.specs.declared.grids.GridRows.{GridRows}
use Rattle.grid_rows.specs.declared.grids.MiddleAxis.{MiddleAxis}
use Rattle.grid_rows.specs.declared.planes.BitPlane.{BitPlane}
use Rattle.grid_rows.specs.declared.planes.EdgePlane.{EdgePlane}
use Rattle.grid_rows.specs.Planes.{bit_row}
use Rattle.grid_rows.specs.RowNumbers.{bordered, cube_rows, sample_row, upper_half}
use Rattle.edge_middles.specs.GridMiddles.{count_before, is_there}
use Rattle.edge_middles.specs.Middles.{joins_centre}
use Rattle.edge_middles.specs.RowCounts.{next_row as row_after}
use Rattle.edge_middles.specs.RowLists.{row_at}
use Rattle.edge_middles.specs.WhatIsThere.{is_above_at, is_centre_above, is_kept_around, is_kept_at}
use Rattle.edge_middles.proofs.NextRows.{counts_rows}
use Rattle.edge_middles.proofs.RowCounts.{counts_centres}
use Rattle.edge_middles.proofs.WhatIsThere.{there_at_centre}
use Rattle.layer_scan.specs.CubePlanes.{with_border}
use Rattle.layer_scan.specs.GridEdges.{TellsCentreEdges, TellsCentres, first_at}
use Rattle.layer_scan.specs.GridPlanes.{AreRowsOf, TellsKept, TellsSigns, after_first}
use Rattle.layer_scan.specs.PlanesOfCentres.{centre_firsts, centre_seconds}
use Rattle.layer_scan.specs.RowsOfEdges.{number_at, row_number}
use Rattle.layer_scan.specs.ScanEdges.{AreNumberedTo}
use Rattle.layer_scan.proofs.EdgeNumbers.{AreCounted, AreThere, plane_counted, plane_told, words_reach}
use Rattle.layer_scan.proofs.EdgesThere.{cube_inside, same_where}
use Rattle.layer_scan.proofs.HeightsMet.{centres_start, no_cubes_no_edges}

-- what tells the edges at a height that lead to centres: the signs of the centres and of the samples on one side, and the kept cubes
pub record TellsSides (v : Volume) (rows : GridRows) (height : ℕ) (centres corners kept : BitPlane) : Type 0 where
  pub odd : height % 2 ≡ 1
  pub centre_signs : TellsCentres v rows (height / 4) centres
  pub corner_signs : TellsSigns v rows ((height + 1) / 4) corners
  pub kept_there : TellsKept v rows (height / 4) kept

-- ---- in three dimensions there is one row of samples along the third axis

pub axes_of_three : (rows : GridRows) (sizes : List ℕ) → length sizes ≡ 3 → AreRowsOf sizes rows
    → (rows.second.samples ≡ slice_index sizes 1) × (rows.second.cubes ≡ slice_index sizes 1 - 1) × (rows.third.samples ≡ 1) × (rows.third.cubes ≡ 1)
axes_of_three rows [] three is = absurd (omega (arith, three))
axes_of_three rows (a ∷ []) three is = absurd (omega (arith, three))
axes_of_three rows (a ∷ b ∷ []) three is = absurd (omega (arith, three))
axes_of_three rows (a ∷ b ∷ c ∷ []) three is = (
  ap (λ (m : MiddleAxis). m.samples) is.second,
  ap (λ (m : MiddleAxis). m.cubes) is.second,
  ap (λ (m : MiddleAxis). m.samples) is.third,
  ap (λ (m : MiddleAxis). m.cubes) is.third,
)
axes_of_three rows (a ∷ b ∷ c ∷ d ∷ more) three is = absurd (omega (arith, three))

-- the row of this number of cubes
pub row_of_cubes : (rows : GridRows) (i : ℕ) → i < rows.second.cubes → with_border rows i ≡ bordered rows (i + 1) 1
row_of_cubes rows i h =
    ap (λ k. bordered rows (k + 1) (i / rows.second.cubes + 1)) (mod-eq_of_lt h) ∙ ap (λ k. bordered rows (i + 1) (k + 1)) (div-eq_of_lt h)

-- ---- which are there

kept_once : (t : Bool) → (t || (t || (t || (t || false)))) ≡ t
kept_once true = refl
kept_once false = refl

-- the cubes around a row of edges to centres are those of one row
kept_in_row : (v : Volume) (n height x : ℕ) → height % 2 ≡ 1 → is_kept_around v ((2 * n + 1) ∷ height ∷ []) x ≡ is_kept_at v (x ∷ (n / 2) ∷ (height / 4) ∷ [])
kept_in_row v n height x odd =
    let low : (2 * n + 1 + 3) / 4 - 1 ≡ n / 2 = omega arith in
    let high : (2 * n + 1) / 4 ≡ n / 2 = omega arith in
    let same : (height + 3) / 4 - 1 ≡ height / 4 = omega (arith, odd) in
    let test = λ (p q : ℕ). is_kept_at v (x ∷ p ∷ q ∷ []) in
    (λ t. test (low t) (same t) || (test (high t) (same t) || (test (low t) (height / 4) || (test (high t) (height / 4) || false))))
    ∙ kept_once (test (n / 2) (height / 4))

-- along a row the number of edges before a place grows by those that are there
pub along_centres : (v : Volume) (rest : List ℕ) (m : ℕ) → HasDimension v.kind (length v.sizes) → suc (length rest) ≡ length v.sizes
    → joins_centre rest ≡ true → count_before v (4 * m ∷ rest)
    ≡ number_at (λ x. is_there v ((4 * x + 1) ∷ rest)) (λ x. is_there v ((4 * x + 3) ∷ rest)) (count_before v (0 ∷ rest)) m
along_centres v rest m fits long joins =
    let plain : (k : ℕ) → 0 + k ≡ k = λ k. omega arith in
    let turned : (a b c : ℕ) → a + b + c ≡ a + (b + c) = λ a b c. omega arith in
    ap (λ k. count_before v (4 * k ∷ rest)) (sym (plain m))
    ∙ counts_centres v rest fits long joins 0 m
    ∙ turned (count_before v (0 ∷ rest)) (count_by (λ k. is_there v ((4 * (0 + k) + 1) ∷ rest)) (numbers m))
    (count_by (λ k. is_there v ((4 * (0 + k) + 3) ∷ rest)) (numbers m))
    ∙ (λ i. number_at (λ k. is_there v ((4 * plain k i + 1) ∷ rest)) (λ k. is_there v ((4 * plain k i + 3) ∷ rest)) (count_before v (0 ∷ rest)) m)

module _ (v : Volume) (rows : GridRows) (height : ℕ) (centres corners kept : BitPlane) (is_pyramid : v.kind ≡ Pyramid) (three : length v.sizes ≡ 3)
    (is : AreRowsOf v.sizes rows) (sides : TellsSides v rows height centres corners kept) where
  odd_row : (n : ℕ) → joins_centre ((2 * n + 1) ∷ height ∷ []) ≡ true
  odd_row n =
      let first : ((2 * n + 1) % 2 == 1) ≡ true = of_equal ((2 * n + 1) % 2) 1 (omega arith) in
      λ t. first t && ((sides.odd t == 1) && true)

  -- the bits of a row of cubes
  bits_of : (n : ℕ) → n < 2 * cube_rows rows → (n / 2 < rows.second.cubes) × (upper_half n < rows.second.samples)
  bits_of n h =
      let axes = axes_of_three rows v.sizes three is in
      let all : cube_rows rows ≡ rows.second.cubes * 1 = ap (λ k. rows.second.cubes * k) axes.3 in
      (omega (arith, h, all), omega (arith, h, all, axes.0, axes.1))

  kept_bit : (n x : ℕ) → n < 2 * cube_rows rows → row_bit (bit_row kept (with_border rows (n / 2))) x ≡ is_kept_around v ((2 * n + 1) ∷ height ∷ []) x
  kept_bit n x h =
      let inside = bits_of n h in
      let axes = axes_of_three rows v.sizes three is in
      ap (λ k. row_bit (bit_row kept k) x) (row_of_cubes rows (n / 2) inside.0)
      ∙ sides.kept_there.cubes (n / 2) 0 x inside.0 (omega (arith, axes.3))
      ∙ ap (λ d. is_kept_at v (x ∷ after_first d (n / 2) 0 (height / 4))) three ∙ sym (kept_in_row v n height x sides.odd)

  centre_bit : (n x : ℕ) → n < 2 * cube_rows rows → is_kept_around v ((2 * n + 1) ∷ height ∷ []) x ≡ true
      → row_bit (bit_row centres (with_border rows (n / 2))) x ≡ is_centre_above v (x ∷ ((2 * n + 1) / 4) ∷ (height / 4) ∷ [])
  centre_bit n x h there =
      let inside = bits_of n h in
      let half : n / 2 ≡ (2 * n + 1) / 4 = omega arith in
      ap (λ k. row_bit (bit_row centres k) x) (row_of_cubes rows (n / 2) inside.0)
      ∙ sides.centre_signs (n / 2) x inside.0 (sym (kept_in_row v n height x sides.odd) ∙ there)
      ∙ ap (λ k. is_centre_above v (x ∷ k ∷ (height / 4) ∷ [])) half

  corner_bit : (n x : ℕ) → n < 2 * cube_rows rows → x < rows.length
      → row_bit (bit_row corners (upper_half n)) x ≡ is_above_at v (x ∷ ((2 * n + 1 + 1) / 4) ∷ ((height + 1) / 4) ∷ [])
  corner_bit n x h lt =
      let inside = bits_of n h in
      let axes = axes_of_three rows v.sizes three is in
      let half : upper_half n ≡ (2 * n + 1 + 1) / 4 = omega arith in
      let number : upper_half n ≡ sample_row rows (upper_half n) 0 = omega arith in
      ap (λ k. row_bit (bit_row corners k) x) number
      ∙ sides.corner_signs (upper_half n) 0 x inside.1 (omega (arith, axes.2)) lt
      ∙ ap (λ d. is_above_at v (x ∷ after_first d (upper_half n) 0 ((height + 1) / 4))) three
      ∙ ap (λ k. is_above_at v (x ∷ k ∷ ((height + 1) / 4) ∷ [])) half

  kept_inside : (n x : ℕ) → is_kept_around v ((2 * n + 1) ∷ height ∷ []) x ≡ true → x + 1 < rows.length
  kept_inside n x there = let lt = cube_inside v ((2 * n + 1) ∷ height ∷ []) x there in omega (arith, lt, is.first)

  pub centres_there : AreThere v (λ x. 4 * x + 1) (λ x. 4 * x + 3) (λ n. (2 * n + 1) ∷ height ∷ []) (2 * cube_rows rows)
      (centre_firsts rows centres corners kept) (centre_seconds rows centres corners kept)
  centres_there = record {
    firsts = λ n x h.
        let rest : List ℕ = (2 * n + 1) ∷ height ∷ [] in
        let row : List ℕ = bit_row centres (with_border rows (n / 2)) in
        let side : List ℕ = bit_row corners (upper_half n) in
        ap (λ t. differ (row_bit row x) (row_bit side x) && t) (kept_bit n x h)
        ∙ same_where (differ (row_bit row x) (row_bit side x))
        (differ (is_centre_above v (x ∷ ((2 * n + 1) / 4) ∷ (height / 4) ∷ [])) (is_above_at v (x ∷ ((2 * n + 1 + 1) / 4) ∷ ((height + 1) / 4) ∷ [])))
        (is_kept_around v rest x)
        (λ there. λ t. differ (centre_bit n x h there t) (corner_bit n x h (let lt = kept_inside n x there in omega (arith, lt)) t))
        ∙ sym (there_at_centre v rest x is_pyramid (sym three) (odd_row n)).0;
    seconds = λ n x h.
        let rest : List ℕ = (2 * n + 1) ∷ height ∷ [] in
        let row : List ℕ = bit_row centres (with_border rows (n / 2)) in
        let side : List ℕ = bit_row corners (upper_half n) in
        ap (λ t. differ (row_bit row x) (row_bit side (x + 1)) && t) (kept_bit n x h)
        ∙ same_where (differ (row_bit row x) (row_bit side (x + 1)))
        (differ (is_centre_above v (x ∷ ((2 * n + 1) / 4) ∷ (height / 4) ∷ [])) (is_above_at v ((x + 1) ∷ ((2 * n + 1 + 1) / 4) ∷ ((height + 1) / 4) ∷ [])))
        (is_kept_around v rest x)
        (λ there. λ t. differ (centre_bit n x h there t) (corner_bit n (x + 1) h (kept_inside n x there) t))
        ∙ sym (there_at_centre v rest x is_pyramid (sym three) (odd_row n)).1;
  }

  -- ---- their numbers

  end_of_row : (n : ℕ) → HasDimension v.kind (length v.sizes) → rows.words ≡ word_count rows.length
      → count_before v (4 * (64 * rows.words) ∷ (2 * n + 1) ∷ height ∷ []) ≡ count_before v (0 ∷ row_after (drop 1 v.sizes) ((2 * n + 1) ∷ height ∷ []))
  end_of_row n fits wide =
      let far : 4 * slice_index v.sizes 0 ≤ 4 * (64 * rows.words) + 3 =
      subst (λ k. 4 * k ≤ 4 * (64 * rows.words) + 3) is.first (words_reach rows.length rows.words wide) in
      counts_rows v ((2 * n + 1) ∷ height ∷ []) fits (sym three) (inr (odd_row n)) (4 * (64 * rows.words)) far

  pub centres_counted : HasDimension v.kind (length v.sizes) → rows.words ≡ word_count rows.length
      → AreCounted v (λ x. 4 * x + 1) (λ x. 4 * x + 3) (λ n. (2 * n + 1) ∷ height ∷ []) rows.words (2 * cube_rows rows)
  centres_counted fits wide = record {
    along = λ n m h. along_centres v ((2 * n + 1) ∷ height ∷ []) m fits (sym three) (odd_row n);
    step = λ n h. end_of_row n fits wide ∙ ap (λ r. count_before v (0 ∷ r)) (further v.sizes n three is h);
  }
    where
      further : (sizes : List ℕ) (n : ℕ) → length sizes ≡ 3 → AreRowsOf sizes rows → n + 1 < 2 * cube_rows rows
          → row_after (drop 1 sizes) ((2 * n + 1) ∷ height ∷ []) ≡ (2 * (n + 1) + 1) ∷ height ∷ []
      further [] n long stand h = absurd (omega (arith, long))
      further (a ∷ []) n long stand h = absurd (omega (arith, long))
      further (a ∷ b ∷ []) n long stand h = absurd (omega (arith, long))
      further (a ∷ b ∷ c ∷ []) n long stand h =
          let axes = axes_of_three rows (a ∷ b ∷ c ∷ []) refl stand in
          let all : cube_rows rows ≡ (b - 1) * 1 = ap (λ k. rows.second.cubes * k) axes.3 ∙ ap (λ k. k * 1) axes.1 in
          let room : nat_lt (2 * n + 1 + 2) (4 * b - 3) ≡ true = of_lt (2 * n + 1 + 2) (4 * b - 3) (omega (arith, h, all)) in
          let next : 2 * n + 1 + 2 ≡ 2 * (n + 1) + 1 = omega arith in
          ap (λ t. if t then (2 * n + 1 + 2) ∷ height ∷ [] else 0 ∷ (height + 1) ∷ []) room ∙ ap (λ k. k ∷ height ∷ []) next
      further (a ∷ b ∷ c ∷ d ∷ more) n long stand h = absurd (omega (arith, long))

  after_last : (sizes : List ℕ) (m : ℕ) → length sizes ≡ 3 → AreRowsOf sizes rows → 2 * cube_rows rows ≡ m + 1
      → row_after (drop 1 sizes) ((2 * m + 1) ∷ height ∷ []) ≡ 0 ∷ (height + 1) ∷ []
  after_last [] m long stand h = absurd (omega (arith, long))
  after_last (a ∷ []) m long stand h = absurd (omega (arith, long))
  after_last (a ∷ b ∷ []) m long stand h = absurd (omega (arith, long))
  after_last (a ∷ b ∷ c ∷ []) m long stand h =
      let axes = axes_of_three rows (a ∷ b ∷ c ∷ []) refl stand in
      let all : cube_rows rows ≡ (b - 1) * 1 = ap (λ k. rows.second.cubes * k) axes.3 ∙ ap (λ k. k * 1) axes.1 in
      let full : nat_lt (2 * m + 1 + 2) (4 * b - 3) ≡ false = not_below (2 * m + 1 + 2) (4 * b - 3) (omega (arith, h, all)) in
      ap (λ t. if t then (2 * m + 1 + 2) ∷ height ∷ [] else 0 ∷ (height + 1) ∷ []) full
  after_last (a ∷ b ∷ c ∷ d ∷ more) m long stand h = absurd (omega (arith, long))

-- the first point at a height of three axes
first_of_three : (v : Volume) (height : ℕ) → length v.sizes ≡ 3 → first_at v height ≡ 0 ∷ 0 ∷ height ∷ []
first_of_three v height three = by_sizes v.sizes three
  where
    by_sizes : (sizes : List ℕ) → length sizes ≡ 3 → 0 ∷ row_at (drop 1 sizes) height 0 ≡ 0 ∷ 0 ∷ height ∷ []
    by_sizes [] long = absurd (omega (arith, long))
    by_sizes (a ∷ []) long = absurd (omega (arith, long))
    by_sizes (a ∷ b ∷ []) long = absurd (omega (arith, long))
    by_sizes (a ∷ b ∷ c ∷ []) long = ap (λ z. 0 ∷ 2 * z ∷ height ∷ []) (zero-mod (2 * b - 1))
    by_sizes (a ∷ b ∷ c ∷ d ∷ more) long = absurd (omega (arith, long))

-- a plane that has the edges of these centres, corners and kept cubes, numbered from those before its height on, tells of the edges there
pub centres_told : (v : Volume) (rows : GridRows) (height count next : ℕ) (centres corners kept : BitPlane) (plane : EdgePlane)
    → HasDimension v.kind (length v.sizes) → v.kind ≡ Pyramid → length v.sizes ≡ 3 → AreRowsOf v.sizes rows → rows.words ≡ word_count rows.length
    → TellsSides v rows height centres corners kept → plane.words ≡ rows.words → count ≡ count_before v (first_at v height)
    → AreNumberedTo (centre_firsts rows centres corners kept) (centre_seconds rows centres corners kept) count (2 * cube_rows rows) plane next
    → TellsCentreEdges v rows height plane × (next ≡ count_before v (first_at v (height + 1)))
centres_told v rows height count next centres corners kept plane fits pyramid three is wide sides words start told =
    let f : ℕ → ℕ → Bool = centre_firsts rows centres corners kept in
    let g : ℕ → ℕ → Bool = centre_seconds rows centres corners kept in
    let rest : ℕ → List ℕ = λ n. (2 * n + 1) ∷ height ∷ [] in
    let all : ℕ = 2 * cube_rows rows in
    let counted = centres_counted v rows height centres corners kept pyramid three is sides fits wide in
    let there = centres_there v rows height centres corners kept pyramid three is sides in
    let begun : count ≡ count_before v (0 ∷ rest 0) =
    start ∙ ap (count_before v) (first_of_three v height three) ∙ centres_start v height three sides.odd in
    let axes = axes_of_three rows v.sizes three is in
    let count_rows : cube_rows rows ≡ (slice_index v.sizes 1 - 1) * 1 = ap (λ k. rows.second.cubes * k) axes.3 ∙ ap (λ k. k * 1) axes.1 in (
      plane_told v (λ x. 4 * x + 1) (λ x. 4 * x + 3) rest rows.words all count f g counted there plane next words begun told,
      elim (cases_lt 0 all) [
        | inl some ↦
            let last : all ≡ all - 1 + 1 = omega (arith, some) in
            plane_counted v (λ x. 4 * x + 1) (λ x. 4 * x + 3) rest rows.words all count f g counted there plane next (all - 1) words begun told last
            ∙ end_of_row v rows height centres corners kept pyramid three is sides (all - 1) fits wide
            ∙ ap (λ r. count_before v (0 ∷ r)) (after_last v rows height centres corners kept pyramid three is sides v.sizes (all - 1) three is last)
            ∙ sym (ap (count_before v) (first_of_three v (height + 1) three))
        | inr none ↦
            let empty : all ≡ 0 = omega (arith, none) in
            let plain : row_number f g plane.words count 0 ≡ count = omega arith in
            told.1 ∙ ap (row_number f g plane.words count) empty ∙ plain ∙ start
            ∙ no_cubes_no_edges v height fits (omega (arith, none, count_rows))
      ],
    )
