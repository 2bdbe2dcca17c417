-- The numbers of the edges of a plane are those of the edges that come before in the grid.
use Rattle.std.proofs.Common.{ap, arith, inl, inr, refl, sym, subst, ◌∙◌}
use Rattle.std.proofs.Math.Nat.{mul-le-mul}
use Rattle.std.specs.Prelude.{Bool, List, [], ◌∷◌, count_by, drop, length, nat_lt, slice_index, slice_index_or, suc, true, zero, ℕ}
use Rattle.std.specs.Prelude.{◌==◌, ◌%◌, ◌*◌, ◌+◌, ◌-◌, ◌/◌, ◌<◌, ◌≤◌, ◌≡◌, All}
use Rattle.std.proofs.lemmas.Nat.{div_below, mod_below}
use Rattle.lists.specs.Orders.{numbers}
use Rattle.iso_model.specs.Cells.{HasDimension}
use Rattle.iso_model.specs.Values.{Volume}
use Rattle.iso_model.proofs.DimensionLaws.{dimension_cases}
use Rattle.bit_rows.specs.Rows.{word_count}
use Rattle.grid_rows.specs.declared.grids.GridRows.{GridRows}
use Rattle.grid_rows.specs.declared.grids.MiddleAxis.{MiddleAxis}
use Rattle.grid_rows.specs.declared.planes.BitPlane.{BitPlane}
use Rattle.grid_rows.specs.declared.planes.EdgePlane.{EdgePlane}
use Rattle.grid_rows.specs.MiddleAxes.{edge_span}
use Rattle.grid_rows.specs.Planes.{edge_row, no_edge}
use Rattle.grid_rows.specs.RowNumbers.{edge_rows}
use Rattle.edge_middles.specs.GridMiddles.{count_before, is_there}
use Rattle.edge_middles.specs.Middles.{joins_samples}
use Rattle.edge_middles.specs.RowCounts.{next_row as row_after}
use Rattle.edge_middles.specs.RowLists.{row_at}
use Rattle.edge_middles.proofs.NextRows.{counts_rows}
use Rattle.edge_middles.proofs.PointsThere.{along_axis}
use Rattle.edge_middles.proofs.RowCounts.{counts_samples}
use Rattle.layer_scan.specs.GridEdges.{TellsEdges, TellsRow, first_at}
use Rattle.layer_scan.specs.GridPlanes.{AreRowsOf, after_first}
use Rattle.layer_scan.specs.PlanesOfEdges.{edge_row_at, firsts_of, seconds_of}
use Rattle.layer_scan.specs.RowsOfEdges.{number_at, row_number}
use Rattle.layer_scan.specs.ScanEdges.{AreNumberedTo}
use Rattle.layer_scan.proofs.EdgePlaneSteps.{next_row}
use Rattle.layer_scan.proofs.EdgesThere.{TellsEnds, row_told, stands_in_halves}
use Rattle.layer_scan.proofs.RowsInOrder.{row_end, row_next, row_stands, rows_there}
use Rattle.iso_model.proofs.CellCounts.{axes_between}

-- ---- a plane whose rows have two midpoints at each place

-- so many rows of midpoints: how many edges come before a place of a row, and that none stand between its end and the next row
pub record AreCounted (v : Volume) (first second : ℕ → ℕ) (rest : ℕ → List ℕ) (words rows : ℕ) : Type 0 where
  pub along : (n m : ℕ) → n < rows → count_before v (4 * m ∷ rest n)
      ≡ number_at (λ x. is_there v (first x ∷ rest n)) (λ x. is_there v (second x ∷ rest n)) (count_before v (0 ∷ rest n)) m
  pub step : (n : ℕ) → n + 1 < rows → count_before v (4 * (64 * words) ∷ rest n) ≡ count_before v (0 ∷ rest (n + 1))

-- what a plane has at each place is what is there
pub record AreThere (v : Volume) (first second : ℕ → ℕ) (rest : ℕ → List ℕ) (rows : ℕ) (f g : ℕ → ℕ → Bool) : Type 0 where
  pub firsts : (n x : ℕ) → n < rows → f n x ≡ is_there v (first x ∷ rest n)
  pub seconds : (n x : ℕ) → n < rows → g n x ≡ is_there v (second x ∷ rest n)

module _ (v : Volume) (first second : ℕ → ℕ) (rest : ℕ → List ℕ) (words rows count : ℕ) (f g : ℕ → ℕ → Bool)
    (counted : AreCounted v first second rest words rows) (there : AreThere v first second rest rows f g) where
  -- in a row, from its own number on
  row_counted : (n m : ℕ) → n < rows → number_at (f n) (g n) (count_before v (0 ∷ rest n)) m ≡ count_before v (4 * m ∷ rest n)
  row_counted n m h =
      (λ i. number_at (λ x. there.firsts n x h i) (λ x. there.seconds n x h i) (count_before v (0 ∷ rest n)) m) ∙ sym (counted.along n m h)

  rows_numbered : (n : ℕ) → n < rows → count ≡ count_before v (0 ∷ rest 0) → row_number f g words count n ≡ count_before v (0 ∷ rest n)
  rows_numbered zero h start = let none : row_number f g words count 0 ≡ count = omega arith in none ∙ start
  rows_numbered (suc n) h start =
      let after : suc n ≡ n + 1 = omega arith in
      ap (row_number f g words count) after ∙ next_row f g words count n
      ∙ ap (λ c. number_at (f n) (g n) c (64 * words)) (rows_numbered n (omega (arith, h)) start)
      ∙ row_counted n (64 * words) (omega (arith, h)) ∙ counted.step n (omega (arith, h))
      ∙ ap (λ k. count_before v (0 ∷ rest k)) (sym after)

  pub plane_told : (plane : EdgePlane) (next : ℕ) → plane.words ≡ words → count ≡ count_before v (0 ∷ rest 0) → AreNumberedTo f g count rows plane next
      → (n : ℕ) → n < rows → TellsRow v first second (rest n) (edge_row plane n)
  plane_told plane next wide start told n h w lt =
      let word = told.0 n h w lt in
      let number : row_number f g plane.words count n ≡ count_before v (0 ∷ rest n) =
      ap (λ k. row_number f g k count n) wide ∙ rows_numbered n h start in
      record {
        first = λ k low. word.0 k low ∙ there.firsts n (64 * w + k) h;
        second = λ k low. word.1 k low ∙ there.seconds n (64 * w + k) h;
        before = word.2 ∙ ap (λ c. number_at (f n) (g n) c (64 * w)) number ∙ row_counted n (64 * w) h;
      }

  pub plane_counted : (plane : EdgePlane) (next m : ℕ) → plane.words ≡ words → count ≡ count_before v (0 ∷ rest 0)
      → AreNumberedTo f g count rows plane next → rows ≡ m + 1 → next ≡ count_before v (4 * (64 * words) ∷ rest m)
  plane_counted plane next m wide start told last =
      let inside : m < rows = omega (arith, last) in
      told.1 ∙ ap (λ k. row_number f g k count rows) wide ∙ ap (row_number f g words count) last ∙ next_row f g words count m
      ∙ ap (λ c. number_at (f m) (g m) c (64 * words)) (rows_numbered m inside start) ∙ row_counted m (64 * words) inside

-- ---- planes of edges that join samples

-- a row has its words' places and more than its samples
pub words_reach : (length words : ℕ) → words ≡ word_count length → 4 * length ≤ 4 * (64 * words) + 3
words_reach length words e = omega (arith, e)

-- along a row the number of edges before a place grows by those that are there
pub along_samples : (v : Volume) (rest : List ℕ) (m : ℕ) → HasDimension v.kind (length v.sizes) → suc (length rest) ≡ length v.sizes
    → joins_samples rest ≡ true → count_before v (4 * m ∷ rest)
    ≡ number_at (λ x. is_there v (4 * x ∷ rest)) (λ x. is_there v ((4 * x + 2) ∷ rest)) (count_before v (0 ∷ rest)) m
along_samples v rest m fits long joins =
    let plain : (k : ℕ) → 0 + k ≡ k = λ k. omega arith in
    let turned : (a b c : ℕ) → a + b + c ≡ a + (b + c) = λ a b c. omega arith in
    ap (λ k. count_before v (4 * k ∷ rest)) (sym (plain m))
    ∙ counts_samples v rest fits long joins 0 m
    ∙ turned (count_before v (0 ∷ rest)) (count_by (λ k. is_there v (4 * (0 + k) ∷ rest)) (numbers m))
    (count_by (λ k. is_there v ((4 * (0 + k) + 2) ∷ rest)) (numbers m))
    ∙ (λ i. number_at (λ k. is_there v (4 * plain k i ∷ rest)) (λ k. is_there v ((4 * plain k i + 2) ∷ rest)) (count_before v (0 ∷ rest)) m)

module _ (v : Volume) (rows : GridRows) (height : ℕ) (fits : HasDimension v.kind (length v.sizes)) (sized : All (λ n. 1 ≤ n) v.sizes)
    (is : AreRowsOf v.sizes rows) (wide : rows.words ≡ word_count rows.length) (even : height % 2 ≡ 0) where
  abbrev sample_rest : ℕ → List ℕ
  sample_rest n = row_at (drop 1 v.sizes) height n

  stands_so : (n : ℕ) → n < edge_rows rows
      → sample_rest n ≡ after_first (length v.sizes) (2 * (n % edge_span rows.second)) (2 * (n / edge_span rows.second)) height
  stands_so n h =
      let within = axes_between (length v.sizes) (dimension_cases v.kind (length v.sizes) fits) in
      row_stands rows v.sizes height n within.0 within.1 is h

  joins : (n : ℕ) → n < edge_rows rows → joins_samples (sample_rest n) ≡ true
  joins n h =
      let within = axes_between (length v.sizes) (dimension_cases v.kind (length v.sizes) fits) in
      ap joins_samples (stands_so n h)
      ∙ (stands_in_halves (n % edge_span rows.second) (n / edge_span rows.second) height
      (length v.sizes) (dimension_cases v.kind (length v.sizes) fits)).even even

  long : (n : ℕ) → n < edge_rows rows → suc (length (sample_rest n)) ≡ length v.sizes
  long n h =
      let within = axes_between (length v.sizes) (dimension_cases v.kind (length v.sizes) fits) in
      ap (λ r. suc (length r)) (stands_so n h)
      ∙ (stands_in_halves (n % edge_span rows.second) (n / edge_span rows.second) height (length v.sizes) (dimension_cases v.kind (length v.sizes) fits)).long

  sized_rest : (sizes : List ℕ) → 2 ≤ length sizes → All (λ n. 1 ≤ n) sizes → All (λ n. 1 ≤ n) (drop 1 sizes)
  sized_rest [] few all = λ k d lt. absurd (omega (arith, few))
  sized_rest (n ∷ sizes) few all = λ k d lt. all (suc k) d (omega (arith, lt))

  some_rest : (sizes : List ℕ) → 2 ≤ length sizes → 1 ≤ length (drop 1 sizes)
  some_rest [] few = absurd (omega (arith, few))
  some_rest (n ∷ sizes) few = omega (arith, few)

  end_of_row : (n : ℕ) → n < edge_rows rows
      → count_before v (4 * (64 * rows.words) ∷ sample_rest n) ≡ count_before v (0 ∷ row_after (drop 1 v.sizes) (sample_rest n))
  end_of_row n h =
      let far : 4 * slice_index v.sizes 0 ≤ 4 * (64 * rows.words) + 3 =
      subst (λ k. 4 * k ≤ 4 * (64 * rows.words) + 3) is.first (words_reach rows.length rows.words wide) in
      counts_rows v (sample_rest n) fits (long n h) (inl (joins n h)) (4 * (64 * rows.words)) far

  pub samples_counted : AreCounted v (λ x. 4 * x) (λ x. 4 * x + 2) (λ n. row_at (drop 1 v.sizes) height n) rows.words (edge_rows rows)
  samples_counted = record {
    along = λ n m h. along_samples v (sample_rest n) m fits (long n h) (joins n h);
    step = λ n h.
        let within = axes_between (length v.sizes) (dimension_cases v.kind (length v.sizes) fits) in
        end_of_row n (omega (arith, h))
        ∙ ap (λ r. count_before v (0 ∷ r)) (row_next (drop 1 v.sizes) height n (some_rest v.sizes within.0) (sized_rest v.sizes within.0 sized)
        (omega (arith, h, rows_there rows v.sizes within.0 within.1 is)));
  }

  pub samples_end : (m : ℕ) → edge_rows rows ≡ m + 1
      → count_before v (4 * (64 * rows.words) ∷ row_at (drop 1 v.sizes) height m) ≡ count_before v (first_at v (height + 1))
  samples_end m last =
      let within = axes_between (length v.sizes) (dimension_cases v.kind (length v.sizes) fits) in
      end_of_row m (omega (arith, last))
      ∙ ap (λ r. count_before v (0 ∷ r)) (row_end (drop 1 v.sizes) height m (some_rest v.sizes within.0) (sized_rest v.sizes within.0 sized)
      (omega (arith, last, rows_there rows v.sizes within.0 within.1 is)))

  pub samples_there : (upright : Bool) (near far kept : BitPlane) → TellsEnds v rows height upright near far kept
      → AreThere v (λ x. 4 * x) (λ x. 4 * x + 2) (λ n. row_at (drop 1 v.sizes) height n) (edge_rows rows)
      (firsts_of rows v.kind upright near far kept) (seconds_of rows v.kind upright near far kept)
  samples_there upright near far kept ends = record {
    firsts = λ n x h.
        let along = along_axis (edge_span rows.second) (edge_span rows.third) n h in
        (row_told v rows height upright near far kept (n % edge_span rows.second) (n / edge_span rows.second) x fits is ends along.0 along.1).first
        ∙ ap (λ r. is_there v (4 * x ∷ r)) (sym (stands_so n h));
    seconds = λ n x h.
        let along = along_axis (edge_span rows.second) (edge_span rows.third) n h in
        (row_told v rows height upright near far kept (n % edge_span rows.second) (n / edge_span rows.second) x fits is ends along.0 along.1).second
        ∙ ap (λ r. is_there v ((4 * x + 2) ∷ r)) (sym (stands_so n h));
  }

-- a plane that has the edges of these signs and kept cubes, numbered from those before its height on, tells of the edges there; and the next number
-- is that of the edges before the next height
pub edges_told : (v : Volume) (rows : GridRows) (height count next : ℕ) (upright : Bool) (near far kept : BitPlane) (plane : EdgePlane)
    → HasDimension v.kind (length v.sizes) → All (λ n. 1 ≤ n) v.sizes → AreRowsOf v.sizes rows → rows.words ≡ word_count rows.length
    → TellsEnds v rows height upright near far kept → plane.words ≡ rows.words → count ≡ count_before v (first_at v height)
    → AreNumberedTo (firsts_of rows v.kind upright near far kept) (seconds_of rows v.kind upright near far kept) count (edge_rows rows) plane next
    → TellsEdges v rows height plane × (next ≡ count_before v (first_at v (height + 1)))
edges_told v rows height count next upright near far kept plane fits sized is wide ends words start told =
    let f : ℕ → ℕ → Bool = firsts_of rows v.kind upright near far kept in
    let g : ℕ → ℕ → Bool = seconds_of rows v.kind upright near far kept in
    let rest : ℕ → List ℕ = λ n. row_at (drop 1 v.sizes) height n in
    let counted = samples_counted v rows height fits sized is wide ends.even in
    let there = samples_there v rows height fits sized is wide ends.even upright near far kept ends in
    let last : ℕ = edge_rows rows - 1 in
    let some : edge_rows rows ≡ last + 1 = has_rows rows in (
      plane_told v (λ x. 4 * x) (λ x. 4 * x + 2) rest rows.words (edge_rows rows) count f g counted there plane next words start told,
      plane_counted v (λ x. 4 * x) (λ x. 4 * x + 2) rest rows.words (edge_rows rows) count f g counted there plane next last words start told some
          ∙ samples_end v rows height fits sized is wide ends.even last some,
    )
  where
    spans : (axis : MiddleAxis) → 1 ≤ axis.samples → 1 ≤ edge_span axis
    spans axis some = omega (arith, some)

    has_rows : (rows : GridRows) → edge_rows rows ≡ edge_rows rows - 1 + 1
    has_rows rows =
        let both : 1 ≤ edge_rows rows = mul-le-mul (spans rows.second rows.few.0.0) (spans rows.third rows.few.1.0) in
        omega (arith, both)
