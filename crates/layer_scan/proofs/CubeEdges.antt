-- The numbers that are counted for a cube are those of its edges in the grid.
use Rattle.std.proofs.Common.{ap, arith, inl, inr, refl, sym, subst, ◌∙◌}
use Rattle.std.proofs.Math.Nat.{div-add-mod, mod-eq_of_lt}
use Rattle.std.proofs.lemmas.Bool.{false_from_ne_true, false≢true}
use Rattle.std.proofs.lemmas.Nat.{div-mul-add, mod-mul-add}
use Rattle.std.specs.Prelude.{All, List, [], ◌∷◌, drop, false, length, map, nat_lt, slice_index, slice_index_or, suc, true, zero, ℕ, if◌then◌else◌}
use Rattle.std.specs.Prelude.{◌==◌, ◌%◌, ◌&&◌, ◌*◌, ◌+◌, ◌-◌, ◌/◌, ◌<◌, ◌≤◌, ◌≡◌, ◌≢◌, ◌⊎◌}
use Rattle.lists.specs.Members.{In}
use Rattle.lists.specs.Orders.{numbers}
use Rattle.lists.proofs.MemberLaws.{In-flat_map, In-map, In-numbers}
use Rattle.lists.proofs.Tests.{next_below, of_equal}
use Rattle.iso_model.specs.declared.Kind.{Kind}
use Rattle.iso_model.specs.declared.Kind.TheVariants.{Cube, Simplex, Pyramid}
use Rattle.iso_model.specs.Cells.{HasDimension, edge_count}
use Rattle.iso_model.specs.Splits.{cells_per_cube, cube_at, edge, midpoint}
use Rattle.iso_model.specs.Values.{Volume}
use Rattle.iso_model.proofs.DimensionLaws.{dimension_cases}
use Rattle.grid_rows.specs.declared.grids.GridRows.{GridRows}
use Rattle.grid_rows.specs.declared.grids.MiddleAxis.{MiddleAxis}
use Rattle.grid_rows.specs.declared.planes.EdgeWord.{EdgeWord}
use Rattle.grid_rows.specs.MiddleAxes.{axis_with, edge_span, no_axis}
use Rattle.grid_rows.specs.Planes.{no_edge}
use Rattle.grid_rows.specs.RowNumbers.{cube_rows, edge_number, edge_rows, edges_around}
use Rattle.edge_middles.specs.GridMiddles.{count_before}
use Rattle.edge_middles.specs.HeldMiddles.{middle_from}
use Rattle.edge_middles.specs.Middles.{IsCubeMiddle, axes_along, cube_middles, is_middle, joins_centre, joins_samples}
use Rattle.edge_middles.specs.MovedEdges.{moved}
use Rattle.edge_middles.specs.RowLists.{row_at}
use Rattle.edge_middles.proofs.CubeMiddles.{has_all}
use Rattle.edge_middles.proofs.HeldPoints.{midpoint_moved}
use Rattle.edge_middles.proofs.NextRows.{first_parity, middle_parity, rest_parity}
use Rattle.edge_middles.proofs.PointsThere.{along_axis}
use Rattle.edge_middles.proofs.RowCounts.{even_and_odd}
use Rattle.layer_scan.specs.declared.cubes.CubeSlots.{CubeSlots}
use Rattle.layer_scan.specs.CubeNumbers.{CountsCubeEdges, HaveRanks, KeepsBelow, TellsAround, TellsSlots, cube_number, digits, edges_of}
use Rattle.layer_scan.specs.CubeNumbers.{place_of, ranked, sides_of}
use Rattle.layer_scan.specs.GridEdges.{TellsWord}
use Rattle.layer_scan.specs.GridPlanes.{AreRowsOf, after_first}
use Rattle.layer_scan.proofs.CentresThere.{axes_of_three}
use Rattle.layer_scan.proofs.CubeRanks.{HasCentreRanks, HasSampleRanks, centre_ranks, sample_ranks}
use Rattle.layer_scan.proofs.EdgesThere.{stands_in_halves}
use Rattle.layer_scan.proofs.EdgesTold.{pyramid_or_not}
use Rattle.layer_scan.proofs.RanksWritten.{ranks_kept}
use Rattle.layer_scan.proofs.RowsInOrder.{row_stands}
use Rattle.iso_model.proofs.CellCounts.{axes_between}

-- what is counted for the cubes at a place of a word
pub record IsCounted (slots : CubeSlots) (place : ℕ) (numbers : List ℕ) : Type 0 where
  pub below : HaveRanks numbers 0 3 slots.below slots.side place
  pub upright : HaveRanks numbers (3 * slots.side) 3 slots.upright slots.side place
  pub lower : HaveRanks numbers (6 * slots.side) 3 slots.lower slots.side place
  pub centres : slots.kind ≡ Pyramid → HaveRanks numbers 27 2 slots.centres 4 place

-- ---- the rows around a row of cubes

-- half a step along an axis that the grid lacks is none
abbrev IsHalf : ℕ → ℕ → Type 0
IsHalf step q = (q < 3) × (q * step ≡ q)

rows_around : (rows : GridRows) (i j q r : ℕ) → q < 3 → r < 3
    → slice_index (edges_around rows i j) (q + 3 * r) ≡ edge_number rows (2 * i + q * rows.second.step) (2 * j + r * rows.third.step)
rows_around rows i j zero zero h k =
    let a : 2 * i ≡ 2 * i + 0 * rows.second.step = omega arith in
    let b : 2 * j ≡ 2 * j + 0 * rows.third.step = omega arith in
    λ t. edge_number rows (a t) (b t)
rows_around rows i j (suc zero) zero h k =
    let a : 2 * i + rows.second.step ≡ 2 * i + 1 * rows.second.step = omega arith in
    let b : 2 * j ≡ 2 * j + 0 * rows.third.step = omega arith in
    λ t. edge_number rows (a t) (b t)
rows_around rows i j (suc (suc zero)) zero h k =
    let b : 2 * j ≡ 2 * j + 0 * rows.third.step = omega arith in
    λ t. edge_number rows (2 * i + 2 * rows.second.step) (b t)
rows_around rows i j zero (suc zero) h k =
    let a : 2 * i ≡ 2 * i + 0 * rows.second.step = omega arith in
    let b : 2 * j + rows.third.step ≡ 2 * j + 1 * rows.third.step = omega arith in
    λ t. edge_number rows (a t) (b t)
rows_around rows i j (suc zero) (suc zero) h k =
    let a : 2 * i + rows.second.step ≡ 2 * i + 1 * rows.second.step = omega arith in
    let b : 2 * j + rows.third.step ≡ 2 * j + 1 * rows.third.step = omega arith in
    λ t. edge_number rows (a t) (b t)
rows_around rows i j (suc (suc zero)) (suc zero) h k =
    let b : 2 * j + rows.third.step ≡ 2 * j + 1 * rows.third.step = omega arith in
    λ t. edge_number rows (2 * i + 2 * rows.second.step) (b t)
rows_around rows i j zero (suc (suc zero)) h k =
    let a : 2 * i ≡ 2 * i + 0 * rows.second.step = omega arith in
    λ t. edge_number rows (a t) (2 * j + 2 * rows.third.step)
rows_around rows i j (suc zero) (suc (suc zero)) h k =
    let a : 2 * i + rows.second.step ≡ 2 * i + 1 * rows.second.step = omega arith in
    λ t. edge_number rows (a t) (2 * j + 2 * rows.third.step)
rows_around rows i j (suc (suc zero)) (suc (suc zero)) h k = refl
rows_around rows i j (suc (suc (suc q))) r h k = absurd (omega (arith, h))
rows_around rows i j q (suc (suc (suc r))) h k = absurd (omega (arith, k))

-- the midpoint of an edge of a cell is one of the cube
own_middle : (kind : Kind) (d rank e : ℕ) → rank < cells_per_cube kind d → e < edge_count kind d → In (middle_from kind d rank e) (cube_middles kind d)
own_middle kind d rank e few less =
    In-flat_map (λ r. map (λ k. middle_from kind d r k) (numbers (edge_count kind d))) (numbers (cells_per_cube kind d)) rank (middle_from kind d rank e)
    (In-numbers (cells_per_cube kind d) rank few)
    (In-map (λ k. middle_from kind d rank k) (numbers (edge_count kind d)) e (In-numbers (edge_count kind d) e less))

-- ---- where the cube of a number stands

parts_of : (x n m : ℕ) → x < n → ((x + n * m) % n ≡ x) × ((x + n * m) / n ≡ m)
parts_of x n m h =
    let turned : x + n * m ≡ m * n + x = omega arith in
    (ap (λ k. k % n) turned ∙ mod-mul-add m n x h, ap (λ k. k / n) turned ∙ div-mul-add m n x h)

pub cube_stands : (rows : GridRows) (sizes : List ℕ) (s c x : ℕ) → 2 ≤ length sizes → length sizes ≤ 4 → AreRowsOf sizes rows → c < cube_rows rows
    → x + 1 < rows.length → s + 1 < slice_index sizes (length sizes - 1)
    → cube_at sizes (cube_number rows s c x) ≡ x ∷ after_first (length sizes) (c % rows.second.cubes) (c / rows.second.cubes) s
cube_stands rows [] s c x few most is h lt last = absurd (omega (arith, few))
cube_stands rows (a ∷ []) s c x few most is h lt last = absurd (omega (arith, few))
cube_stands rows (a ∷ b ∷ []) s c x few most is h lt last =
    let second : rows.second.cubes ≡ 1 = ap (λ (m : MiddleAxis). m.cubes) is.second in
    let third : rows.third.cubes ≡ 1 = ap (λ (m : MiddleAxis). m.cubes) is.third in
    let all : cube_rows rows ≡ 1 = λ t. second t * third t in
    let long : rows.length - 1 ≡ a - 1 = ap (λ n. n - 1) is.first in
    let row : c + cube_rows rows * s ≡ s = ap (λ k. c + k * s) all ∙ (let none : c + 1 * s ≡ s = omega (arith, h, all) in none) in
    let parts = parts_of x (a - 1) s (omega (arith, lt, is.first)) in
    let own : s % (b - 1) ≡ s = mod-eq_of_lt (omega (arith, last)) in
    (λ t. (x + long t * row t) % (a - 1) ∷ (x + long t * row t) / (a - 1) % (b - 1) ∷ [])
    ∙ (λ t. parts.0 t ∷ parts.1 t % (b - 1) ∷ []) ∙ ap (λ k. x ∷ k ∷ []) own
cube_stands rows (a ∷ b ∷ d ∷ []) s c x few most is h lt last =
    let second : rows.second.cubes ≡ b - 1 = ap (λ (m : MiddleAxis). m.cubes) is.second in
    let third : rows.third.cubes ≡ 1 = ap (λ (m : MiddleAxis). m.cubes) is.third in
    let all : cube_rows rows ≡ b - 1 = (λ t. second t * third t) ∙ (let once : (b - 1) * 1 ≡ b - 1 = omega arith in once) in
    let long : rows.length - 1 ≡ a - 1 = ap (λ n. n - 1) is.first in
    let row : c + cube_rows rows * s ≡ c + (b - 1) * s = ap (λ k. c + k * s) all in
    let inside : c < b - 1 = omega (arith, h, all) in
    let parts = parts_of x (a - 1) (c + (b - 1) * s) (omega (arith, lt, is.first)) in
    let rest = parts_of c (b - 1) s inside in
    let own : s % (d - 1) ≡ s = mod-eq_of_lt (omega (arith, last)) in
    let place : c ≡ c % rows.second.cubes = sym (mod-eq_of_lt (omega (arith, inside, second))) in
    (λ t. (x + long t * row t) % (a - 1) ∷ (x + long t * row t) / (a - 1) % (b - 1) ∷ (x + long t * row t) / (a - 1) / (b - 1) % (d - 1) ∷ [])
    ∙ (λ t. parts.0 t ∷ parts.1 t % (b - 1) ∷ parts.1 t / (b - 1) % (d - 1) ∷ [])
    ∙ (λ t. x ∷ rest.0 t ∷ rest.1 t % (d - 1) ∷ []) ∙ (λ t. x ∷ place t ∷ own t ∷ [])
cube_stands rows (a ∷ b ∷ d ∷ e ∷ []) s c x few most is h lt last =
    let second : rows.second.cubes ≡ b - 1 = ap (λ (m : MiddleAxis). m.cubes) is.second in
    let third : rows.third.cubes ≡ d - 1 = ap (λ (m : MiddleAxis). m.cubes) is.third in
    let all : cube_rows rows ≡ (b - 1) * (d - 1) = λ t. second t * third t in
    let long : rows.length - 1 ≡ a - 1 = ap (λ n. n - 1) is.first in
    let along = along_axis rows.second.cubes rows.third.cubes c h in
    let low : c % (b - 1) < b - 1 = subst (λ n. c % n < n) second along.0 in
    let high : c / (b - 1) < d - 1 = subst (λ n. c / (b - 1) < n) third (subst (λ n. c / n < rows.third.cubes) second along.1) in
    let row : c + cube_rows rows * s ≡ c % (b - 1) + (b - 1) * (c / (b - 1) + (d - 1) * s) = ap (λ k. c + k * s) all ∙ apart c (b - 1) (d - 1) s in
    let parts = parts_of x (a - 1) (c % (b - 1) + (b - 1) * (c / (b - 1) + (d - 1) * s)) (omega (arith, lt, is.first)) in
    let rest = parts_of (c % (b - 1)) (b - 1) (c / (b - 1) + (d - 1) * s) low in
    let more = parts_of (c / (b - 1)) (d - 1) s high in
    let own : s % (e - 1) ≡ s = mod-eq_of_lt (omega (arith, last)) in
    (λ t. (x + long t * row t) % (a - 1) ∷ (x + long t * row t) / (a - 1) % (b - 1) ∷ (x + long t * row t) / (a - 1) / (b - 1) % (d - 1)
    ∷ (x + long t * row t) / (a - 1) / (b - 1) / (d - 1) % (e - 1) ∷ [])
    ∙ (λ t. parts.0 t ∷ parts.1 t % (b - 1) ∷ parts.1 t / (b - 1) % (d - 1) ∷ parts.1 t / (b - 1) / (d - 1) % (e - 1) ∷ [])
    ∙ (λ t. x ∷ rest.0 t ∷ rest.1 t % (d - 1) ∷ rest.1 t / (d - 1) % (e - 1) ∷ [])
    ∙ (λ t. x ∷ c % sym second t ∷ more.0 t ∷ more.1 t % (e - 1) ∷ []) ∙ (λ t. x ∷ c % rows.second.cubes ∷ c / sym second t ∷ own t ∷ [])
  where
    apart : (c n m s : ℕ) → c + n * m * s ≡ c % n + n * (c / n + m * s)
    apart c n m s = omega (arith, div-add-mod c n)
cube_stands rows (a ∷ b ∷ d ∷ e ∷ f ∷ more) s c x few most is h lt last = absurd (omega (arith, most))

-- along which middle axes a grid goes on, by its axes
steps_of : (rows : GridRows) (sizes : List ℕ) → AreRowsOf sizes rows
    → (length sizes ≡ 2 → (rows.second.step ≡ 0) × (rows.third.step ≡ 0)) × (length sizes ≡ 3 → (rows.second.step ≡ 1) × (rows.third.step ≡ 0))
    × (length sizes ≡ 4 → (rows.second.step ≡ 1) × (rows.third.step ≡ 1))
steps_of rows sizes is =
    let second = λ (n : ℕ). (λ (m : MiddleAxis). m.step) (if nat_lt 1 (n - 1) then axis_with (slice_index sizes 1) else no_axis) in
    let third = λ (n : ℕ). (λ (m : MiddleAxis). m.step) (if nat_lt 2 (n - 1) then axis_with (slice_index sizes 2) else no_axis) in
    let first_is : rows.second.step ≡ second (length sizes) = ap (λ (m : MiddleAxis). m.step) is.second in
    let other_is : rows.third.step ≡ third (length sizes) = ap (λ (m : MiddleAxis). m.step) is.third in (
      λ e. (first_is ∙ ap second e, other_is ∙ ap third e),
      λ e. (first_is ∙ ap second e, other_is ∙ ap third e),
      λ e. (first_is ∙ ap second e, other_is ∙ ap third e),
    )

module _ (v : Volume) (rows : GridRows) (s c w place : ℕ) (slots : CubeSlots) (tells : TellsSlots v rows s c w slots) (low : place < 64) where
  abbrev first_place : ℕ
  first_place = c % rows.second.cubes

  abbrev second_place : ℕ
  second_place = c / rows.second.cubes

  where_cubes : (c % rows.second.cubes < rows.second.cubes) × (c / rows.second.cubes < rows.third.cubes)
  where_cubes = along_axis rows.second.cubes rows.third.cubes c tells.inside

  -- the row that is so many half steps along the middle axes from the cubes
  row_from : (height q r : ℕ) → IsHalf rows.second.step q → IsHalf rows.third.step r
      → row_at (drop 1 v.sizes) height (slice_index (edges_of rows c) (q + 3 * r))
      ≡ after_first (length v.sizes) (2 * (2 * first_place + q)) (2 * (2 * second_place + r)) height
  row_from height q r one two =
      let within = axes_between (length v.sizes) (dimension_cases v.kind (length v.sizes) tells.fits) in
      let a : 2 * first_place + q < edge_span rows.second = half_inside rows.second.cubes rows.second.step rows.second.samples first_place q
      where_cubes.0 rows.few.0.2 rows.few.0.3 one in
      let b : 2 * second_place + r < edge_span rows.third = half_inside rows.third.cubes rows.third.step rows.third.samples second_place r
      where_cubes.1 rows.few.1.2 rows.few.1.3 two in
      let span : ℕ = edge_span rows.second in
      let n : ℕ = edge_number rows (2 * first_place + q) (2 * second_place + r) in
      let number : slice_index (edges_of rows c) (q + 3 * r) ≡ edge_number rows (2 * first_place + q) (2 * second_place + r) =
      rows_around rows first_place second_place q r one.0 two.0 ∙ (λ t. edge_number rows (2 * first_place + one.1 t) (2 * second_place + two.1 t)) in
      let inside : n < edge_rows rows = next_below (2 * first_place + q) span (2 * second_place + r) (edge_span rows.third) a b in
      let turned : n ≡ (2 * second_place + r) * span + (2 * first_place + q) = omega arith in
      let rest : n % span ≡ 2 * first_place + q =
      ap (λ k. k % span) turned ∙ mod-mul-add (2 * second_place + r) span (2 * first_place + q) a in
      let whole : n / span ≡ 2 * second_place + r =
      ap (λ k. k / span) turned ∙ div-mul-add (2 * second_place + r) span (2 * first_place + q) a in
      ap (row_at (drop 1 v.sizes) height) number
      ∙ row_stands rows v.sizes height n within.0 within.1 tells.stand inside
      ∙ (λ t. after_first (length v.sizes) (2 * rest t) (2 * whole t) height)
    where
      half_inside : (cubes step samples i q : ℕ) → i < cubes → cubes + step ≡ samples → step ≤ 1 → IsHalf step q → 2 * i + q < 2 * samples - 1
      half_inside cubes zero samples i q h is few half = omega (arith, h, is, half.1)
      half_inside cubes (suc zero) samples i q h is few half = omega (arith, h, is, half.0)
      half_inside cubes (suc (suc step)) samples i q h is few half = absurd (omega (arith, few))

  -- the numbers of a row
  row_ranked : (height q r step : ℕ) (word : EdgeWord) → height % 2 ≡ 0 → IsHalf rows.second.step q → IsHalf rows.third.step r → step < 3
      → TellsWord v (λ x. 4 * x) (λ x. 4 * x + 2) (row_at (drop 1 v.sizes) height (slice_index (edges_of rows c) (q + 3 * r))) w word
      → ranked word place step
      ≡ count_before v ((4 * (64 * w + place) + 2 * step) ∷ after_first (length v.sizes) (2 * (2 * first_place + q)) (2 * (2 * second_place + r)) height)
  row_ranked height q r step word even one two few told =
      let within = axes_between (length v.sizes) (dimension_cases v.kind (length v.sizes) tells.fits) in
      let rest : List ℕ = after_first (length v.sizes) (2 * (2 * first_place + q)) (2 * (2 * second_place + r)) height in
      let stands = stands_in_halves (2 * first_place + q) (2 * second_place + r) height (length v.sizes) (dimension_cases v.kind (length v.sizes) tells.fits) in
      let here : TellsWord v (λ x. 4 * x) (λ x. 4 * x + 2) rest w word =
      subst (λ l. TellsWord v (λ x. 4 * x) (λ x. 4 * x + 2) l w word) (row_from height q r one two) told in
      let ranks = sample_ranks v rest w place word tells.fits stands.long (stands.even even) low here in
      by_step step few rest ranks
    where
      by_step : (step : ℕ) → step < 3 → (rest : List ℕ) → HasSampleRanks v rest w place word
          → ranked word place step ≡ count_before v ((4 * (64 * w + place) + 2 * step) ∷ rest)
      by_step zero h rest ranks =
          let plain : 4 * (64 * w + place) ≡ 4 * (64 * w + place) + 2 * 0 = omega arith in
          ranks.at_first ∙ ap (λ n. count_before v (n ∷ rest)) plain
      by_step (suc zero) h rest ranks = ranks.at_second
      by_step (suc (suc zero)) h rest ranks = ranks.at_next
      by_step (suc (suc (suc n))) h rest ranks = absurd (omega (arith, h))

  -- ---- places of midpoints between samples

  -- a number at so many half steps along axis 0, along the middle axes, and along the last one
  sample_counted : (numbers : List ℕ) (height first q r step : ℕ) (words : List EdgeWord) → HaveRanks numbers first 3 words slots.side place
      → TellsAround v rows height c w words → height % 2 ≡ 0 → IsHalf rows.second.step q → IsHalf rows.third.step r → step < 3 → q + 3 * r < sides_of rows
      → slice_index numbers (first + 3 * (q + 3 * r) + step)
      ≡ count_before v ((4 * (64 * w + place) + 2 * step) ∷ after_first (length v.sizes) (2 * (2 * first_place + q)) (2 * (2 * second_place + r)) height)
  sample_counted numbers height first q r step words ranks told even one two few inside =
      ranks (q + 3 * r) step (omega (arith, inside, tells.sides)) few
      ∙ row_ranked height q r step (slice_index_or words (q + 3 * r) no_edge) even one two few (told (q + 3 * r) (omega (arith, one.0, two.0)))

  -- at each of the three heights of a layer
  layer_counted : (numbers : List ℕ) (p q r step : ℕ) → IsCounted slots place numbers → p < 3 → IsHalf rows.second.step q → IsHalf rows.third.step r
      → step < 3 → q + 3 * r < sides_of rows → slice_index numbers (3 * sides_of rows * p + 3 * (q + 3 * r) + step)
      ≡ count_before v ((4 * (64 * w + place) + 2 * step) ∷ after_first (length v.sizes) (4 * first_place + 2 * q) (4 * second_place + 2 * r) (4 * s + 2 * p))
  layer_counted numbers p q r step counted few one two low_step inside =
      let a : 2 * (2 * first_place + q) ≡ 4 * first_place + 2 * q = omega arith in
      let b : 2 * (2 * second_place + r) ≡ 4 * second_place + 2 * r = omega arith in
      at_height p few ∙ (λ t. count_before v ((4 * (64 * w + place) + 2 * step) ∷ after_first (length v.sizes) (a t) (b t) (4 * s + 2 * p)))
    where
      from : (n m height other : ℕ) → n ≡ m → height ≡ other
          → slice_index numbers n ≡ count_before v ((4 * (64 * w + place) + 2 * step)
          ∷ after_first (length v.sizes) (2 * (2 * first_place + q)) (2 * (2 * second_place + r)) height)
          → slice_index numbers m ≡ count_before v ((4 * (64 * w + place) + 2 * step)
          ∷ after_first (length v.sizes) (2 * (2 * first_place + q)) (2 * (2 * second_place + r)) other)
      from n m height other e f is =
          ap (slice_index numbers) (sym e) ∙ is
          ∙ ap (λ h. count_before v ((4 * (64 * w + place) + 2 * step)
          ∷ after_first (length v.sizes) (2 * (2 * first_place + q)) (2 * (2 * second_place + r)) h)) f

      at_height : (p : ℕ) → p < 3 → slice_index numbers (3 * sides_of rows * p + 3 * (q + 3 * r) + step)
          ≡ count_before v ((4 * (64 * w + place) + 2 * step)
          ∷ after_first (length v.sizes) (2 * (2 * first_place + q)) (2 * (2 * second_place + r)) (4 * s + 2 * p))
      at_height zero h =
          from (0 + 3 * (q + 3 * r) + step) (3 * sides_of rows * 0 + 3 * (q + 3 * r) + step) (4 * s) (4 * s + 2 * 0) (omega arith) (omega arith)
          (sample_counted numbers (4 * s) 0 q r step slots.below counted.below tells.below (omega arith) one two low_step inside)
      at_height (suc zero) h =
          from (3 * slots.side + 3 * (q + 3 * r) + step) (3 * sides_of rows * 1 + 3 * (q + 3 * r) + step) (4 * s + 2) (4 * s + 2 * 1)
          (omega (arith, tells.sides)) (omega arith)
          (sample_counted numbers (4 * s + 2) (3 * slots.side) q r step slots.upright counted.upright tells.upright (omega arith) one two low_step inside)
      at_height (suc (suc zero)) h =
          from (6 * slots.side + 3 * (q + 3 * r) + step) (3 * sides_of rows * 2 + 3 * (q + 3 * r) + step) (4 * (s + 1)) (4 * s + 2 * 2)
          (omega (arith, tells.sides)) (omega arith)
          (sample_counted numbers (4 * (s + 1)) (6 * slots.side) q r step slots.lower counted.lower tells.lower (omega arith) one two low_step inside)
      at_height (suc (suc (suc p))) h = absurd (omega (arith, h))

  -- ---- places of midpoints to the centre

  centre_counted : (numbers : List ℕ) (p q step : ℕ) → v.kind ≡ Pyramid → IsCounted slots place numbers → p < 2 → q < 2 → step < 2
      → slice_index numbers (27 + 2 * (q + 2 * p) + step)
      ≡ count_before v ((4 * (64 * w + place) + 1 + 2 * step) ∷ (4 * c + 1 + 2 * q) ∷ (4 * s + 1 + 2 * p) ∷ [])
  centre_counted numbers p q step pyramid counted few other low_step =
      let three : length v.sizes ≡ 3 = subst (λ k. HasDimension k (length v.sizes)) pyramid tells.fits in
      let word : EdgeWord = slice_index_or slots.centres (q + 2 * p) no_edge in
      let half : (q + 2 * p) % 2 ≡ q = omega (arith, other) in
      let whole : (q + 2 * p) / 2 ≡ p = omega (arith, other) in
      let along : 2 * (2 * c + q) + 1 ≡ 4 * c + 1 + 2 * q = omega arith in
      let told : TellsWord v (λ x. 4 * x + 1) (λ x. 4 * x + 3) ((4 * c + 1 + 2 * q) ∷ (4 * s + 1 + 2 * p) ∷ []) w word =
      subst (λ a. TellsWord v (λ x. 4 * x + 1) (λ x. 4 * x + 3) (a ∷ (4 * s + 1 + 2 * p) ∷ []) w word) along
      (subst (λ a. TellsWord v (λ x. 4 * x + 1) (λ x. 4 * x + 3) ((2 * (2 * c + a) + 1) ∷ (4 * s + 1 + 2 * p) ∷ []) w word) half
      (subst (λ b. TellsWord v (λ x. 4 * x + 1) (λ x. 4 * x + 3) ((2 * (2 * c + (q + 2 * p) % 2) + 1) ∷ (4 * s + 1 + 2 * b) ∷ []) w word) whole
      (tells.centres pyramid (q + 2 * p) (omega (arith, few, other))))) in
      let first : ((4 * c + 1 + 2 * q) % 2 == 1) ≡ true = of_equal ((4 * c + 1 + 2 * q) % 2) 1 (omega arith) in
      let second : ((4 * s + 1 + 2 * p) % 2 == 1) ≡ true = of_equal ((4 * s + 1 + 2 * p) % 2) 1 (omega arith) in
      let odd : joins_centre ((4 * c + 1 + 2 * q) ∷ (4 * s + 1 + 2 * p) ∷ []) ≡ true = λ t. first t && (second t && true) in
      let ranks = centre_ranks v ((4 * c + 1 + 2 * q) ∷ (4 * s + 1 + 2 * p) ∷ []) w place word tells.fits (sym three) odd low told in
      counted.centres (tells.kind ∙ pyramid) (q + 2 * p) step (omega (arith, few, other)) low_step
      ∙ by_step step low_step ((4 * c + 1 + 2 * q) ∷ (4 * s + 1 + 2 * p) ∷ []) word ranks
    where
      by_step : (step : ℕ) → step < 2 → (rest : List ℕ) (word : EdgeWord) → HasCentreRanks v rest w place word
          → ranked word place step ≡ count_before v ((4 * (64 * w + place) + 1 + 2 * step) ∷ rest)
      by_step zero h rest word ranks =
          let plain : 4 * (64 * w + place) + 1 ≡ 4 * (64 * w + place) + 1 + 2 * 0 = omega arith in
          ranks.at_first ∙ ap (λ n. count_before v (n ∷ rest)) plain
      by_step (suc zero) h rest word ranks =
          let plain : 4 * (64 * w + place) + 3 ≡ 4 * (64 * w + place) + 1 + 2 * 1 = omega arith in
          ranks.at_second ∙ ap (λ n. count_before v (n ∷ rest)) plain
      by_step (suc (suc n)) h rest word ranks = absurd (omega (arith, h))

  -- ---- each midpoint of the cube, by its axes

  no_half : (step : ℕ) → IsHalf step 0
  no_half step = (omega arith, omega arith)

  a_half : (step q : ℕ) → step ≡ 1 → q < 3 → IsHalf step q
  a_half step q one few = let same : q * 1 ≡ q = omega arith in (few, ap (λ k. q * k) one ∙ same)

  back_even : (n c : ℕ) → c % 2 ≡ 0 → n + 2 * (c / 2) ≡ n + c
  back_even n c even = omega (arith, even)

  back_odd : (n c : ℕ) → c % 2 ≡ 1 → n + 1 + 2 * (c / 2) ≡ n + c
  back_odd n c odd = omega (arith, odd)

  module _ (numbers : List ℕ) (counted : IsCounted slots place numbers) where
    in_two : (a l : ℕ) → length v.sizes ≡ 2 → a % 2 ≡ 0 → l % 2 ≡ 0 → a ≤ 4 → l ≤ 4
        → slice_index numbers (digits 3 (a ∷ l ∷ [])) ≡ count_before v ((4 * (64 * w + place) + a) ∷ (4 * s + l) ∷ [])
    in_two a l two even_a even_l small_a small_l =
        let steps = steps_of rows v.sizes tells.stand in
        let sides : sides_of rows ≡ 1 = λ t. (2 * (steps.0 two).0 t + 1) * (2 * (steps.0 two).1 t + 1) in
        let number : 3 * sides_of rows * (l / 2) + 3 * (0 + 3 * 0) + a / 2 ≡ a / 2 + 3 * (l / 2 + 3 * 0) =
        ap (λ k. 3 * k * (l / 2) + 3 * (0 + 3 * 0) + a / 2) sides ∙ (let turned : 3 * 1 * (l / 2) + 3 * (0 + 3 * 0) + a / 2 ≡ a / 2 + 3 * (l / 2 + 3 * 0) =
        omega arith in turned) in
        sym (ap (slice_index numbers) number)
        ∙ layer_counted numbers (l / 2) 0 0 (a / 2) counted (omega (arith, small_l)) (no_half rows.second.step) (no_half rows.third.step)
        (omega (arith, small_a)) (omega (arith, sides))
        ∙ ap (λ d. count_before v ((4 * (64 * w + place) + 2 * (a / 2))
        ∷ after_first d (4 * first_place + 2 * 0) (4 * second_place + 2 * 0) (4 * s + 2 * (l / 2)))) two
        ∙ (λ t. count_before v (back_even (4 * (64 * w + place)) a even_a t ∷ back_even (4 * s) l even_l t ∷ []))

    in_three : (a b l : ℕ) → length v.sizes ≡ 3 → a % 2 ≡ 0 → b % 2 ≡ 0 → l % 2 ≡ 0 → a ≤ 4 → b ≤ 4 → l ≤ 4
        → slice_index numbers (digits 3 (a ∷ b ∷ l ∷ []))
        ≡ count_before v ((4 * (64 * w + place) + a) ∷ (4 * first_place + b) ∷ (4 * s + l) ∷ [])
    in_three a b l three even_a even_b even_l small_a small_b small_l =
        let steps = steps_of rows v.sizes tells.stand in
        let sides : sides_of rows ≡ 3 = λ t. (2 * (steps.1 three).0 t + 1) * (2 * (steps.1 three).1 t + 1) in
        let turned : 3 * 3 * (l / 2) + 3 * (b / 2 + 3 * 0) + a / 2 ≡ a / 2 + 3 * (b / 2 + 3 * (l / 2 + 3 * 0)) = omega arith in
        let number : 3 * sides_of rows * (l / 2) + 3 * (b / 2 + 3 * 0) + a / 2 ≡ a / 2 + 3 * (b / 2 + 3 * (l / 2 + 3 * 0)) =
        ap (λ k. 3 * k * (l / 2) + 3 * (b / 2 + 3 * 0) + a / 2) sides ∙ turned in
        sym (ap (slice_index numbers) number)
        ∙ layer_counted numbers (l / 2) (b / 2) 0 (a / 2) counted (omega (arith, small_l))
        (a_half rows.second.step (b / 2) (steps.1 three).0 (omega (arith, small_b))) (no_half rows.third.step)
        (omega (arith, small_a)) (omega (arith, sides, small_b))
        ∙ ap (λ d. count_before v ((4 * (64 * w + place) + 2 * (a / 2))
        ∷ after_first d (4 * first_place + 2 * (b / 2)) (4 * second_place + 2 * 0) (4 * s + 2 * (l / 2)))) three
        ∙ (λ t. count_before v (back_even (4 * (64 * w + place)) a even_a t ∷ back_even (4 * first_place) b even_b t ∷ back_even (4 * s) l even_l t ∷ []))

    in_four : (a b e l : ℕ) → length v.sizes ≡ 4 → a % 2 ≡ 0 → b % 2 ≡ 0 → e % 2 ≡ 0 → l % 2 ≡ 0 → a ≤ 4 → b ≤ 4 → e ≤ 4 → l ≤ 4
        → slice_index numbers (digits 3 (a ∷ b ∷ e ∷ l ∷ []))
        ≡ count_before v ((4 * (64 * w + place) + a) ∷ (4 * first_place + b) ∷ (4 * second_place + e) ∷ (4 * s + l) ∷ [])
    in_four a b e l four even_a even_b even_e even_l small_a small_b small_e small_l =
        let steps = steps_of rows v.sizes tells.stand in
        let sides : sides_of rows ≡ 9 = λ t. (2 * (steps.2 four).0 t + 1) * (2 * (steps.2 four).1 t + 1) in
        let turned : 3 * 9 * (l / 2) + 3 * (b / 2 + 3 * (e / 2)) + a / 2 ≡ a / 2 + 3 * (b / 2 + 3 * (e / 2 + 3 * (l / 2 + 3 * 0))) = omega arith in
        let number : 3 * sides_of rows * (l / 2) + 3 * (b / 2 + 3 * (e / 2)) + a / 2 ≡ a / 2 + 3 * (b / 2 + 3 * (e / 2 + 3 * (l / 2 + 3 * 0))) =
        ap (λ k. 3 * k * (l / 2) + 3 * (b / 2 + 3 * (e / 2)) + a / 2) sides ∙ turned in
        sym (ap (slice_index numbers) number)
        ∙ layer_counted numbers (l / 2) (b / 2) (e / 2) (a / 2) counted (omega (arith, small_l))
        (a_half rows.second.step (b / 2) (steps.2 four).0 (omega (arith, small_b)))
        (a_half rows.third.step (e / 2) (steps.2 four).1 (omega (arith, small_e)))
        (omega (arith, small_a)) (omega (arith, sides, small_b, small_e))
        ∙ ap (λ d. count_before v ((4 * (64 * w + place) + 2 * (a / 2))
        ∷ after_first d (4 * first_place + 2 * (b / 2)) (4 * second_place + 2 * (e / 2)) (4 * s + 2 * (l / 2)))) four
        ∙ (λ t. count_before v (back_even (4 * (64 * w + place)) a even_a t ∷ back_even (4 * first_place) b even_b t
        ∷ back_even (4 * second_place) e even_e t ∷ back_even (4 * s) l even_l t ∷ []))

    to_centre : (a b l : ℕ) → v.kind ≡ Pyramid → length v.sizes ≡ 3 → a % 2 ≡ 1 → b % 2 ≡ 1 → l % 2 ≡ 1 → a ≤ 4 → b ≤ 4 → l ≤ 4
        → slice_index numbers (27 + digits 2 (a ∷ b ∷ l ∷ []))
        ≡ count_before v ((4 * (64 * w + place) + a) ∷ (4 * first_place + b) ∷ (4 * s + l) ∷ [])
    to_centre a b l pyramid three odd_a odd_b odd_l small_a small_b small_l =
        let axes = axes_of_three rows v.sizes three tells.stand in
        let all : cube_rows rows ≡ rows.second.cubes * 1 = ap (λ k. rows.second.cubes * k) axes.3 in
        let own : c ≡ first_place = sym (mod-eq_of_lt (omega (arith, tells.inside, all))) in
        let number : 27 + 2 * (b / 2 + 2 * (l / 2)) + a / 2 ≡ 27 + (a / 2 + 2 * (b / 2 + 2 * (l / 2 + 2 * 0))) = omega arith in
        sym (ap (slice_index numbers) number)
        ∙ centre_counted numbers (l / 2) (b / 2) (a / 2) pyramid counted (omega (arith, small_l, odd_l)) (omega (arith, small_b, odd_b))
        (omega (arith, small_a, odd_a))
        ∙ ap (λ k. count_before v ((4 * (64 * w + place) + 1 + 2 * (a / 2)) ∷ (4 * k + 1 + 2 * (b / 2)) ∷ (4 * s + 1 + 2 * (l / 2)) ∷ [])) own
        ∙ (λ t. count_before v (back_odd (4 * (64 * w + place)) a odd_a t ∷ back_odd (4 * first_place) b odd_b t ∷ back_odd (4 * s) l odd_l t ∷ []))

    -- each midpoint that an edge of the cube can have
    cube_counted : (middle : List ℕ) → IsCubeMiddle v.kind (length v.sizes) middle → slice_index numbers (place_of middle)
        ≡ count_before v (moved 4 ((64 * w + place) ∷ after_first (length v.sizes) first_place second_place s) middle)
    cube_counted middle is = by_parity (middle_parity v.kind middle is.2)
      where
        evens : (m : List ℕ) → length m ≡ length v.sizes → All (λ k. k ≤ 4) m → joins_samples m ≡ true
            → (length v.sizes ≡ 2) ⊎ ((length v.sizes ≡ 3) ⊎ (length v.sizes ≡ 4))
            → slice_index numbers (digits 3 m)
            ≡ count_before v (moved 4 ((64 * w + place) ∷ after_first (length v.sizes) first_place second_place s) m)
        evens (a ∷ l ∷ []) long small even (inl two) =
            in_two a l two (first_parity 0 a (l ∷ []) even) (first_parity 0 l [] (rest_parity 0 a (l ∷ []) even))
            (small 0 0 (omega arith)) (small 1 0 (omega arith))
            ∙ ap (λ d. count_before v (moved 4 ((64 * w + place) ∷ after_first d first_place second_place s) (a ∷ l ∷ []))) (sym two)
        evens [] long small even (inl two) = absurd (omega (arith, long, two))
        evens (a ∷ []) long small even (inl two) = absurd (omega (arith, long, two))
        evens (a ∷ b ∷ l ∷ more) long small even (inl two) = absurd (omega (arith, long, two))
        evens (a ∷ b ∷ l ∷ []) long small even (inr (inl three)) =
            let rest = rest_parity 0 a (b ∷ l ∷ []) even in
            in_three a b l three (first_parity 0 a (b ∷ l ∷ []) even) (first_parity 0 b (l ∷ []) rest) (first_parity 0 l [] (rest_parity 0 b (l ∷ []) rest))
            (small 0 0 (omega arith)) (small 1 0 (omega arith)) (small 2 0 (omega arith))
            ∙ ap (λ d. count_before v (moved 4 ((64 * w + place) ∷ after_first d first_place second_place s) (a ∷ b ∷ l ∷ []))) (sym three)
        evens [] long small even (inr (inl three)) = absurd (omega (arith, long, three))
        evens (a ∷ []) long small even (inr (inl three)) = absurd (omega (arith, long, three))
        evens (a ∷ b ∷ []) long small even (inr (inl three)) = absurd (omega (arith, long, three))
        evens (a ∷ b ∷ e ∷ l ∷ more) long small even (inr (inl three)) = absurd (omega (arith, long, three))
        evens (a ∷ b ∷ e ∷ l ∷ []) long small even (inr (inr four)) =
            let rest = rest_parity 0 a (b ∷ e ∷ l ∷ []) even in
            let last = rest_parity 0 b (e ∷ l ∷ []) rest in
            in_four a b e l four (first_parity 0 a (b ∷ e ∷ l ∷ []) even) (first_parity 0 b (e ∷ l ∷ []) rest) (first_parity 0 e (l ∷ []) last)
            (first_parity 0 l [] (rest_parity 0 e (l ∷ []) last)) (small 0 0 (omega arith)) (small 1 0 (omega arith)) (small 2 0 (omega arith))
            (small 3 0 (omega arith))
            ∙ ap (λ d. count_before v (moved 4 ((64 * w + place) ∷ after_first d first_place second_place s) (a ∷ b ∷ e ∷ l ∷ []))) (sym four)
        evens [] long small even (inr (inr four)) = absurd (omega (arith, long, four))
        evens (a ∷ []) long small even (inr (inr four)) = absurd (omega (arith, long, four))
        evens (a ∷ b ∷ []) long small even (inr (inr four)) = absurd (omega (arith, long, four))
        evens (a ∷ b ∷ e ∷ []) long small even (inr (inr four)) = absurd (omega (arith, long, four))
        evens (a ∷ b ∷ e ∷ l ∷ f ∷ more) long small even (inr (inr four)) = absurd (omega (arith, long, four))

        odds : (m : List ℕ) → v.kind ≡ Pyramid → length m ≡ 3 → All (λ k. k ≤ 4) m → joins_centre m ≡ true
            → slice_index numbers (27 + digits 2 m)
            ≡ count_before v (moved 4 ((64 * w + place) ∷ after_first (length v.sizes) first_place second_place s) m)
        odds [] pyramid long small odd = absurd (omega (arith, long))
        odds (a ∷ []) pyramid long small odd = absurd (omega (arith, long))
        odds (a ∷ b ∷ []) pyramid long small odd = absurd (omega (arith, long))
        odds (a ∷ b ∷ l ∷ []) pyramid long small odd =
            let three : length v.sizes ≡ 3 = subst (λ k. HasDimension k (length v.sizes)) pyramid tells.fits in
            let rest = rest_parity 1 a (b ∷ l ∷ []) odd in
            to_centre a b l pyramid three (first_parity 1 a (b ∷ l ∷ []) odd) (first_parity 1 b (l ∷ []) rest)
            (first_parity 1 l [] (rest_parity 1 b (l ∷ []) rest)) (small 0 0 (omega arith)) (small 1 0 (omega arith)) (small 2 0 (omega arith))
            ∙ ap (λ d. count_before v (moved 4 ((64 * w + place) ∷ after_first d first_place second_place s) (a ∷ b ∷ l ∷ []))) (sym three)
        odds (a ∷ b ∷ e ∷ l ∷ more) pyramid long small odd = absurd (omega (arith, long))

        pyramid_of : (kind : Kind) (m : List ℕ) → is_middle kind m ≡ true → joins_samples m ≡ false → kind ≡ Pyramid
        pyramid_of Cube m t none = absurd (false≢true (sym (ap (λ b. b && (axes_along m == 1)) none) ∙ t))
        pyramid_of Simplex m t none = absurd (false≢true (sym (ap (λ b. b && nat_lt 0 (axes_along m)) none) ∙ t))
        pyramid_of Pyramid m t none = refl

        by_parity : (joins_samples middle ≡ true) ⊎ (joins_centre middle ≡ true) → slice_index numbers (place_of middle)
            ≡ count_before v (moved 4 ((64 * w + place) ∷ after_first (length v.sizes) first_place second_place s) middle)
        by_parity (inl even) =
            ap (λ t. slice_index numbers (if t then digits 3 middle else 27 + digits 2 middle)) even
            ∙ evens middle is.0 is.1 even (dimension_cases v.kind (length v.sizes) tells.fits)
        by_parity (inr odd) =
            let within = axes_between (length v.sizes) (dimension_cases v.kind (length v.sizes) tells.fits) in
            let none : joins_samples middle ≡ false =
            false_from_ne_true (joins_samples middle) (λ even. even_and_odd middle (omega (arith, is.0, within.0)) even odd) in
            let pyramid = pyramid_of v.kind middle is.2 none in
            let three : length v.sizes ≡ 3 = subst (λ k. HasDimension k (length v.sizes)) pyramid tells.fits in
            ap (λ t. slice_index numbers (if t then digits 3 middle else 27 + digits 2 middle)) none
            ∙ odds middle pyramid (is.0 ∙ three) is.1 odd

    -- ---- the cube by its number

    pub cube_edges_counted : 64 * w + place + 1 < rows.length → CountsCubeEdges v (cube_number rows s c (64 * w + place)) numbers
    cube_edges_counted lt rank e few less =
        let within = axes_between (length v.sizes) (dimension_cases v.kind (length v.sizes) tells.fits) in
        let cube : ℕ = cube_number rows s c (64 * w + place) in
        let middle : List ℕ = middle_from v.kind (length v.sizes) rank e in
        let there : In middle (cube_middles v.kind (length v.sizes)) = own_middle v.kind (length v.sizes) rank e few less in
        let is = (has_all v.kind (length v.sizes) (dimension_cases v.kind (length v.sizes) tells.fits) tells.fits middle).0 there in
        cube_counted middle is
        ∙ ap (λ y. count_before v (moved 4 y middle))
        (sym (cube_stands rows v.sizes s c (64 * w + place) within.0 within.1 tells.stand tells.inside (omega (arith, lt)) tells.layer_there))
        ∙ sym (ap (count_before v) (midpoint_moved v.kind v.sizes tells.fits cube rank e few))

-- ---- what is counted in turn

-- in pyramids there are three rows along the middle axis that they have
pyramid_side : (v : Volume) (rows : GridRows) (s c w : ℕ) (slots : CubeSlots) → TellsSlots v rows s c w slots → slots.kind ≡ Pyramid → slots.side ≡ 3
pyramid_side v rows s c w slots tells own =
    let three : length v.sizes ≡ 3 = subst (λ k. HasDimension k (length v.sizes)) (sym tells.kind ∙ own) tells.fits in
    let steps = steps_of rows v.sizes tells.stand in
    tells.sides ∙ (λ t. (2 * (steps.1 three).0 t + 1) * (2 * (steps.1 three).1 t + 1))

pub all_counted : (v : Volume) (rows : GridRows) (s c w place : ℕ) (slots : CubeSlots) (one two three numbers : List ℕ) → TellsSlots v rows s c w slots
    → HaveRanks one 0 3 slots.below slots.side place → HaveRanks two (3 * slots.side) 3 slots.upright slots.side place
    → KeepsBelow (3 * slots.side) one two → HaveRanks three (6 * slots.side) 3 slots.lower slots.side place → KeepsBelow (6 * slots.side) two three
    → (slots.kind ≡ Pyramid → HaveRanks numbers 27 2 slots.centres 4 place) → (slots.kind ≡ Pyramid → KeepsBelow 27 three numbers)
    → (slots.kind ≢ Pyramid → numbers ≡ three) → IsCounted slots place numbers
all_counted v rows s c w place slots one two three numbers tells first second keeps third stays centres last others =
    let below = ranks_kept two three 0 3 slots.below slots.side place (6 * slots.side)
    (ranks_kept one two 0 3 slots.below slots.side place (3 * slots.side) first keeps (omega arith)) stays (omega arith) in
    let upright = ranks_kept two three (3 * slots.side) 3 slots.upright slots.side place (6 * slots.side) second stays (omega arith) in
    elim (pyramid_or_not slots.kind) as (λ _. IsCounted slots place numbers) [
      | inl own ↦
          let three_rows = pyramid_side v rows s c w slots tells own in
          record {
            below = ranks_kept three numbers 0 3 slots.below slots.side place 27 below (last own) (omega (arith, three_rows));
            upright = ranks_kept three numbers (3 * slots.side) 3 slots.upright slots.side place 27 upright (last own) (omega (arith, three_rows));
            lower = ranks_kept three numbers (6 * slots.side) 3 slots.lower slots.side place 27 third (last own) (omega (arith, three_rows));
            centres = centres;
          }
      | inr other ↦
          let same = sym (others other) in
          record {
            below = subst (λ n. HaveRanks n 0 3 slots.below slots.side place) same below;
            upright = subst (λ n. HaveRanks n (3 * slots.side) 3 slots.upright slots.side place) same upright;
            lower = subst (λ n. HaveRanks n (6 * slots.side) 3 slots.lower slots.side place) same third;
            centres = centres;
          }
    ]
