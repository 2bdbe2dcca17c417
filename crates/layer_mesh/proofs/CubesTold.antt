-- What is told of a mixed kept cube of a layer, to put its simplices.
use Rattle.std.proofs.Common.{ap, arith, refl, sym, subst, ◌∙◌}
use Rattle.std.specs.Prelude.{ℕ, ◌+◌, ◌-◌, ◌*◌, ◌/◌, ◌%◌, ◌<◌, ◌≤◌, ◌≡◌, Bool, true, List, [], ◌∷◌, length, slice_index, slice_index_or}
use Rattle.std.specs.Prelude.{All}
use Rattle.lists.specs.Bits.{is_set}
use Rattle.lists.proofs.Tests.{and_right}
use Rattle.iso_model.specs.declared.Kind.TheVariants.{Pyramid}
use Rattle.iso_model.specs.Cells.{HasDimension}
use Rattle.iso_model.specs.Splits.{cube_at}
use Rattle.iso_model.specs.Tables.{Table}
use Rattle.iso_model.specs.Values.{Volume}
use Rattle.iso_model.proofs.DimensionLaws.{dimension_cases}
use Rattle.bit_rows.specs.Rows.{row_bit}
use Rattle.cube_cells.specs.CubePoints.{set_of}
use Rattle.edge_middles.specs.WhatIsThere.{is_centre_above, is_kept_at}
use Rattle.edge_middles.proofs.PointsThere.{along_axis}
use Rattle.grid_rows.specs.declared.grids.GridRows.{GridRows}
use Rattle.grid_rows.specs.declared.planes.BitPlane.{BitPlane}
use Rattle.grid_rows.specs.Planes.{HasRowOfBits, bit_row}
use Rattle.grid_rows.specs.RowNumbers.{bordered, bordered_rows, corners_around, cube_rows, sample_rows}
use Rattle.layer_scan.specs.declared.edges.LayerEdges.{LayerEdges}
use Rattle.layer_scan.specs.declared.scan.LayerPlanes.{LayerPlanes}
use Rattle.layer_scan.specs.Corners.{mixed_corners}
use Rattle.layer_scan.specs.CubeNumbers.{CountsCubeEdges, cube_number}
use Rattle.layer_scan.specs.CubePlanes.{corner_rows, with_border}
use Rattle.layer_scan.specs.GridEdges.{TellsCentres}
use Rattle.layer_scan.specs.GridPlanes.{AreRowsOf, TellsSigns, after_first}
use Rattle.layer_scan.proofs.CentresThere.{axes_of_three}
use Rattle.layer_scan.proofs.PlaneRowSteps.{row_there}
use Rattle.layer_mesh.specs.declared.signs.PointRows.{PointRows}
use Rattle.layer_mesh.specs.declared.signs.SignWords.{SignWords}
use Rattle.layer_mesh.specs.CubeCells.{AreSignsAt, TellsCube}
use Rattle.layer_mesh.specs.CubeSigns.{ArePointsOf, AreSignWords, AreSignsOfRow}
use Rattle.layer_mesh.specs.LayerCubes.{TellsLayerBelow, is_mixed_at}
use Rattle.layer_mesh.specs.PointSigns.{HavePoints, centre_sign}
use Rattle.layer_mesh.proofs.RowsOfCubes.{kept_is, mixed_kept, stands_there}
use Rattle.layer_mesh.proofs.SignsOfCubes.{signs_at}

-- the planes have these rows
pub have_points : (v : Volume) (d : ℕ) (t : Table) (s c : ℕ) (planes : LayerPlanes) (edges : LayerEdges) (points : PointRows) → TellsLayerBelow v d t s planes edges
    → ArePointsOf planes edges c points → All (λ n. n < sample_rows planes.rows) points.row.corners
    → points.row.number < bordered_rows planes.rows → HavePoints d points
have_points v d t s c planes edges points told are corners number =
    let rows : GridRows = planes.rows in
    let four : length points.row.corners ≡ 4 = ap length are.corners in record {
      words = ap (λ (p : BitPlane). p.words) are.upper ∙ told.scan.lower_signs.0 ∙ sym told.scan.below_signs.0
          ∙ sym (ap (λ (p : BitPlane). p.words) are.lower);
      four = four;
      lower = λ k n h. subst (λ p. HasRowOfBits p (slice_index_or points.row.corners k n)) (sym are.lower)
          (row_there (sample_rows rows) rows.words planes.below_signs (slice_index_or points.row.corners k n) told.scan.below_signs (corners k n h));
      upper = λ k n h. subst (λ p. HasRowOfBits p (slice_index_or points.row.corners k n)) (sym are.upper)
          (row_there (sample_rows rows) rows.words planes.lower_signs (slice_index_or points.row.corners k n) told.scan.lower_signs (corners k n h));
      centres = λ pyramid.
          let has = told.rows_of_edges.centres (sym are.kind ∙ pyramid) in (
            subst (λ p. HasRowOfBits p points.row.number) (sym are.centres)
                (row_there (bordered_rows rows) rows.words edges.centres points.row.number has number),
            ap (λ (p : BitPlane). p.words) are.centres ∙ has.0 ∙ sym told.scan.below_signs.0 ∙ sym (ap (λ (p : BitPlane). p.words) are.lower),
          );
    }

-- in three dimensions the centre of a kept cube has its sign
centre_there : (v : Volume) (rows : GridRows) (s c x : ℕ) (plane : BitPlane) (number : ℕ) → v.kind ≡ Pyramid → HasDimension v.kind (length v.sizes)
    → AreRowsOf v.sizes rows → c < cube_rows rows → number ≡ with_border rows c → TellsCentres v rows s plane
    → is_kept_at v (x ∷ after_first (length v.sizes) (c % rows.second.cubes) (c / rows.second.cubes) s) ≡ true
    → row_bit (bit_row plane number) x
    ≡ is_centre_above v (x ∷ after_first (length v.sizes) (c % rows.second.cubes) (c / rows.second.cubes) s)
centre_there v rows s c x plane number pyramid fits stand row at tells kept =
    let three : length v.sizes ≡ 3 = subst (λ k. HasDimension k (length v.sizes)) pyramid fits in
    let axes = axes_of_three rows v.sizes three stand in
    let along = along_axis rows.second.cubes rows.third.cubes c row in
    let last : c / rows.second.cubes + 1 ≡ 1 = omega (arith, along.1, axes.3) in
    let place : x ∷ after_first (length v.sizes) (c % rows.second.cubes) (c / rows.second.cubes) s ≡ x ∷ c % rows.second.cubes ∷ s ∷ [] =
    ap (λ n. x ∷ after_first n (c % rows.second.cubes) (c / rows.second.cubes) s) three in
    ap (λ n. row_bit (bit_row plane n) x) (at ∙ ap (bordered rows (c % rows.second.cubes + 1)) last)
    ∙ tells (c % rows.second.cubes) x along.0 (ap (is_kept_at v) (sym place) ∙ kept) ∙ ap (is_centre_above v) (sym place)

module _ (v : Volume) (d : ℕ) (t : Table) (s : ℕ) (planes : LayerPlanes) (edges : LayerEdges) (told : TellsLayerBelow v d t s planes edges) (c : ℕ)
    (row : c < cube_rows planes.rows) (w place : ℕ) (low : place < 64) (mixed : is_mixed_at planes c (64 * w + place) ≡ true) where
  kept_there : is_kept_at v ((64 * w + place)
      ∷ after_first (length v.sizes) (c % planes.rows.second.cubes) (c / planes.rows.second.cubes) s) ≡ true
  kept_there =
      sym (kept_is v d t s planes edges told c row (64 * w + place))
      ∙ and_right (mixed_corners planes.below_signs planes.lower_signs (corner_rows planes.rows c) (64 * w + place))
      (row_bit (bit_row planes.kept_below (with_border planes.rows c)) (64 * w + place)) mixed

  pub inside_row : 64 * w + place + 1 < planes.rows.length
  inside_row = (mixed_kept v d t s planes edges told c row (64 * w + place) mixed).0

  pub cube_told : (words : SignWords) → AreSignsOfRow d planes edges c w words → (signs : ℕ) → signs ≡ set_of (λ k. is_set (slice_index words.words k) place) words.count
      → (numbers : List ℕ) → CountsCubeEdges v (cube_number planes.rows s c (64 * w + place)) numbers
      → TellsCube v (cube_number planes.rows s c (64 * w + place)) d t signs numbers
  cube_told words own signs is numbers counted =
      let points : PointRows = own.0 in
      let are : ArePointsOf planes edges c points = own.1 in
      let have : AreSignWords d points w words = own.2 in
      let rows : GridRows = planes.rows in
      let along = along_axis rows.second.cubes rows.third.cubes c row in
      let first : c % rows.second.cubes + rows.second.step < rows.second.samples = omega (arith, along.0, rows.few.0.2) in
      let second : c / rows.second.cubes + rows.third.step < rows.third.samples = omega (arith, along.1, rows.few.1.2) in
      let own_kind : points.kind ≡ v.kind = are.kind ∙ told.cubes.kind in
      let here : AreSignsAt v ((64 * w + place) ∷ after_first (length v.sizes) (c % rows.second.cubes) (c / rows.second.cubes) s) signs =
      signs_at v rows told.cubes.stand s points (subst (TellsSigns v rows s) (sym are.lower) told.below)
      (subst (TellsSigns v rows (s + 1)) (sym are.upper) told.lower) (c % rows.second.cubes) (c / rows.second.cubes) are.corners first second
      (64 * w + place) inside_row (dimension_cases v.kind (length v.sizes) told.cubes.fits) w place low refl own_kind
      (λ pyramid.
      centre_there v rows s c (64 * w + place) points.centres.now points.row.number pyramid told.cubes.fits told.cubes.stand row are.number
      (subst (TellsCentres v rows s) (sym are.centres) (told.cubes.layer.centres pyramid)) kept_there)
      words (subst (λ n. AreSignWords n points w words) (sym told.table.axes) have) signs is in record {
        fits = told.cubes.fits;
        axes = told.table.axes;
        kind = told.table.kind;
        kept = (mixed_kept v d t s planes edges told c row (64 * w + place) mixed).1;
        entries = told.table.entries;
        own_signs = subst (λ y. AreSignsAt v y signs) (sym (stands_there v d t s planes edges told c row (64 * w + place) inside_row)) here;
        counted = counted;
      }
