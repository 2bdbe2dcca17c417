-- The simplices of a row of cubes are those of its mixed kept cubes.
use Rattle.std.proofs.Common.{ap, arith, refl, sym, subst, ◌∙◌}
use Rattle.std.specs.Prelude.{ℕ, zero, suc, ◌+◌, ◌-◌, ◌*◌, ◌/◌, ◌%◌, ◌<◌, ◌≤◌, ◌^◌, ◌≡◌, ◌&&◌, Bool, true, false, nat_lt, Contains, List, [], ◌∷◌}
use Rattle.std.specs.Prelude.{flat_map, length, map, slice_index, if◌then◌else◌}
use Rattle.lists.specs.Bits.{is_set}
use Rattle.lists.specs.Orders.{numbers}
use Rattle.lists.proofs.Contained.{Contains-filtered, Contains-passes, contained_below}
use Rattle.lists.proofs.MemberLaws.{In_from}
use Rattle.lists.proofs.Tests.{and_left, and_right, lt_of, next_below, of_lt}
use Rattle.iso_model.specs.Bipolar.{bipolar_edges, place_in}
use Rattle.iso_model.specs.Cells.{HasDimension}
use Rattle.iso_model.specs.Placed.{cell_simplices, placed_tuple}
use Rattle.iso_model.specs.Splits.{cube_at, cube_count, edge, is_odd_cell}
use Rattle.iso_model.specs.Tables.{Table, entry_of}
use Rattle.iso_model.specs.Values.{Volume, label_of}
use Rattle.iso_model.proofs.DimensionLaws.{dimension_cases}
use Rattle.bit_rows.specs.Rows.{IsWordOf, places, row_bit, word_count}
use Rattle.edge_middles.specs.HeldMiddles.{cells_in}
use Rattle.edge_middles.specs.MeshMiddles.{kept_numbers}
use Rattle.edge_middles.specs.PlainCubes.{HasOneSign}
use Rattle.edge_middles.specs.WhatIsThere.{has_cube_at, is_kept_at}
use Rattle.edge_middles.proofs.PlainCubes.{empty_entries}
use Rattle.edge_middles.proofs.PointsThere.{along_axis}
use Rattle.grid_rows.specs.declared.grids.GridRows.{GridRows}
use Rattle.grid_rows.specs.Planes.{bit_row}
use Rattle.grid_rows.specs.RowNumbers.{cube_rows}
use Rattle.layer_scan.specs.declared.edges.LayerEdges.{LayerEdges}
use Rattle.layer_scan.specs.declared.scan.LayerPlanes.{LayerPlanes}
use Rattle.layer_scan.specs.Corners.{mixed_corners}
use Rattle.layer_scan.specs.CubeNumbers.{cube_number}
use Rattle.layer_scan.specs.CubePlanes.{corner_rows, with_border}
use Rattle.layer_scan.specs.GridPlanes.{AreRowsOf, after_first}
use Rattle.lists.proofs.Tests.{not_below}
use Rattle.layer_scan.proofs.CubeEdges.{cube_stands}
use Rattle.iso_model.proofs.CellCounts.{axes_between}
use Rattle.layer_scan.proofs.KeptCubes.{cube_there}
use Rattle.layer_scan.proofs.OneSign.{plain_unless_mixed}
use Rattle.mesh_placing.proofs.FilledLists.{flat_map-empty}
use Rattle.layer_mesh.specs.LayerCubes.{TellsLayerBelow, cube_simplices, is_mixed_at, place_simplices, row_simplices, word_simplices}
use Rattle.layer_mesh.proofs.CubesOfCells.{kept_cell_of}
use Rattle.layer_mesh.proofs.MeshByLayers.{all_cubes}
use Rattle.layer_mesh.proofs.PlacesOfWords.{by_blocks, none_from, same_below, set_places}

first_within : (sizes rest : List ℕ) (x : ℕ) → 1 ≤ length sizes → has_cube_at sizes (x ∷ rest) ≡ true → x + 1 < slice_index sizes 0
first_within [] rest x some there = absurd (omega (arith, some))
first_within (n ∷ sizes) rest x some there = lt_of (x + 1) n (and_left (nat_lt (x + 1) n) (has_cube_at sizes rest) there)

empty_map : {X Y : Type 0} (f : X → Y) (xs : List X) → xs ≡ [] → map f xs ≡ []
empty_map f xs none = ap (map f) none

no_and : (a b : Bool) → (a && b) ≡ false → b ≡ true → a ≡ false
no_and true b h there = sym there ∙ h
no_and false b h there = refl

-- what is told of row c of layer s besides: where its cubes stand, that there is a cube where there is room for one, and that the cubes that are not
-- mixed have one sign
pub record KnowsRow (v : Volume) (s c : ℕ) (planes : LayerPlanes) : Type 0 where
  pub stand : (x : ℕ) → x + 1 < planes.rows.length → cube_at v.sizes (cube_number planes.rows s c x)
      ≡ x ∷ after_first (length v.sizes) (c % planes.rows.second.cubes) (c / planes.rows.second.cubes) s
  pub there : (x : ℕ) → x + 1 < planes.rows.length
      → has_cube_at v.sizes (x ∷ after_first (length v.sizes) (c % planes.rows.second.cubes) (c / planes.rows.second.cubes) s) ≡ true
  pub plain : (x : ℕ) → x + 1 < planes.rows.length
      → mixed_corners planes.below_signs planes.lower_signs (corner_rows planes.rows c) x ≡ false
      → (above : Bool)
      × HasOneSign v (x ∷ after_first (length v.sizes) (c % planes.rows.second.cubes) (c / planes.rows.second.cubes) s) above

knows_row : (v : Volume) (d : ℕ) (t : Table) (s : ℕ) (planes : LayerPlanes) (edges : LayerEdges) → TellsLayerBelow v d t s planes edges → (c : ℕ) → c < cube_rows planes.rows
    → KnowsRow v s c planes
knows_row v d t s planes edges told c row =
    let rows : GridRows = planes.rows in
    let within = axes_between (length v.sizes) (dimension_cases v.kind (length v.sizes) told.cubes.fits) in
    let along = along_axis rows.second.cubes rows.third.cubes c row in record {
      stand = λ x less. cube_stands rows v.sizes s c x within.0 within.1 told.cubes.stand row less told.cubes.layer_there;
      there = λ x less.
          cube_there rows v.sizes (c % rows.second.cubes) (c / rows.second.cubes) s x within.0 within.1 told.cubes.stand along.0 along.1 less
          told.cubes.layer_there;
      plain = λ x less none.
          plain_unless_mixed v rows s planes.below_signs planes.lower_signs told.cubes.fits told.cubes.stand told.below told.lower c x
          row less none;
    }

module _ (v : Volume) (d : ℕ) (t : Table) (s : ℕ) (planes : LayerPlanes) (edges : LayerEdges) (told : TellsLayerBelow v d t s planes edges) (c : ℕ)
    (row : c < cube_rows planes.rows) where
  more : KnowsRow v s c planes
  more = knows_row v d t s planes edges told c row

  -- where the cube at x stands
  pub stands_there : (x : ℕ) → x + 1 < planes.rows.length → cube_at v.sizes (cube_number planes.rows s c x)
      ≡ x ∷ after_first (length v.sizes) (c % planes.rows.second.cubes) (c / planes.rows.second.cubes) s
  stands_there = more.stand

  -- the bit of a cube says whether it is kept
  pub kept_is : (x : ℕ) → row_bit (bit_row planes.kept_below (with_border planes.rows c)) x ≡ is_kept_at v
      (x ∷ after_first (length v.sizes) (c % planes.rows.second.cubes) (c / planes.rows.second.cubes) s)
  kept_is x =
      let along = along_axis planes.rows.second.cubes planes.rows.third.cubes c row in
      told.kept.cubes (c % planes.rows.second.cubes) (c / planes.rows.second.cubes) x along.0 along.1

  -- the number of a cube of the row is one of the grid
  pub inside_grid : (x : ℕ) → x + 1 < planes.rows.length → cube_number planes.rows s c x < cube_count v.sizes
  inside_grid x less =
      let within = axes_between (length v.sizes) (dimension_cases v.kind (length v.sizes) told.cubes.fits) in
      let last : s < slice_index v.sizes (length v.sizes - 1) - 1 =
      omega (arith, told.cubes.layer_there) in
      let here : c + cube_rows planes.rows * s < cube_rows planes.rows * (slice_index v.sizes (length v.sizes - 1) - 1) =
      next_below c (cube_rows planes.rows) s (slice_index v.sizes (length v.sizes - 1) - 1) row last in
      subst (λ n. cube_number planes.rows s c x < n) (all_cubes planes.rows v.sizes within.0 within.1 told.cubes.stand)
      (next_below x (planes.rows.length - 1) (c + cube_rows planes.rows * s)
      (cube_rows planes.rows * (slice_index v.sizes (length v.sizes - 1) - 1)) (omega (arith, less)) here)

  -- a mixed cube is a kept one of the grid
  pub mixed_kept : (x : ℕ) → is_mixed_at planes c x ≡ true
      → (x + 1 < planes.rows.length) × Contains (kept_numbers v) (cube_number planes.rows s c x)
  mixed_kept x mixed =
      let within = axes_between (length v.sizes) (dimension_cases v.kind (length v.sizes) told.cubes.fits) in
      let bits : Bool = mixed_corners planes.below_signs planes.lower_signs (corner_rows planes.rows c) x in
      let set : is_kept_at v (x ∷ after_first (length v.sizes) (c % planes.rows.second.cubes) (c / planes.rows.second.cubes) s) ≡ true =
      sym (kept_is x) ∙ and_right bits (row_bit (bit_row planes.kept_below (with_border planes.rows c)) x) mixed in
      let there = has_cube_at v.sizes (x ∷ after_first (length v.sizes) (c % planes.rows.second.cubes) (c / planes.rows.second.cubes) s) in
      let kept = v.kept (x ∷ after_first (length v.sizes) (c % planes.rows.second.cubes) (c / planes.rows.second.cubes) s) in
      let less : x + 1 < planes.rows.length =
      omega (
        arith,
        told.cubes.stand.first,
        first_within v.sizes (after_first (length v.sizes) (c % planes.rows.second.cubes) (c / planes.rows.second.cubes) s) x
            (omega (arith, within.0)) (and_left there kept set),
      ) in
      let cube : ℕ = cube_number planes.rows s c x in (
        less,
        Contains-filtered (λ n. v.kept (cube_at v.sizes n)) (numbers (cube_count v.sizes)) cube (ap v.kept (more.stand x less) ∙ and_right there kept set)
            (contained_below (cube_count v.sizes) cube (inside_grid x less)),
      )

  -- a kept cube of one sign adds nothing
  plain_cube : (x : ℕ) → x + 1 < planes.rows.length → Contains (kept_numbers v) (cube_number planes.rows s c x)
      → (above : Bool) → HasOneSign v (x ∷ after_first (length v.sizes) (c % planes.rows.second.cubes) (c / planes.rows.second.cubes) s) above
      → flat_map (cell_simplices v t (bipolar_edges v)) (cells_in v.kind v.sizes (cube_number planes.rows s c x)) ≡ []
  plain_cube x less kept above same =
      let cube : ℕ = cube_number planes.rows s c x in
      flat_map-empty (cell_simplices v t (bipolar_edges v)) (cells_in v.kind v.sizes cube) (λ cell there.
      empty_map (placed_tuple (is_odd_cell v.kind v.sizes cell) (λ e. place_in (bipolar_edges v) (edge v.kind v.sizes cell e)))
      (entry_of t (label_of v cell))
      (empty_entries v t told.cubes.fits cube above (inside_grid x less)
      (subst (λ place. HasOneSign v place above) (sym (more.stand x less)) same) cell (In_from (cells_in v.kind v.sizes cube) cell there)
      (told.table.entries cell (kept_cell_of v cube kept cell there))))

  -- a place that is not mixed adds nothing
  pub plain_place : (x : ℕ) → is_mixed_at planes c x ≡ false → place_simplices v t planes.rows s c x ≡ []
  plain_place x plain = by_room (nat_lt (x + 1) planes.rows.length) refl
    where
      by_kept : x + 1 < planes.rows.length → (b : Bool) → v.kept (cube_at v.sizes (cube_number planes.rows s c x)) ≡ b
          → (if b then flat_map (cell_simplices v t (bipolar_edges v)) (cells_in v.kind v.sizes (cube_number planes.rows s c x)) else []) ≡ []
      by_kept less false is = refl
      by_kept less true is =
          let cube : ℕ = cube_number planes.rows s c x in
          let there = more.there x less in
          let set : row_bit (bit_row planes.kept_below (with_border planes.rows c)) x ≡ true =
          kept_is x ∙ (λ i. there i && (ap v.kept (sym (more.stand x less)) ∙ is) i) in
          let one = more.plain x less (no_and (mixed_corners planes.below_signs planes.lower_signs (corner_rows planes.rows c) x)
          (row_bit (bit_row planes.kept_below (with_border planes.rows c)) x) plain set) in
          let kept : Contains (kept_numbers v) cube =
          Contains-filtered (λ n. v.kept (cube_at v.sizes n)) (numbers (cube_count v.sizes)) cube is
          (contained_below (cube_count v.sizes) cube (inside_grid x less)) in
          plain_cube x less kept one.0 one.1

      by_room : (b : Bool) → nat_lt (x + 1) planes.rows.length ≡ b
          → (if b then cube_simplices v t (cube_number planes.rows s c x) else []) ≡ []
      by_room false is = refl
      by_room true is = by_kept (lt_of (x + 1) planes.rows.length is) (v.kept (cube_at v.sizes (cube_number planes.rows s c x))) refl

  -- a mixed one those of its cube
  pub mixed_place : (x : ℕ) → is_mixed_at planes c x ≡ true → place_simplices v t planes.rows s c x
      ≡ flat_map (cell_simplices v t (bipolar_edges v)) (cells_in v.kind v.sizes (cube_number planes.rows s c x))
  mixed_place x mixed =
      let is = mixed_kept x mixed in
      let cube : ℕ = cube_number planes.rows s c x in
      ap (λ (b : Bool). if b then cube_simplices v t cube else []) (of_lt (x + 1) planes.rows.length is.0)
      ∙ ap (λ (b : Bool). if b then flat_map (cell_simplices v t (bipolar_edges v)) (cells_in v.kind v.sizes cube) else [])
      (Contains-passes (λ n. v.kept (cube_at v.sizes n)) (numbers (cube_count v.sizes)) cube is.1)

  -- the mixed cubes of a word are all that adds
  pub word_by_places : (w word : ℕ) → IsWordOf (is_mixed_at planes c) w word
      → flat_map (λ k. place_simplices v t planes.rows s c (64 * w + k)) (places word) ≡ word_simplices v t planes.rows s c w
  unfolding word_simplices
  word_by_places w word are =
      set_places (λ k. place_simplices v t planes.rows s c (64 * w + k)) word
      (λ k low clear. plain_place (64 * w + k) (sym (are k low) ∙ clear))

-- the words of a row are the row
pub row_by_words : (v : Volume) (t : Table) (rows : GridRows) (s c : ℕ) → rows.words ≡ word_count rows.length
    → flat_map (word_simplices v t rows s c) (numbers rows.words) ≡ row_simplices v t rows s c
unfolding word_simplices
row_by_words v t rows s c words =
    let at : ℕ → List (List ℕ) = place_simplices v t rows s c in
    let n : ℕ = rows.length - 1 in
    let spare : 64 * rows.words ≡ n + (64 * rows.words - n) = omega (arith, words) in
    by_blocks at 64 rows.words ∙ ap (λ k. flat_map at (numbers k)) spare
    ∙ none_from at n (64 * rows.words - n) (λ x far. ap (λ (b : Bool). if b then cube_simplices v t (cube_number rows s c x) else [])
    (not_below (x + 1) rows.length (omega (arith, far))))
    ∙ same_below at (λ x. cube_simplices v t (cube_number rows s c x)) n
    (λ x less. ap (λ (b : Bool). if b then cube_simplices v t (cube_number rows s c x) else []) (of_lt (x + 1) rows.length (omega (arith, less))))
