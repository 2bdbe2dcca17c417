use Rattle.std.proofs.Common.{rules, arith, ap, subst, ◌∙◌, ◌≡◌, ◌++◌, ℕ, List, length}
use Rattle.std.specs.Prelude.{bit_and, flat_map, slice_index}
use Rattle.lists.specs.Orders.{numbers}
use Rattle.bit_rows.specs.Rows.{IsWordOf, row_bit}
use Rattle.grid_rows.specs.Planes.{bit_row}
use Rattle.grid_rows.specs.RowNumbers.{bordered_rows, sample_rows}
use Rattle.layer_scan.specs.declared.scan.LayerPlanes.{LayerPlanes}
use Rattle.layer_scan.specs.Corners.{mixed_corners}
use Rattle.layer_scan.specs.CubePlanes.{corner_rows, with_border}
use Rattle.layer_scan.proofs.PlaneRowSteps.{have_corners, row_there}
use Rattle.layer_scan.proofs.WordTests.{and_words, own_word}
use Rattle.layer_mesh.specs.LayerCubes.{is_mixed_at, word_simplices}
use Rattle.layer_mesh.proofs.PlacesOfWords.{one_number_more}
use Rattle.layer_mesh.proofs.RowsOfCubes.{row_by_words}
use Rattle.layer_mesh.proofs.layers.Layer.add_row.Goals as goal

pub row-kept-requires : goal.row-kept-requires
row-kept-requires g c =
    let planes : LayerPlanes = c.args.self.now.planes.now in
    row_there (bordered_rows planes.rows) planes.rows.words planes.kept_below c.cube_row-row.result.number c.requires.told.2.scan.kept_below
    c.cube_row-row.ensures.number

pub mixed-requires-clause-corners : goal.mixed-requires-clause-corners
mixed-requires-clause-corners g c =
    let planes : LayerPlanes = c.args.self.now.planes.now in
    have_corners (sample_rows planes.rows) planes.rows.words planes.below_signs planes.lower_signs c.cube_row-row.result.corners
    c.requires.told.2.scan.below_signs c.requires.told.2.scan.lower_signs c.cube_row-row.ensures.corners (ap length c.cube_row-row.ensures.row.1)

pub add_word-requires : goal.add_word-requires
add_word-requires g c =
    let planes : LayerPlanes = c.args.self.now.planes.now in
    let n : ℕ = c.args.number in
    let w : ℕ = c.loop-w.w in
    let kept : List ℕ = c.row-kept.result.now in
    let corners : IsWordOf (mixed_corners planes.below_signs planes.lower_signs (corner_rows planes.rows n)) w c.mixed.result =
    subst (λ cs. IsWordOf (mixed_corners planes.below_signs planes.lower_signs cs) w c.mixed.result) c.cube_row-row.ensures.row.1 c.mixed.ensures in
    let own : IsWordOf (row_bit (bit_row planes.kept_below (with_border planes.rows n))) w (slice_index kept w) =
    subst (λ r. IsWordOf (row_bit r) w (slice_index kept w)) (c.row-kept.ensures.row ∙ ap (bit_row planes.kept_below) c.cube_row-row.ensures.row.0)
    (own_word kept w) in
    let mixed : IsWordOf (is_mixed_at planes n) w (bit_and c.mixed.result (slice_index kept w)) =
    and_words (mixed_corners planes.below_signs planes.lower_signs (corner_rows planes.rows n)) (row_bit (bit_row planes.kept_below (with_border planes.rows n)))
    w c.mixed.result (slice_index kept w) corners own in
    search (rules, mixed)

pub loop-w-preserved : goal.loop-w-preserved
loop-w-preserved g c v s t =
    let h = word_simplices v c.args.self.now.table.now c.args.self.now.planes.now.rows s c.args.number in
    c.in_ok-add_word.ensures v s t
    ∙ ap (λ ws. ws ++ h c.loop-w.w) (c.loop-w.invariant v s t) ∙ one_number_more h c.args.simplices.now.items c.loop-w.w

pub returns : goal.returns
returns g c v s t =
    let h = word_simplices v c.args.self.now.table.now c.args.self.now.planes.now.rows s c.args.number in
    let end : c.loop-w.w ≡ c.args.self.now.planes.now.rows.words = omega (arith, c.loop-w-test.false, c.loop-w.auto.w-end) in
    c.loop-w.invariant v s t ∙ ap (λ n. c.args.simplices.now.items ++ flat_map h (numbers n)) end
    ∙ ap (λ ws. c.args.simplices.now.items ++ ws)
    (row_by_words v c.args.self.now.table.now c.args.self.now.planes.now.rows s c.args.number t.scan.words)
