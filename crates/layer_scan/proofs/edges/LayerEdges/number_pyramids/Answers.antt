use Rattle.std.proofs.Common.{ap, arith, refl, subst, sym, true, ◌∙◌, ℕ, ℤ, ◌*◌, ◌+◌, ◌≤◌, w64, FitsSigned}
use Rattle.std.proofs.lemmas.Int.{fits_signed_from_abs, to_z-of_z}
use Rattle.iso_model.specs.declared.Kind.{Kind}
use Rattle.grid_rows.specs.declared.grids.GridRows.{GridRows}
use Rattle.grid_rows.specs.declared.planes.BitPlane.{BitPlane}
use Rattle.grid_rows.specs.RowNumbers.{cube_rows, edge_rows}
use Rattle.layer_scan.specs.declared.scan.LayerPlanes.{LayerPlanes}
use Rattle.layer_scan.specs.Centres.{centre_at}
use Rattle.layer_scan.specs.CubePlanes.{with_border}
use Rattle.layer_scan.specs.PlanesOfCentres.{centre_firsts, centre_seconds}
use Rattle.layer_scan.specs.PlanesOfEdges.{firsts_of, seconds_of}
use Rattle.layer_scan.specs.RowsOfEdges.{row_number}
use Rattle.layer_scan.proofs.EdgeWordSteps.{below_most}
use Rattle.layer_scan.proofs.NumberRoom.{centres_counted, edges_counted, pyramid_room}
use Rattle.layer_scan.proofs.PlaneRowSteps.{within_border}
use Rattle.layer_scan.proofs.edges.LayerEdges.number_pyramids.Goals as goal

pub write_centres-requires-clause-inside : goal.write_centres-requires-clause-inside
write_centres-requires-clause-inside c = λ i x h is.
    let rows : GridRows = c.args.planes.now.rows in
    let before = c.requires.planes.within (with_border rows i) x (within_border rows i h) is in
    omega (arith, before)

pub number_centres-self-requires-clause-few : goal.number_centres-self-requires-clause-few
number_centres-self-requires-clause-few c =
    let planes : LayerPlanes = c.args.planes.now in
    let rows : GridRows = planes.rows in
    let room = pyramid_room rows c.args.self.now.count c.requires.planes.samples (c.requires.edges.three c.requires.pyramids) c.requires.few in
    below_most _ (c.args.self.now.count + 2 * cube_rows rows * (2 * rows.length)) _
    (centres_counted rows c.write_centres.new.centres planes.lower_signs planes.kept c.args.self.now.count c.requires.planes.within)
    (omega (arith, room))

pub number_plane-self-requires-clause-few : goal.number_plane-self-requires-clause-few
number_plane-self-requires-clause-few c =
    let planes : LayerPlanes = c.args.planes.now in
    let rows : GridRows = planes.rows in
    let count : ℕ = c.args.self.now.count in
    let second : ℕ = c.number_centres-self.result in
    let room = pyramid_room rows count c.requires.planes.samples (c.requires.edges.three c.requires.pyramids) c.requires.few in
    let most : second ≤ count + 2 * cube_rows rows * (2 * rows.length) =
    subst (λ (m : ℕ). m ≤ count + 2 * cube_rows rows * (2 * rows.length)) (sym c.number_centres-self.ensures.next)
    (centres_counted rows c.write_centres.new.centres planes.lower_signs planes.kept count c.requires.planes.within) in
    below_most _ (second + edge_rows rows * (2 * rows.length)) _
    (edges_counted rows c.args.self.now.kind true planes.lower_signs planes.upper_signs planes.kept second c.requires.planes.within)
    (omega (arith, room, most))

pub number_centres-self-requires-2-clause-few : goal.number_centres-self-requires-2-clause-few
number_centres-self-requires-2-clause-few c =
    let planes : LayerPlanes = c.args.planes.now in
    let rows : GridRows = planes.rows in
    let count : ℕ = c.args.self.now.count in
    let second : ℕ = c.number_centres-self.result in
    let third : ℕ = c.number_plane-self.result in
    let room = pyramid_room rows count c.requires.planes.samples (c.requires.edges.three c.requires.pyramids) c.requires.few in
    let most : second ≤ count + 2 * cube_rows rows * (2 * rows.length) =
    subst (λ (m : ℕ). m ≤ count + 2 * cube_rows rows * (2 * rows.length)) (sym c.number_centres-self.ensures.next)
    (centres_counted rows c.write_centres.new.centres planes.lower_signs planes.kept count c.requires.planes.within) in
    let more : third ≤ second + edge_rows rows * (2 * rows.length) =
    subst (λ (m : ℕ). m ≤ second + edge_rows rows * (2 * rows.length)) (sym c.number_plane-self.ensures.next)
    (edges_counted rows c.args.self.now.kind true planes.lower_signs planes.upper_signs planes.kept second c.requires.planes.within) in
    below_most _ (third + 2 * cube_rows rows * (2 * rows.length)) _
    (centres_counted rows c.write_centres.new.centres planes.upper_signs planes.kept third c.requires.planes.within)
    (omega (arith, room, most, more))

pub returns-clause-numbers : goal.returns-clause-numbers
returns-clause-numbers c =
    let planes : LayerPlanes = c.args.planes.now in
    let rows : GridRows = planes.rows in
    let kind : Kind = c.args.self.now.kind in
    let centres : BitPlane = c.write_centres.new.centres in
    let second : ℕ = c.number_centres-self.result in
    let third : ℕ = c.number_plane-self.result in
    let fits : FitsSigned w64 planes.iso = fits_signed_from_abs w64 planes.iso (omega (arith, c.requires.planes.iso)) in
    record {
      second = second;
      third = third;
      centres = λ i h x. c.write_centres.ensures.cubes i h x
          ∙ ap (λ (z : ℤ). centre_at rows planes.kept z c.args.lower.now c.args.upper.now i x) (to_z-of_z w64 planes.iso fits);
      border = c.write_centres.ensures.border;
      to_lower = (
        c.number_centres-self.ensures.edges,
        c.number_centres-self.ensures.next
            ∙ ap (λ w. row_number (centre_firsts rows centres planes.lower_signs planes.kept) (centre_seconds rows centres planes.lower_signs planes.kept) w
            c.args.self.now.count (2 * cube_rows rows)) (sym c.number_centres-self.ensures.rows.0),
      );
      upright = (
        c.number_plane-self.ensures.edges,
        c.number_plane-self.ensures.next
            ∙ ap (λ w. row_number (firsts_of rows kind true planes.lower_signs planes.upper_signs planes.kept)
            (seconds_of rows kind true planes.lower_signs planes.upper_signs planes.kept) w second (edge_rows rows)) (sym c.number_plane-self.ensures.rows.0),
      );
      to_upper = (
        c.number_centres-self-2.ensures.edges,
        c.number_centres-self-2.ensures.next
            ∙ ap (λ w. row_number (centre_firsts rows centres planes.upper_signs planes.kept) (centre_seconds rows centres planes.upper_signs planes.kept) w
            third (2 * cube_rows rows)) (sym c.number_centres-self-2.ensures.rows.0),
      );
      rest = refl;
    }
