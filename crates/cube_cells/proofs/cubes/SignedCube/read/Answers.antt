use Rattle.std.proofs.Common.{rules, ◌≡◌, ℕ, ◌+◌, ◌*◌, ◌%◌, ◌^◌, ◌<◌, ◌≤◌, List, length, take, ℤ, w64, to_z, of_z, int_le, arith, ap, sym, ◌∙◌, subst}
use Rattle.std.specs.Prelude.{All, map, slice_index}
use Rattle.std.proofs.lemmas.Int.{to_z-of_z}
use Rattle.lists.specs.Orders.{numbers}
use Rattle.iso_model.specs.Turns.{total}
use Rattle.iso_model.specs.Splits.{cube_count, cube_at}
use Rattle.iso_model.specs.Values.{Grid, sample_number, is_positive}
use Rattle.split_laws.proofs.Coordinates.{cube_below}
use Rattle.grid_split.proofs.CubeNumbers.{few_cubes}
use Rattle.mixed_cubes.specs.declared.cubes.CubePlace.{CubePlace}
use Rattle.mixed_cubes.specs.CubeFaces.{corner_number, face_samples}
use Rattle.mixed_cubes.proofs.AxisSteps.{at_least_one}
use Rattle.cube_cells.specs.CubePoints.{sizes_of, corner_sample}
use Rattle.cube_cells.proofs.Spans.{sizes_are}
use Rattle.cube_cells.proofs.Samples.{steps_there, steps_are, steps_long, steps_inside, cube_corner, cube_centre}
use Rattle.cube_cells.proofs.cubes.SignedCube.read.Goals as goal

pub shared_ref_as_front-corners : goal.shared_ref_as_front-corners
shared_ref_as_front-corners g c = steps_there g.row.D (omega (arith, c.requires.axes, c.requires.regular.four_axes))

pub place_at-requires : goal.place_at-requires
place_at-requires g c =
    let long : length c.args.steps.now.spans ≡ g.row.D = search rules in
    let are : sizes_of c.args.steps.now.spans ≡ c.args.grid.now.sizes =
    sizes_are c.args.grid.now.sizes c.args.steps.now.spans (long ∙ sym c.requires.axes)
    (at_least_one c.args.grid.now.sizes c.requires.regular.sized) c.requires.steps.spans in
    search (rules, subst (λ (sizes : List ℕ). c.args.cube.number < cube_count sizes) (sym are) c.requires.number)

pub point_signs-requires-clause-inside : goal.point_signs-requires-clause-inside
point_signs-requires-clause-inside g c =
    let corners : List ℕ = take (1 * 2 ^ g.row.D % 18446744073709551616) c.args.steps.now.corners in
    let long : length c.args.steps.now.corners ≡ 16 = search rules in
    let four : g.row.D ≤ 4 = omega (arith, c.requires.axes, c.requires.regular.four_axes) in
    let are : corners ≡ map (corner_number c.args.grid.now.sizes) (numbers (2 ^ length c.args.grid.now.sizes)) =
    steps_are c.args.grid.now.sizes c.args.steps.now.corners g.row.D c.requires.axes four long c.requires.steps.corners in
    let all : c.as_slice.result.now ≡ c.args.grid.now.samples = c.as_slice.ensures.value ∙ ap (λ (grid : Grid). grid.samples) c.grid.view_is in
    let at : c.args.cube.sample ≡ sample_number c.args.grid.now.sizes (cube_at c.args.grid.now.sizes c.args.cube.number) =
    ap (λ (p : CubePlace). p.sample) c.requires.place in
    subst (λ (samples : List ℤ). (k : ℕ) → k < length corners → c.args.cube.sample + slice_index corners k < length samples) (sym all)
    (steps_inside c.args.grid.now c.args.cube.number c.args.cube.sample corners (at_least_one c.args.grid.now.sizes c.requires.regular.sized)
    c.requires.regular.all_there c.requires.number at are)

pub returns-clause-cube : goal.returns-clause-cube
returns-clause-cube g c =
    let sizes : List ℕ = c.args.grid.now.sizes in
    let spans : length c.args.steps.now.spans ≡ g.row.D = search rules in
    let same : sizes_of c.args.steps.now.spans ≡ sizes =
    sizes_are sizes c.args.steps.now.spans (spans ∙ sym c.requires.axes) (at_least_one sizes c.requires.regular.sized) c.requires.steps.spans in
    let stands : c.place_at.result ≡ cube_at sizes c.args.cube.number = c.place_at.ensures ∙ ap (λ (ns : List ℕ). cube_at ns c.args.cube.number) same in
    let corners : List ℕ = take (1 * 2 ^ g.row.D % 18446744073709551616) c.args.steps.now.corners in
    let long : length c.args.steps.now.corners ≡ 16 = search rules in
    let four : g.row.D ≤ 4 = omega (arith, c.requires.axes, c.requires.regular.four_axes) in
    let are : corners ≡ map (corner_number sizes) (numbers (2 ^ length sizes)) =
    steps_are sizes c.args.steps.now.corners g.row.D c.requires.axes four long c.requires.steps.corners in
    let count : length corners ≡ 2 ^ length sizes = ap length are ∙ steps_long sizes in
    let all : c.as_slice.result.now ≡ c.args.grid.now.samples = c.as_slice.ensures.value ∙ ap (λ (grid : Grid). grid.samples) c.grid.view_is in
    let at : c.args.cube.sample ≡ sample_number sizes (cube_at sizes c.args.cube.number) = ap (λ (p : CubePlace). p.sample) c.requires.place in
    let iso : to_z w64 (of_z w64 c.args.iso) ≡ c.args.iso = to_z-of_z w64 c.args.iso c.ranges.iso in
    record {
      stands = stands;
      corners = λ k h.
          c.point_signs.ensures.corners k (omega (arith, h, count))
          ∙ ap (λ (z : ℤ). int_le z (corner_sample c.as_slice.result.now corners c.args.cube.sample k)) iso
          ∙ cube_corner c.args.grid.now c.args.iso c.args.cube.number c.args.cube.sample k c.place_at.result corners c.as_slice.result.now all stands at are h;
      centre = λ three.
          c.point_signs.ensures.centre (count ∙ ap (λ (n : ℕ). 2 ^ n) three)
          ∙ ap (λ (z : ℤ). is_positive z (total (face_samples c.as_slice.result.now corners c.args.cube.sample))) iso
          ∙ cube_centre c.args.grid.now c.args.iso c.args.cube.number c.args.cube.sample c.place_at.result corners c.as_slice.result.now all stands at
          are three;
    }

pub returns-clause-few : goal.returns-clause-few
returns-clause-few g c =
    let sizes : List ℕ = c.args.grid.now.sizes in
    let spans : length c.args.steps.now.spans ≡ g.row.D = search rules in
    let some : All (λ n. 1 ≤ n) sizes = at_least_one sizes c.requires.regular.sized in
    let same : sizes_of c.args.steps.now.spans ≡ sizes = sizes_are sizes c.args.steps.now.spans (spans ∙ sym c.requires.axes) some c.requires.steps.spans in
    let stands : c.place_at.result ≡ cube_at sizes c.args.cube.number = c.place_at.ensures ∙ ap (λ (ns : List ℕ). cube_at ns c.args.cube.number) same in
    λ i h.
    let inside : i < length sizes = omega (arith, h, c.requires.axes) in
    let at : slice_index c.place_at.result i ≡ slice_index (cube_at sizes c.args.cube.number) i = ap (λ (xs : List ℕ). slice_index xs i) stands in
    omega (arith, at, cube_below sizes c.args.cube.number c.requires.number i inside, few_cubes sizes some c.requires.regular.few i inside)
