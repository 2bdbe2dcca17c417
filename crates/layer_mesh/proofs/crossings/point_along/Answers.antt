use Rattle.std.proofs.Common.{rules, ℕ, ℤ, ◌+◌, ◌*◌, ◌/◌, ◌%◌, ◌==◌, if◌then◌else◌, pos, w64, FitsSigned, to_z, of_z, arith, ◌∙◌}
use Rattle.std.proofs.lemmas.Int.{to_z-of_z}
use Rattle.layer_mesh.proofs.ListsPlaceByPlace.{all_made, one_more}
use Rattle.layer_mesh.proofs.crossings.point_along.Goals as goal

abbrev coordinate : ℕ → ℕ → ℤ
coordinate share m = pos (1000000 * (m / 4) + (if m % 4 == 2 then share else 0))

pub loop-axis-preserved : goal.loop-axis-preserved
loop-axis-preserved g c =
    let fits : FitsSigned w64 c.coordinate_along.result = search rules in
    one_more (coordinate c.args.share) (pos 0) c.args.middle.now c.loop-axis.point c.loop-axis.axis (to_z w64 (of_z w64 c.coordinate_along.result))
    c.loop-axis.invariant.0 (omega (arith, c.loop-axis-test.true, c.told-middle)) c.loop-axis.invariant.1
    (to_z-of_z w64 c.coordinate_along.result fits ∙ c.coordinate_along.ensures)

pub returns : goal.returns
returns g c =
    all_made (coordinate c.args.share) (pos 0) c.args.middle.now c.loop-axis.point
    c.loop-axis.invariant.0 (λ i h. c.loop-axis.invariant.1 i (omega arith))
