use Rattle.std.proofs.Common.{ap, arith, ◌∙◌, sym, ◌+◌, ◌≡◌, ◌≤◌, ◌^◌, ℕ, ℤ, List, pos, ◌*ℤ◌, w64, to_z, of_z}
use Rattle.std.specs.Prelude.{int_le, unsigned_abs}
use Rattle.std.specs.Int.{int_div_euclid}
use Rattle.iso_model.specs.Bipolar.{differ}
use Rattle.edge_spectrum.specs.declared.cubes.Cubes.{Cubes}
use Rattle.edge_spectrum.specs.Growing.{one_if}
use Rattle.edge_spectrum.specs.Counted.{apart_from, is_centre_above, reaches}
use Rattle.edge_spectrum.proofs.StepSums.{eighth, eighth_small, grows_both, grows_same, one_more_test, small_fits, two_more}
use Rattle.edge_spectrum.proofs.differences.Differences.add_row_of_centres.Goals as goal

pub loop-x-preserved : goal.loop-x-preserved
loop-x-preserved c =
    let samples : List ℤ = c.args.samples.now in
    let cubes : Cubes = c.args.cubes in
    let corner : ℕ = c.args.corner in
    let x : ℕ = c.loop-x.x in
    let value : ℤ = c.div_euclid-value.result in
    let sum : ℤ = c.cube_sum.result in
    let eighths : value ≡ int_div_euclid sum (pos 8) =
    c.div_euclid-value.ensures ∙ ap (λ (z : ℤ). int_div_euclid z (pos 8)) (small_fits sum (omega (arith, c.cube_sum.ensures.small))) in
    let small : unsigned_abs value ≤ 2 ^ 40 = omega (arith, eighth_small sum c.cube_sum.ensures.small, ap unsigned_abs eighths) in
    let above : (iso : ℤ) → int_le iso (to_z w64 (of_z w64 value)) ≡ is_centre_above samples cubes iso x =
    λ iso.
    ap (int_le iso) (small_fits value small ∙ eighths) ∙ sym (eighth iso sum)
    ∙ ap (λ (z : ℤ). int_le (pos 8 *ℤ iso) z) c.cube_sum.ensures.sum in
    let near = small_fits c.sample.result (omega (arith, c.sample.ensures.small)) ∙ c.sample.ensures.sample in
    let far = small_fits c.sample-in-loop-x.result (omega (arith, c.sample-in-loop-x.ensures.small)) ∙ c.sample-in-loop-x.ensures.sample in
    let one = λ (iso : ℤ). one_if (differ (int_le iso (to_z w64 (of_z w64 value))) (int_le iso (to_z w64 (of_z w64 c.sample.result)))) in
    let other = λ (iso : ℤ). one_if (differ (int_le iso (to_z w64 (of_z w64 value))) (int_le iso (to_z w64 (of_z w64 c.sample-in-loop-x.result)))) in
    let before = λ (iso : ℤ). apart_from samples cubes corner x iso + apart_from samples cubes (corner + 1) x iso in
    grows_same c.args.self.now c.add-in-loop-x.new.self (λ (iso : ℤ). before iso + one iso + other iso) _
    (λ (iso : ℤ).
    (λ k. before iso + one_if (differ (above iso k) (int_le iso (near k))) + one_if (differ (above iso k) (int_le iso (far k))))
    ∙ two_more (apart_from samples cubes corner x iso) (apart_from samples cubes (corner + 1) x iso)
    (one_if (differ (is_centre_above samples cubes iso x) (reaches samples iso (corner + x))))
    (one_if (differ (is_centre_above samples cubes iso x) (reaches samples iso (corner + 1 + x))))
    ∙ (λ k. one_more_test (λ y. differ (is_centre_above samples cubes iso y) (reaches samples iso (corner + y))) x k
    + one_more_test (λ y. differ (is_centre_above samples cubes iso y) (reaches samples iso (corner + 1 + y))) x k))
    (grows_both c.args.self.now c.add.new.self c.add-in-loop-x.new.self (λ (iso : ℤ). before iso + one iso) other
    (grows_both c.args.self.now c.loop-x.self c.add.new.self before one c.loop-x.invariant c.add.ensures) c.add-in-loop-x.ensures)
