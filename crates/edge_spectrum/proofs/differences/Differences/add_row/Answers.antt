use Rattle.std.proofs.Common.{arith, ◌∙◌, ◌+◌, ℤ, w64, to_z, of_z}
use Rattle.std.specs.Prelude.{int_le}
use Rattle.iso_model.specs.Bipolar.{differ}
use Rattle.edge_spectrum.specs.Growing.{one_if}
use Rattle.edge_spectrum.specs.Counted.{apart, reaches}
use Rattle.edge_spectrum.proofs.StepSums.{grows_both, grows_same, one_more_test, small_fits}
use Rattle.edge_spectrum.proofs.differences.Differences.add_row.Goals as goal

pub loop-x-preserved : goal.loop-x-preserved
loop-x-preserved c =
    let samples = c.args.samples.now in
    let x = c.loop-x.x in
    let near = small_fits c.sample.result (omega (arith, c.sample.ensures.small)) ∙ c.sample.ensures.sample in
    let far = small_fits c.sample-in-loop-x.result (omega (arith, c.sample-in-loop-x.ensures.small)) ∙ c.sample-in-loop-x.ensures.sample in
    grows_same c.args.self.now c.add.new.self _ (apart samples c.args.near c.args.far (x + 1))
    (λ (iso : ℤ).
    (λ k. apart samples c.args.near c.args.far x iso + one_if (differ (int_le iso (near k)) (int_le iso (far k))))
    ∙ one_more_test (λ y. differ (reaches samples iso (c.args.near + y)) (reaches samples iso (c.args.far + y))) x)
    (grows_both c.args.self.now c.loop-x.self c.add.new.self (apart samples c.args.near c.args.far x)
    (λ (iso : ℤ). one_if (differ (int_le iso (to_z w64 (of_z w64 c.sample.result))) (int_le iso (to_z w64 (of_z w64 c.sample-in-loop-x.result)))))
    c.loop-x.invariant c.add.ensures)
