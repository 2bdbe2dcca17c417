use Rattle.std.proofs.Common.{ap, ◌∙◌, ◌+◌, ℤ, ◌+ℤ◌}
use Rattle.iso_model.specs.Turns.{total}
use Rattle.layer_scan.specs.Centres.{four_samples}
use Rattle.layer_scan.proofs.CentreSums.{sum_of_two}
use Rattle.layer_mesh.proofs.ends.CentreEnds.sum.Goals as goal

pub returns-clause-sum : goal.returns-clause-sum
returns-clause-sum g c =
    let p : ℤ = c.square_sum-lower.result in
    let q : ℤ = c.square_sum-upper.result in
    sum_of_two p q c.square_sum-lower.ensures.small c.square_sum-upper.ensures.small
    ∙ ap (λ (z : ℤ). z +ℤ q) c.square_sum-lower.ensures.sum
    ∙ ap (λ (z : ℤ). total (four_samples c.args.self.now.lower.now (c.args.self.now.near + c.args.x) (c.args.self.now.far + c.args.x)) +ℤ z)
    c.square_sum-upper.ensures.sum
