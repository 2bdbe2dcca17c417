-- The difference is small, so it is read back unchanged.
use Rattle.std.proofs.Common.{arith, ◌∙◌, ap, ℤ, List}
use Rattle.iso_model.specs.Turns.{dot}
use Rattle.halfspace.proofs.SlackLaws.{slack_facts}
use Rattle.halfspace.proofs.boundary.slack.Goals as goal

pub overflow_sub-result : goal.overflow_sub-result
overflow_sub-result g c =
    (slack_facts c.args.half.now.normal c.args.point.now c.args.half.now.bound c.dot.result (omega arith) c.requires.coefficients c.requires.small
    c.requires.constant
    (c.dot.ensures ∙ ap (λ (xs : List ℤ). dot c.args.half.now.normal xs) c.wide.ensures)).fits

pub returns : goal.returns
returns g c =
    (slack_facts c.args.half.now.normal c.args.point.now c.args.half.now.bound c.dot.result (omega arith) c.requires.coefficients c.requires.small
    c.requires.constant
    (c.dot.ensures ∙ ap (λ (xs : List ℤ). dot c.args.half.now.normal xs) c.wide.ensures)).value
