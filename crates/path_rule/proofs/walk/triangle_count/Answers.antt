use Rattle.std.proofs.Common.{sym, ap, ◌∙◌, List, ℕ}
use Rattle.std.specs.Prelude.{count_by}
use Rattle.std.proofs.lemmas.List.{take_all}
use Rattle.lists.specs.Orders.{has}
use Rattle.path_rule.proofs.WalkSteps.{count_others}
use Rattle.path_rule.proofs.walk.triangle_count.Goals as goal

pub returns : goal.returns
returns g c =
    c.loop-tuple.invariant
    ∙ ap (λ (l : List (List ℕ)). count_by (λ w. has w c.args.edge) l)
    (take_all c.loop-tuple.tuple-index c.args.tuples.now c.loop-tuple-test.false)
    ∙ sym (count_others c.args.edge c.args.tuples.now)
