use Rattle.std.proofs.Common.{arith, get_or, ◌≡◌, true}
use Rattle.std.specs.Prelude.{not, ◌&&◌, ◌==◌}
use Rattle.std.proofs.lemmas.Bool.Decides.{nat_tests}
use Rattle.path_rule.proofs.WalkSteps.{third_first, third_none}
use Rattle.path_rule.proofs.walk.third_edge.Goals as goal

pub returns-then-third-other : goal.returns-then-third-other
returns-then-third-other g c =
    let w = c.args.tuple.now in
    let i = c.loop-third.third-index in
    let passes : (not (get_or w i 0 == c.args.edge) && not (get_or w i 0 == c.args.other)) ≡ true = grind (arith, nat_tests) in
    third_first c.args.edge c.args.other w i c.loop-third.invariant.edge c.loop-third.invariant.other (omega arith) c.loop-third.invariant.before passes

pub returns : goal.returns
returns g c =
    third_none c.args.edge c.args.other c.args.tuple.now c.loop-third.invariant.edge c.loop-third.invariant.other
    (λ k h. c.loop-third.invariant.before k (omega arith))
