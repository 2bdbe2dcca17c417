use Rattle.std.proofs.Common.{◌≡◌, ℕ, true, List, subst, sym, ◌∙◌}
use Rattle.std.specs.List.{list_all}
use Rattle.std.proofs.lemmas.List.{take_all}
use Rattle.label_rules.proofs.SideLaws.{is_turned, side_rule, side_fails}
use Rattle.label_rules.proofs.canonical.Figures.keeps_side.Goals as goal

pub returns-then-not-is_turned : goal.returns-then-not-is_turned
returns-then-not-is_turned g c = λ keeps.
    side_fails c.args.self.now g.row.D c.args.label c.args.tuples.now c.loop-tuple.tuple-index c.tuple-item.result c.loop-tuple-test.true
    c.tuple-item.is c.if-not-is_turned.ensures keeps

pub returns : goal.returns
returns g c = λ keeps.
    let all = take_all c.loop-tuple.tuple-index c.args.tuples.now c.loop-tuple-test.false in
    sym (side_rule c.args.self.now g.row.D c.args.label c.args.tuples.now keeps
    ∙ subst (λ (ws : List (List ℕ)). list_all (is_turned c.args.self.now g.row.D c.args.label) ws ≡ true) all c.loop-tuple.invariant)
