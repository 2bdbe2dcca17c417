use Rattle.std.proofs.Common.{arith, sym, subst, ◌≡◌, ℕ, false, inl, inr}
use Rattle.std.proofs.lemmas.Bool.{cases_eq, false≢true}
use Rattle.path_rule.specs.PathRule.{reaches}
use Rattle.path_rule.proofs.Leads.{free_first, leads_true, leads_false}
use Rattle.path_rule.proofs.rule.leads_across.Goals as goal
use Rattle.path_rule.proofs.rule.leads_across.Goals.{else-start-edge-via-then-start-edge+then-has_member+else-ends_in}
use Rattle.path_rule.proofs.rule.leads_across.Goals.{else-start-edge-via-then-start-edge+else-has_member, else-start-edge-via-else-start-edge}

pub returns-then-ends_in : goal.returns-then-ends_in
returns-then-ends_in g c = λ kind f h tuples pair suits.
    let e = c.args.edge in
    let ws = c.args.tuples.now in
    let start = c.loop-start.start in
    let free = free_first kind e f h c.args.first c.args.second start ws tuples pair suits c.if-start-edge.true (sym c.if-has_member.ensures) in
    sym (leads_true kind e f h c.args.first c.args.second start ws tuples pair suits (sym c.if-has_member.ensures)
    (sym (c.if-ends_in.ensures kind h tuples suits.some pair.second_has pair.second_members suits.shares free)))

pub loop-start-preserved : goal.loop-start-preserved
loop-start-preserved g c = λ kind f h tuples pair suits x below off member.
    let e = c.args.edge in
    let ws = c.args.tuples.now in
    let start = c.loop-start.start in
    elim (cases_eq x start) as (λ _. reaches kind e h x ws ≡ false) [
      | inl same ↦ elim c.else-start-edge.branch as (λ _. reaches kind e h x ws ≡ false) [
        | else-start-edge-via-then-start-edge+then-has_member+else-ends_in w ↦
            let free = free_first kind e f h c.args.first c.args.second start ws tuples pair suits w.if-start-edge.true (sym w.if-has_member.ensures) in
            subst (λ (y : ℕ). reaches kind e h y ws ≡ false) (sym same)
            (sym (w.if-ends_in.ensures kind h tuples suits.some pair.second_has pair.second_members suits.shares free))
        | else-start-edge-via-then-start-edge+else-has_member w ↦ absurd (false≢true (let f = w.if-has_member.ensures in let s = same in let m = member in cc))
        | else-start-edge-via-else-start-edge w ↦ absurd (off (let s = w.if-start-edge.false in omega arith))
      ]
      | inr other ↦ c.loop-start.invariant kind f h tuples pair suits x (omega arith) off member
    ]

pub returns : goal.returns
returns g c = λ kind f h tuples pair suits.
    sym (leads_false kind c.args.edge f h c.args.first c.args.second 32 c.args.tuples.now tuples pair suits c.requires.edges
    (λ x below off member. c.loop-start.invariant kind f h tuples pair suits x (omega arith) off member))
