use Rattle.std.proofs.Common.{rules, arith, sym, subst, ◌≡◌, ℕ, None, Option}
use Rattle.path_rule.specs.PathRule.{TellsEnd}
use Rattle.path_rule.proofs.WalkStates.{IsWalk, walk_begins, walk_goes, walk_stuck, walk_ends, next_small}
use Rattle.path_rule.proofs.walk.walk_end.Goals as goal

pub loop-init : goal.loop-init
loop-init g c =
    let e = c.args.edge in
    let start = c.args.start in
    let ws = c.args.tuples.now in
    record {
      walk =
          λ shares free.
          subst (λ (n : ℕ). IsWalk e start ws n start None 0) (sym c.triangle_count-end.ensures) (walk_begins e start ws c.requires.apart free);
      small = λ m h all. h;
      met = λ h. absurd (omega arith);
    }

pub returns-in_err-triangle-clause-end : goal.returns-in_err-triangle-clause-end
returns-in_err-triangle-clause-end g c = λ shares free.
    let e = c.args.edge in
    let start = c.args.start in
    let ws = c.args.tuples.now in
    let none : c.from_residual.result ≡ None = search rules in
    subst (λ (o : Option ℕ). TellsEnd e start ws o) (sym none)
    (walk_stuck e start ws c.triangle_count-end.result c.loop.face c.loop.present c.loop.counter shares (c.loop.invariant.walk shares free)
    (omega arith) c.in_err-triangle.ensures.none)

pub loop-preserved : goal.loop-preserved
loop-preserved g c =
    let e = c.args.edge in
    let ws = c.args.tuples.now in
    let next = c.in_ok-triangle.ensures.next in
    record {
      walk = λ shares free.
          walk_goes e c.args.start ws c.triangle_count-end.result c.loop.face c.loop.present c.loop.counter c.in_ok-triangle.triangle
          c.in_ok-triangle.third shares
          (c.loop.invariant.walk shares free) next;
      small = λ m h all. next_small e c.loop.face c.loop.present c.in_ok-triangle.triangle c.in_ok-triangle.third m ws next all;
      met = λ h m all. next_small e c.loop.face c.loop.present c.in_ok-triangle.triangle c.in_ok-triangle.third m ws next all;
    }

pub returns-clause-end : goal.returns-clause-end
returns-clause-end g c = λ shares free.
    walk_ends c.args.edge c.args.start c.args.tuples.now c.triangle_count-end.result c.loop.face c.loop.present c.loop.counter
    (c.loop.invariant.walk shares free) (omega arith)

pub returns-clause-met : goal.returns-clause-met
returns-clause-met g c = λ h. c.loop.invariant.met (omega (arith, h, c.triangle_count-end.ensures))
