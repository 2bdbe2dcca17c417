-- A full choice is considered; one that is not goes on with each next point in turn.
use Rattle.std.proofs.Common.{◌∙◌, ◌+◌, ℕ, List, arith, subst, sym, take, length-take-le}
use Rattle.std.proofs.lemmas.List.{take_all}
use Rattle.std.proofs.lemmas.List.Elements.{All-contains_itself}
use Rattle.halfspace.specs.Choices.{IsTried, AreTried}
use Rattle.halfspace.proofs.Choosing.{AreTried-full, AreTried-next, Contains-all_trans, tried_below_more}
use Rattle.lists.proofs.Results.{OnOk-weaker}
use Rattle.halfspace.proofs.choices.+choose.Goals as goal

pub returns-then-filled-clause-tried : goal.returns-then-filled-clause-tried
returns-then-filled-clause-tried g t c =
    let whole = take_all c.args.filled c.args.chosen.now (omega arith) in
    OnOk-weaker c.consider.result _ _
    (λ h. AreTried-full g.row.D c.args.points.now c.consider.new.facets.items (take c.args.filled c.args.chosen.now) c.args.start
    (length-take-le c.args.filled c.args.chosen.now (omega arith) ∙ omega arith)
    (subst (λ (xs : List ℕ). IsTried g.row.D c.args.points.now c.consider.new.facets.items xs) (sym whole) h))
    c.consider.ensures.tried

pub loop-i-init : goal.loop-i-init
loop-i-init g t c = record {
  known = c.requires.known;
  kept = All-contains_itself c.args.facets.now.items;
  tried = λ k a b. absurd (omega arith);
}

pub returns-in_err-choose-clause-kept : goal.returns-in_err-choose-clause-kept
returns-in_err-choose-clause-kept g t c =
    Contains-all_trans c.args.facets.now.items c.loop-i.facets.items c.choose.new.facets.items c.loop-i.invariant.kept c.choose.ensures.kept

pub loop-i-preserved : goal.loop-i-preserved
loop-i-preserved g t c =
    record {
      known = c.choose.ensures.known;
      kept = Contains-all_trans c.args.facets.now.items c.loop-i.facets.items c.choose.new.facets.items c.loop-i.invariant.kept c.choose.ensures.kept;
      tried =
          tried_below_more g.row.D c.args.points.now c.loop-i.facets.items c.choose.new.facets.items (take c.args.filled c.args.chosen.now)
          c.args.start c.loop-i.i
          c.loop-i.invariant.tried c.choose.ensures.kept
          (subst (λ (xs : List ℕ). AreTried g.row.D c.args.points.now c.choose.new.facets.items xs (c.loop-i.i + 1)) c.with_next.ensures.more
          c.in_ok-choose.ensures.tried);
    }

pub returns-clause-tried : goal.returns-clause-tried
returns-clause-tried g t c =
    AreTried-next g.row.D c.args.points.now c.loop-i.facets.items (take c.args.filled c.args.chosen.now) c.args.start
    (let l = length-take-le c.args.filled c.args.chosen.now (omega arith) in omega arith) (λ k a b. c.loop-i.invariant.tried k a (omega arith))
