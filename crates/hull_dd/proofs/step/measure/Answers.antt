-- One slack more, which is small.
use Rattle.std.proofs.Common.{◌≡◌, ◌^◌, ℤ, List, subst, sym, ap, ◌∙◌, arith, lit<}
use Rattle.std.proofs.lemmas.List.Elements.{All-push}
use Rattle.polynomials.specs.Small.{IsSmall, AreSmall}
use Rattle.polynomials.proofs.SmallLaws.{small-back}
use Rattle.iso_model.specs.Turns.{slack}
use Rattle.hull_dd.specs.declared.generators.Generator.{Generator}
use Rattle.hull_dd.specs.Generators.{half_of, HasSmallNumbers}
use Rattle.hull_dd.proofs.Products.{back}
use Rattle.hull_dd.proofs.Staying.{slacks_more, slack_small}
use Rattle.hull_dd.proofs.step.measure.Given as given
use Rattle.hull_dd.proofs.step.measure.Goals as goal

one_small : (g : given.Over) (c : goal.In-Ok g) → HasSmallNumbers c.generator-item.result
one_small g c = subst (λ (x : Generator g.row.D). HasSmallNumbers x) (sym c.generator-item.is)
    (c.requires.numbers c.loop-generator.generator-index c.generator-item.result (omega arith))

small : (g : given.Over) (c : goal.In-Ok g) → IsSmall (2 ^ 32) (slack (half_of c.generator-item.result) c.args.point.now)
small g c = slack_small c.generator-item.result.half.normal c.args.point.now c.generator-item.result.half.bound (omega arith) (one_small g c).coefficients
    c.requires.small (one_small g c).constant

read : (g : given.Over) (c : goal.In-Ok g) → back c.slack.result ≡ slack (half_of c.generator-item.result) c.args.point.now
read g c = ap back c.slack.ensures ∙ small-back (2 ^ 32) (slack (half_of c.generator-item.result) c.args.point.now) (lit< tt) (small g c)

pub loop-generator-preserved : goal.loop-generator-preserved
loop-generator-preserved g c = record {
  value = slacks_more g.row.D c.args.point.now c.args.generators.now c.loop-generator.slacks.items c.push.new.self.items c.loop-generator.generator-index
      c.generator-item.result (back c.slack.result)
      (omega arith) c.generator-item.is c.loop-generator.invariant.value (read g c) c.in-Ok.ensures.items;
  small = subst (λ (xs : List ℤ). AreSmall (2 ^ 32) xs) (sym c.in-Ok.ensures.items)
      (All-push (λ (x : ℤ). IsSmall (2 ^ 32) x) c.loop-generator.slacks.items (back c.slack.result) c.loop-generator.invariant.small
      (subst (λ (x : ℤ). IsSmall (2 ^ 32) x) (sym (read g c)) (small g c)));
}
