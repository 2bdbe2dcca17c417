-- What is kept are generators with the point, and the test tells that they are enough.
use Rattle.std.proofs.Common.{◌≡◌, ◌∙◌, ℕ, ℤ, [], List, All, sym, ap, subst}
use Rattle.std.proofs.lemmas.List.Elements.{All-nil}
use Rattle.hull_dd.specs.declared.generators.Generator.{Generator}
use Rattle.hull_dd.specs.Generators.{point_at, with_point, IsGenerator, Generate}
use Rattle.hull_dd.specs.Steps.{slacks_at, AreMeasured, AreWithin}
use Rattle.hull_dd.proofs.Covering.{AreWithin-more}
use Rattle.hull_dd.proofs.DescribeSteps.{next_generate}
use Rattle.lists.proofs.Contained.{any_default}
use Rattle.hull_dd.proofs.step.add_point.Given as given
use Rattle.hull_dd.proofs.step.add_point.Goals as goal

slacks_are : (g : given.Over) (c : goal.In_ok-stay g) → c.measure.new.slacks.items ≡ slacks_at (point_at c.args.points.now c.args.i) c.args.generators.now
slacks_are g c =
    c.in_ok-measure.ensures.value
    ∙ ap (λ (x : List ℤ). slacks_at x c.args.generators.now) (c.index-points-i.is ∙ any_default c.args.points.now c.args.i c.index-points-i.result []
    c.requires.inside)

measured : (g : given.Over) (c : goal.In_ok-stay g) (set : ℕ) → Generate g.row.D c.args.points.now set c.args.generators.now → (slacks : List ℤ)
    → slacks ≡ c.measure.new.slacks.items
    → AreMeasured g.row.D c.args.points.now set c.args.i c.args.generators.now slacks
measured g c set gen slacks e = record { ones = gen.each; inside = c.requires.inside; measured = e ∙ slacks_are g c }

none : (g : given.Over) (c : goal.In_ok-stay g) (set : ℕ) → All (IsGenerator g.row.D c.args.points.now (with_point set c.args.i)) c.clear.new.self.items
none g c set =
    subst (λ (xs : List (Generator g.row.D)). All (IsGenerator g.row.D c.args.points.now (with_point set c.args.i)) xs) (sym c.clear.ensures.items)
    (All-nil (IsGenerator g.row.D c.args.points.now (with_point set c.args.i)))

pub returns : goal.returns
returns g c = λ t set gen.
    let touched = c.in_ok-touch.ensures c.args.points.now set (measured g c set gen c.deref.result.now c.deref.ensures.value) (none g c set) in
    let combined = c.in_ok-combine_all.ensures c.args.points.now set (measured g c set gen c.deref-2.result.now c.deref-2.ensures.value) touched in
    let ones = c.in_ok-stay.ensures.ones c.args.i c.args.points.now set (measured g c set gen c.deref-5.result.now c.deref-5.ensures.value) combined in
    let x = point_at c.args.points.now c.args.i in
    let within : AreWithin x c.args.i c.args.generators.now c.combine_all.new.next.items =
    subst (λ (xs : List (Generator g.row.D)). AreWithin x c.args.i c.args.generators.now xs) c.deref-4.ensures.value
    (c.are_all_within.ensures c.if-not-are_all_within.false x (c.deref-3.ensures.value ∙ slacks_are g c)) in
    next_generate g.row.D c.args.points.now set c.args.generators.now c.stay.new.next.items c.args.i c.requires.inside gen ones
    (AreWithin-more g.row.D c.args.i x c.args.generators.now c.combine_all.new.next.items c.stay.new.next.items c.in_ok-stay.ensures.kept within)
    (c.in_ok-stay.ensures.inside x (c.deref-5.ensures.value ∙ slacks_are g c))
