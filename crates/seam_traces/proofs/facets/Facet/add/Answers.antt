use Rattle.std.proofs.Common.{◌≡◌, ◌<◌, ◌^◌, ◌∙◌, sym, ap, subst, length, List, ℕ, arith}
use Rattle.std.proofs.lemmas.Bool.{false≢true}
use Rattle.seam_traces.specs.Traces.{places}
use Rattle.seam_traces.specs.TallyLists.{tallies_in}
use Rattle.seam_traces.specs.Kept.{pattern_on}
use Rattle.seam_traces.proofs.KeptSteps.{takes_first, takes_other, takes_same, kept_at, across_same}
use Rattle.seam_traces.proofs.facets.Facet.add.Goals as goal

pub returns-in_ok-self-in-Never : goal.returns-in_ok-self-in-Never
returns-in_ok-self-in-Never c =
    let old = c.args.self.now in
    let p = c.places_of-pattern.result in
    let less : p < 2 ^ length old.corners.items = subst (λ (l : List ℕ). p < 2 ^ length l) c.deref.ensures.value c.places_of-pattern.ensures.few in
    let is : p ≡ pattern_on old c.args.label = c.places_of-pattern.ensures.places ∙ ap (λ (l : List ℕ). places l c.args.label) c.deref.ensures.value in
    takes_first c.args.label c.args.tallies.now old p c.index.result.now c.in_ok-self-in-Never.field-0 c.requires less is c.index.ensures c.in-Never.is
    (c.in_ok-self-in-Never.ensures ∙ ap (λ (l : List ℕ). tallies_in l c.args.tallies.now) c.deref-in-Never.ensures.value)

pub returns-then-not-are_across : goal.returns-then-not-are_across
returns-then-not-are_across c =
    let old = c.args.self.now in
    let p = c.places_of-pattern.result in
    let less : p < 2 ^ length old.corners.items = subst (λ (l : List ℕ). p < 2 ^ length l) c.deref.ensures.value c.places_of-pattern.ensures.few in
    let is : p ≡ pattern_on old c.args.label = c.places_of-pattern.ensures.places ∙ ap (λ (l : List ℕ). places l c.args.label) c.deref.ensures.value in
    let in_traces : p < length old.traces.items = let w = c.requires.traces in omega arith in
    let kept = kept_at old p c.index-in-Alike.result.now in_traces c.index-in-Alike.ensures ∙ sym c.deref-in-Alike.ensures.value in
    takes_other c.args.label c.args.tallies.now old p c.in-Alike.first c.index.result.now c.requires less is c.index.ensures c.in-Alike.is
    (λ e.
    false≢true
    (sym c.if-not-are_across.true
    ∙ c.are_across.ensures.1
    (sym kept ∙ e ∙ ap (λ (l : List ℕ). tallies_in l c.args.tallies.now) (sym c.deref-in-Alike-2.ensures.value)
    ∙ sym (across_same (tallies_in c.deref-in-Alike-2.result.now c.args.tallies.now)))))

pub returns-else-not-are_across : goal.returns-else-not-are_across
returns-else-not-are_across c =
    let old = c.args.self.now in
    let p = c.places_of-pattern.result in
    let less : p < 2 ^ length old.corners.items = subst (λ (l : List ℕ). p < 2 ^ length l) c.deref.ensures.value c.places_of-pattern.ensures.few in
    let is : p ≡ pattern_on old c.args.label = c.places_of-pattern.ensures.places ∙ ap (λ (l : List ℕ). places l c.args.label) c.deref.ensures.value in
    let in_traces : p < length old.traces.items = let w = c.requires.traces in omega arith in
    let kept = kept_at old p c.index-in-Alike.result.now in_traces c.index-in-Alike.ensures ∙ sym c.deref-in-Alike.ensures.value in
    takes_same c.args.label c.args.tallies.now old p c.in-Alike.first c.index.result.now c.requires less is c.index.ensures c.in-Alike.is
    (kept ∙ c.are_across.ensures.0 c.if-not-are_across.false ∙ across_same (tallies_in c.deref-in-Alike-2.result.now c.args.tallies.now)
    ∙ ap (λ (l : List ℕ). tallies_in l c.args.tallies.now) c.deref-in-Alike-2.ensures.value)
