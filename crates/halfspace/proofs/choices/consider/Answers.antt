-- A choice within a known facet, through a new one, or through none.
use Rattle.std.proofs.Common.{◌∷◌, [], ℕ, List, All, Contains, refl, subst, sym, inl, inr}
use Rattle.std.proofs.lemmas.Bool.{false≢true}
use Rattle.std.proofs.lemmas.List.Elements.{All-contains_itself, Contains-append_left, Contains-get_or}
use Rattle.halfspace.specs.Choices.{AreSomeFacets, IsTried, IsWithinSome}
use Rattle.halfspace.proofs.Bases.{chosen_wide}
use Rattle.halfspace.proofs.FacetSteps.{tried_known, some_more, tried_more}
use Rattle.halfspace.proofs.choices.consider.Goals as goal

pub returns-then-some_has_all-clause-kept : goal.returns-then-some_has_all-clause-kept
returns-then-some_has_all-clause-kept g c = All-contains_itself c.args.facets.now.items

pub returns-then-some_has_all-clause-added : goal.returns-then-some_has_all-clause-added
returns-then-some_has_all-clause-added g c = inl refl

pub returns-then-some_has_all-clause-tried : goal.returns-then-some_has_all-clause-tried
returns-then-some_has_all-clause-tried g c =
    tried_known g.row.D c.requires.least c.requires.greatest c.args.points.now c.args.choice.now c.args.facets.now.items c.told-choice
    (chosen_wide g.row.D c.args.points.now c.requires.wide c.args.choice.now c.requires.inside) c.requires.known
    (subst (λ (xs : List ℕ). IsWithinSome c.args.choice.now xs) c.deref.ensures.value (c.some_has_all.ensures.0 c.if-some_has_all.true))

pub returns-in-None-clause-kept : goal.returns-in-None-clause-kept
returns-in-None-clause-kept g c = All-contains_itself c.args.facets.now.items

pub returns-in-None-clause-added : goal.returns-in-None-clause-added
returns-in-None-clause-added g c = inl refl

pub returns-in-None-clause-tried : goal.returns-in-None-clause-tried
returns-in-None-clause-tried g c = λ set f within spans. absurd (c.in-None.ensures set f within spans)

pub returns-in-Ok-clause-known : goal.returns-in-Ok-clause-known
returns-in-Ok-clause-known g c =
    subst (λ (xs : List ℕ). AreSomeFacets g.row.D c.args.points.now xs) (sym c.in-Ok.ensures.items)
    (some_more g.row.D c.args.points.now c.args.choice.now c.args.facets.now.items c.in-Some.facet c.requires.known
    (λ w. false≢true (c.if-some_has_all.ensures.1 (subst (λ (xs : List ℕ). IsWithinSome c.args.choice.now xs) (sym c.deref.ensures.value) w)))
    c.in-Some.ensures)

pub returns-in-Ok-clause-kept : goal.returns-in-Ok-clause-kept
returns-in-Ok-clause-kept g c =
    subst (λ (xs : List ℕ). All (Contains xs) c.args.facets.now.items) (sym c.in-Ok.ensures.items)
    (λ k d h. Contains-append_left c.args.facets.now.items (c.in-Some.facet ∷ []) _ (Contains-get_or c.args.facets.now.items k d h))

pub returns-in-Ok-clause-added : goal.returns-in-Ok-clause-added
returns-in-Ok-clause-added g c = inr (c.in-Some.facet, c.in-Some.ensures, c.in-Ok.ensures.items)

pub returns-in-Ok-clause-tried : goal.returns-in-Ok-clause-tried
returns-in-Ok-clause-tried g c =
    subst (λ (xs : List ℕ). IsTried g.row.D c.args.points.now xs c.args.choice.now) (sym c.in-Ok.ensures.items)
    (tried_more g.row.D c.args.points.now c.args.choice.now c.args.facets.now.items c.in-Some.facet c.in-Some.ensures)

pub returns-in-Err-clause-kept : goal.returns-in-Err-clause-kept
returns-in-Err-clause-kept g c =
    subst (λ (xs : List ℕ). All (Contains xs) c.args.facets.now.items) (sym c.in-Err.ensures.items) (All-contains_itself c.args.facets.now.items)

pub returns-in-Err-clause-added : goal.returns-in-Err-clause-added
returns-in-Err-clause-added g c = inl c.in-Err.ensures.items
