-- What the half-space through the chosen points tells of the facets that have them.
use Rattle.std.proofs.Common.{rules, ◌∙◌, ℤ, List, All, subst, sym, inl, inr}
use Rattle.polynomials.specs.Small.{AreSmall}
use Rattle.iso_model.specs.Turns.{Spans}
use Rattle.iso_model.specs.Hulls.{members}
use Rattle.halfspace.specs.Choices.{IsOneSided}
use Rattle.halfspace.proofs.Bases.{members_all, chosen_wide}
use Rattle.halfspace.proofs.FacetSteps.{same_half, none_flat, none_two_sided, facet_here}
use Rattle.halfspace.proofs.choices.facet_through.Goals as goal
use Rattle.halfspace.proofs.choices.facet_through.Goals.{else-some_inside-via-then-some_inside+else-some_outside, else-some_inside-via-else-some_inside}

pub hyper-half-requires : goal.hyper-half-requires
hyper-half-requires g c = (
  search rules,
  (
    search rules,
    (
      search rules,
      (
        search rules,
        (
          search rules,
          subst (λ (ps : List (List ℤ)). All (λ p. AreSmall 32 p) ps) (sym c.points_at.ensures)
              (members_all (λ p. AreSmall 32 p) c.args.points.now c.requires.small c.args.choice.now c.requires.inside),
        ),
      ),
    ),
  ),
)

pub returns-then-not-has_normal : goal.returns-then-not-has_normal
returns-then-not-has_normal g c =
    none_flat g.row.D c.args.points.now c.args.choice.now
    (λ s. let a = c.hyper-half.ensures.spans.1 (subst (λ (ps : List (List ℤ)). Spans ps) (sym c.points_at.ensures) s) in
    a.4 (sym a.3 ∙ c.if-not-has_normal.ensures a.0 a.1 a.2))

pub returns-then-some_outside : goal.returns-then-some_outside
returns-then-some_outside g c =
    none_two_sided g.row.D c.requires.least c.requires.greatest c.args.points.now c.args.choice.now
    (record { normal = c.hyper-half.result.normal; bound = c.hyper-half.result.bound })
    (same_half c.hyper-half.result.normal c.hyper-half.result.bound c.points_at.result (members c.args.points.now c.args.choice.now)
    c.hyper-half.ensures.normal c.hyper-half.ensures.bound c.points_at.ensures)
    c.told-choice (chosen_wide g.row.D c.args.points.now c.requires.wide c.args.choice.now c.requires.inside) c.if-some_inside.ensures c.if-some_outside.ensures

pub returns : goal.returns
returns g c =
    let sides : IsOneSided (record { normal = c.hyper-half.result.normal; bound = c.hyper-half.result.bound }) c.args.points.now =
    elim c.else-some_inside.branch [
      | else-some_inside-via-then-some_inside+else-some_outside w ↦ inl w.if-some_outside.ensures
      | else-some_inside-via-else-some_inside w ↦ inr w.if-some_inside.ensures
    ] in
    facet_here g.row.D c.requires.least c.requires.greatest c.args.points.now c.args.choice.now
    (record { normal = c.hyper-half.result.normal; bound = c.hyper-half.result.bound })
    (same_half c.hyper-half.result.normal c.hyper-half.result.bound c.points_at.result (members c.args.points.now c.args.choice.now)
    c.hyper-half.ensures.normal c.hyper-half.ensures.bound c.points_at.ensures)
    c.told-choice c.requires.inside (chosen_wide g.row.D c.args.points.now c.requires.wide c.args.choice.now c.requires.inside)
    c.if-not-has_normal.ensures (subst (λ (ps : List (List ℤ)). Spans ps) c.points_at.ensures (c.hyper-half.ensures.spans.0 c.if-not-has_normal.ensures)) sides
    c.tight.result c.tight.ensures
