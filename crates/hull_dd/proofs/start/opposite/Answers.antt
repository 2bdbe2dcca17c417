-- The half-space through the chosen points, on the side of the further one.
use Rattle.std.proofs.Common.{rules, ◌≡◌, ◌≢◌, ◌∙◌, ◌^◌, ◌<ℤ◌, ℤ, pos, [], List, All, sym, ap, subst, arith, of_z, w64, FitsSigned}
use Rattle.std.proofs.lemmas.Int.{to_z-of_z}
use Rattle.std.specs.Int.Signed.{lt_z_yes}
use lib.Dec.{T}
use Rattle.polynomials.specs.Small.{AreSmall}
use Rattle.polynomials.proofs.SmallLaws.{AreSmall-weaken}
use Rattle.iso_model.specs.Turns.{HalfSpace, slack}
use Rattle.iso_model.specs.Hulls.{members}
use Rattle.halfspace.proofs.Bases.{members_all}
use Rattle.hull_dd.specs.Generators.{point_at, combined, plain}
use Rattle.hull_dd.proofs.Staying.{not_less}
use Rattle.hull_dd.proofs.Opposites.{this_side, other_side, same_plain}
use Rattle.hull_dd.proofs.Products.{back}
use Rattle.lists.proofs.Contained.{any_default}
use Rattle.halfspace.proofs.FacetSteps.{same_half}
use Rattle.hull_dd.proofs.start.opposite.Goals as goal

pub hyper-half-requires : goal.hyper-half-requires
hyper-half-requires g c = (
  search rules,
  (
    search rules,
    (
      search rules,
      (
        search rules,
        (
          search rules,
          subst (λ (ps : List (List ℤ)). All (λ p. AreSmall 32 p) ps) (sym c.points_at.ensures)
              (members_all (λ p. AreSmall 32 p) c.args.points.now c.requires.small c.args.choice.now c.requires.inside),
        ),
      ),
    ),
  ),
)

pub combination-requires : goal.combination-requires
combination-requires g c =
    let n = AreSmall-weaken (2 ^ 21) (2 ^ 24) c.hyper-half.result.normal (omega arith) c.hyper-half.ensures.coefficients in
    let b = c.hyper-half.ensures.constant in
    (search rules, (omega arith, (n, (b, (omega arith, (n, b))))))

-- the distance of the further point, as it is read back
distance : (h : HalfSpace) (x y : List ℤ) (r : ℤ) → FitsSigned w64 r → r ≡ slack h y → y ≡ x → back r ≡ slack h x
distance h x y r f e s = to_z-of_z w64 r f ∙ e ∙ ap (slack h) s

-- it is not zero where its bits are not
not_zero : (r s : ℤ) → FitsSigned w64 r → back r ≡ s → ¬ (of_z w64 r ≡ 0) → s ≢ pos 0
not_zero r s f e n z = n (ap (of_z w64) (sym (to_z-of_z w64 r f) ∙ e ∙ z))

pub returns-then-distance-gt0 : goal.returns-then-distance-gt0
returns-then-distance-gt0 g c =
    let d = distance (plain c.hyper-half.result) (point_at c.args.points.now c.args.apart) c.index-points-apart.result c.slack-distance.result
    (record { sfits = c.slack-distance.type_inv }) c.slack-distance.ensures
    (c.index-points-apart.is ∙ any_default c.args.points.now c.args.apart c.index-points-apart.result [] c.requires.apart) in
    this_side g.row.D c.args.points.now c.args.choice.now c.args.apart c.hyper-half.result c.set_of-tight.result
    (record {
      least = c.requires.least;
      greatest = c.requires.greatest;
      wide = c.requires.wide;
      full = c.told-choice;
      inside = c.requires.inside;
      there = c.requires.apart;
      same = same_half c.hyper-half.result.normal c.hyper-half.result.bound c.points_at.result (members c.args.points.now c.args.choice.now)
          c.hyper-half.ensures.normal c.hyper-half.ensures.bound c.points_at.ensures;
      coefficients = c.hyper-half.ensures.coefficients;
      constant = c.hyper-half.ensures.constant;
      off = not_zero c.slack-distance.result (slack (plain c.hyper-half.result) (point_at c.args.points.now c.args.apart))
          (record { sfits = c.slack-distance.type_inv }) d c.if-distance-eq0.false;
    })
    (subst (λ (z : ℤ). pos 0 <ℤ z) d (lt_z_yes (subst T (sym c.if-distance-gt0.true) tt))) c.set_of-tight.ensures

pub returns : goal.returns
returns g c =
    let d = distance (plain c.hyper-half.result) (point_at c.args.points.now c.args.apart) c.index-points-apart.result c.slack-distance.result
    (record { sfits = c.slack-distance.type_inv }) c.slack-distance.ensures
    (c.index-points-apart.is ∙ any_default c.args.points.now c.args.apart c.index-points-apart.result [] c.requires.apart) in
    other_side g.row.D c.args.points.now c.args.choice.now c.args.apart c.hyper-half.result c.combination.result c.set_of-tight.result
    (record {
      least = c.requires.least;
      greatest = c.requires.greatest;
      wide = c.requires.wide;
      full = c.told-choice;
      inside = c.requires.inside;
      there = c.requires.apart;
      same = same_half c.hyper-half.result.normal c.hyper-half.result.bound c.points_at.result (members c.args.points.now c.args.choice.now)
          c.hyper-half.ensures.normal c.hyper-half.ensures.bound c.points_at.ensures;
      coefficients = c.hyper-half.ensures.coefficients;
      constant = c.hyper-half.ensures.constant;
      off = not_zero c.slack-distance.result (slack (plain c.hyper-half.result) (point_at c.args.points.now c.args.apart))
          (record { sfits = c.slack-distance.type_inv }) d c.if-distance-eq0.false;
    })
    (subst (λ (z : ℤ). ¬ (pos 0 <ℤ z)) d (not_less (pos 0) (back c.slack-distance.result) c.if-distance-gt0.false)) c.set_of-tight.ensures
    (same_plain c.combination.result.normal c.combination.result.bound (combined (pos 0) (plain c.hyper-half.result) (pos 1) (plain c.hyper-half.result))
    c.combination.ensures.normal c.combination.ensures.bound)
