use Rattle.std.proofs.Common.{◌≡◌, ℕ, ◌<◌, ◌≤◌, ◌^◌, arith, sym, subst, get_or}
use Rattle.std.proofs.lemmas.Nat.{pow_pos}
use Rattle.iso_model.specs.Moves.{Carries}
use Rattle.cube_moves.proofs.MovedBits.{flips_alone}
use Rattle.cube_moves.proofs.ExchangeChecks.{flips_none, few_flips}
use Rattle.cube_moves.proofs.LeastLabels.{flips_carry_once}
use Rattle.cube_moves.proofs.least.least_flips.Goals as goal

-- no flips leave the label as it is
pub loop-flips-init : goal.loop-flips-init
loop-flips-init g c =
    let some : 0 < 2 ^ g.row.D = pow_pos g.row.D in
    let same = flips_carry_once g.row.D 0 c.args.label c.args.label (get_or c.by_flips-labels.result 0 0)
    (flips_none g.row.D c.requires.dimension c.args.label c.requires.label) (c.by_flips-labels.ensures 0 some) in
    record {
      within = omega arith;
      is_there = same;
      is_least = λ f h. let z : f ≡ 0 = omega arith in subst (λ (k : ℕ). c.args.label ≤ get_or c.by_flips-labels.result k 0) (sym z) (omega arith);
      is_first = λ f h. absurd (omega arith);
    }

pub returns : goal.returns
returns g c =
    let few : 2 ^ g.row.D ≤ 16 = few_flips g.row.D c.requires.dimension in
    let some : 0 < 2 ^ g.row.D = pow_pos g.row.D in
    let labels = c.by_flips-labels.result in
    let is = c.loop-flips.invariant in
    let in_first : c.loop-flips.first < 2 ^ g.row.D = omega (arith, is.within) in
    record {
      within = in_first;
      carries = subst (λ (m : ℕ). Carries g.row.D (flips_alone g.row.D c.loop-flips.first) c.args.label m) (sym is.is_there)
          (c.by_flips-labels.ensures c.loop-flips.first in_first);
      is_least = λ f m h e.
          let same = flips_carry_once g.row.D f c.args.label (get_or labels f 0) m (c.by_flips-labels.ensures f h) e in
          let k = is.is_least f (omega arith) in
          omega arith;
      is_first = λ f m h e.
          let in_f : f < 2 ^ g.row.D = omega arith in
          let same = flips_carry_once g.row.D f c.args.label (get_or labels f 0) m (c.by_flips-labels.ensures f in_f) e in
          let k = is.is_first f h in
          omega arith;
    }
