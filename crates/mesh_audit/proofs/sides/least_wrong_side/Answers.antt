use Rattle.std.proofs.Common.{ap, below_more, subst, ◌≡◌, [], length, ℕ, List}
use Rattle.std.proofs.lemmas.List.{get_or_read}
use Rattle.mesh_audit.specs.Findings.{is_wrong_at, IsLeast, simplex_at}
use Rattle.mesh_audit.specs.SignedKeys.{IsAmong}
use Rattle.mesh_audit.proofs.SignedKeyLists.{none_wrong, some_wrong}
use Rattle.mesh_audit.proofs.sides.least_wrong_side.Goals as goal

pub returns-in-Some-clause-some : goal.returns-in-Some-clause-some
returns-in-Some-clause-some g c =
    let ws = c.args.simplices.now in
    let keys = c.args.keys.now in
    let i = c.loop-number.number in
    let w = c.index-simplices-number.result in
    let same : w ≡ simplex_at ws i = get_or_read ws i w c.loop-number-test.true c.index-simplices-number.is [] in
    let among : IsAmong ws keys i w = record { distinct = c.requires.distinct; keyed = c.requires.keys; below = c.loop-number-test.true; is = same } in
    let least = c.in-Some.ensures.some ws i among in (
      record {
        below = c.loop-number-test.true;
        passes = some_wrong ws i (length w) c.in-Some.place (ap length same) least;
        least = c.loop-number.invariant;
      },
      subst (λ (v : List ℕ). IsLeast (is_wrong_at ws i) (length v) c.in-Some.place) same least,
    )

pub loop-number-preserved : goal.loop-number-preserved
loop-number-preserved g c =
    let ws = c.args.simplices.now in
    let keys = c.args.keys.now in
    let i = c.loop-number.number in
    let w = c.index-simplices-number.result in
    let same : w ≡ simplex_at ws i = get_or_read ws i w c.loop-number-test.true c.index-simplices-number.is [] in
    let among : IsAmong ws keys i w = record { distinct = c.requires.distinct; keyed = c.requires.keys; below = c.loop-number-test.true; is = same } in
    below_more _ _ c.loop-number.invariant (none_wrong ws i (length w) (ap length same) (c.in_default.ensures.none ws i among))
