use Rattle.std.proofs.Common.{ap, append-nil, drop, length, rules, take_all, ◌++◌, ◌<◌, ◌≤◌, ◌∙◌, List, ℕ}
use Rattle.std.specs.Prelude.{map}
use Rattle.std.proofs.lemmas.List.{drop_all}
use Rattle.mesh_audit.specs.SignedKeys.{unsigned}
use Rattle.mesh_audit.proofs.FreeFaceKeys.{cleared_more}
use Rattle.mesh_audit.proofs.sides.clear_signs.Goals as goal

pub loop-place-preserved : goal.loop-place-preserved
loop-place-preserved g c =
    let keys = c.args.keys.now in
    let i = c.loop-place.place in
    let inside : i < length keys = search rules in
    cleared_more keys c.loop-place.keys i _ c.clear_sign.new.key inside c.loop-place.invariant c.clear_sign.ensures

pub returns : goal.returns
returns g c =
    let keys = c.args.keys.now in
    let i = c.loop-place.place in
    let past : length keys ≤ i = search rules in
    c.loop-place.invariant ∙ ap (λ (l : List (List ℕ)). map unsigned l ++ drop i keys) (take_all i keys past)
    ∙ ap (λ (l : List (List ℕ)). map unsigned keys ++ l) (drop_all i keys past) ∙ append-nil (map unsigned keys)
