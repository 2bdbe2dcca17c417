use Rattle.std.proofs.Common.{rules, below_more, sym, ◌≡◌, ◌≤◌, ◌<◌, false, true, length}
use Rattle.mesh_laws.specs.FaceKeys.{is_once, is_once_at}
use Rattle.mesh_audit.proofs.SignedKeyLists.{all_places, not_all}
use Rattle.mesh_audit.proofs.sides.are_all_once.Goals as goal

pub returns-then-not-is_once : goal.returns-then-not-is_once
returns-then-not-is_once g c =
    let keys = c.args.keys.now in
    let inside : c.loop-place.place < length keys = search rules in
    let twice : is_once_at keys c.loop-place.place ≡ false = search rules in
    sym (not_all (is_once keys) keys c.loop-place.place inside twice)

pub loop-place-preserved : goal.loop-place-preserved
loop-place-preserved g c =
    let once : is_once_at c.args.keys.now c.loop-place.place ≡ true = search rules in
    below_more _ _ c.loop-place.invariant once

pub returns : goal.returns
returns g c =
    let keys = c.args.keys.now in
    let all : length keys ≤ c.loop-place.place = search rules in
    sym (all_places (is_once keys) keys c.loop-place.place all c.loop-place.invariant)
