use Rattle.std.proofs.Common.{◌≡◌, ap, arith}
use Rattle.face_tallies.specs.declared.faces.FaceTally.{FaceTally}
use Rattle.face_tallies.proofs.AddedParts.{adds_none, adds_more, places_more, places_count}
use Rattle.face_tallies.proofs.gather.add_faces.Goals as goal

pub loop-place-init : goal.loop-place-init
loop-place-init g c = adds_none c.args.parts.now.items c.requires.weighed

pub loop-place-preserved : goal.loop-place-preserved
loop-place-preserved g c =
    rw (places_more c.args.tuple.now c.loop-place.place)
    (adds_more _ _ _ _ _ c.loop-place.invariant (rw c.face_at-part.ensures at c.in_ok-add_part.ensures))

pub add_part-requires-clause-few : goal.add_part-requires-clause-few
add_part-requires-clause-few g c =
    let one : c.face_at-part.result.count ≡ 1 = ap (λ (t : FaceTally). t.count) c.face_at-part.ensures in
    omega (arith, one, places_count c.args.tuple.now c.loop-place.place, c.loop-place.invariant.whole)

pub returns-clause-few : goal.returns-clause-few
returns-clause-few g c = omega (arith, places_count c.args.tuple.now c.loop-place.place, c.loop-place.invariant.whole)
