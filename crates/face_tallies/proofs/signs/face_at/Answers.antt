use Rattle.std.proofs.Common.{◌≡◌, ◌<◌, length, refl, arith, negsuc, pos}
use Rattle.iso_model.specs.Faces.{face_without, sign_without}
use Rattle.face_tallies.proofs.SetNumbers.{face_set, sign_at_odd, sign_at_even}
use Rattle.lists.specs.Bits.{set_number}
use Rattle.face_tallies.proofs.signs.face_at.Goals as goal

pub returns-then-odd : goal.returns-then-odd
returns-then-odd g c =
    let w = c.args.tuple.now in
    let k = c.args.place in
    let inside : k < length w = omega (arith, c.told-tuple, c.requires.place) in
    let edges : c.without_edge.result ≡ set_number (face_without w k) =
    face_set w k c.args.set c.without_edge.result c.requires.distinct inside c.requires.set c.without_edge.ensures.same
    c.without_edge.ensures.others in
    let sign : sign_without w k ≡ negsuc 0 = sign_at_odd w k c.requires.distinct inside (rw (c.requires.parity, c.count_below.ensures) at c.if-odd.true) in
    rw (edges, sign) refl

pub returns-else-odd : goal.returns-else-odd
returns-else-odd g c =
    let w = c.args.tuple.now in
    let k = c.args.place in
    let inside : k < length w = omega (arith, c.told-tuple, c.requires.place) in
    let edges : c.without_edge.result ≡ set_number (face_without w k) =
    face_set w k c.args.set c.without_edge.result c.requires.distinct inside c.requires.set c.without_edge.ensures.same
    c.without_edge.ensures.others in
    let sign : sign_without w k ≡ pos 1 = sign_at_even w k c.requires.distinct inside (rw (c.requires.parity, c.count_below.ensures) at c.if-odd.false) in
    rw (edges, sign) refl
