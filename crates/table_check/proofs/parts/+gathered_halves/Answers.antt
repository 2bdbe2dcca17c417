use Rattle.std.proofs.Common.{◌+◌, ◌-◌, ◌<◌, ◌≤◌, ◌/◌, arith}
use Rattle.std.proofs.lemmas.Result.{IfOk-at_ok}
use Rattle.table_check.specs.Pieces.{AreTracesOfPieces}
use Rattle.table_check.proofs.PieceTraces.{joined_traces}
use Rattle.table_check.proofs.parts.+gathered_halves.Goals as goal

pub followed_by-requires : goal.followed_by-requires
followed_by-requires g t c =
    let table = c.args.table.now in
    let kind = g.C.Cell.KIND in
    let parts = c.args.parts in
    let low = c.args.low in
    let half = c.args.count / 2 in
    let one = IfOk-at_ok (AreTracesOfPieces kind g.row.D table parts low half) c.in_ok-left.was c.join-left.ensures.first in
    let two = IfOk-at_ok (AreTracesOfPieces kind g.row.D table parts (low + half) (c.args.count - half)) c.in_ok-right.was c.join-left.ensures.second in
    record { facets = one.facets; later_facets = two.facets }

pub returns : goal.returns
returns g t c =
    let table = c.args.table.now in
    let kind = g.C.Cell.KIND in
    let parts = c.args.parts in
    let low = c.args.low in
    let half = c.args.count / 2 in
    let some : 0 < parts = let k = c.requires.some in let h = c.requires.pieces in omega arith in
    let less : half ≤ c.args.count = omega arith in
    let one = IfOk-at_ok (AreTracesOfPieces kind g.row.D table parts low half) c.in_ok-left.was c.join-left.ensures.first in
    let two = IfOk-at_ok (AreTracesOfPieces kind g.row.D table parts (low + half) (c.args.count - half)) c.in_ok-right.was c.join-left.ensures.second in
    joined_traces kind g.row.D table parts low half c.args.count c.in_ok-left.field-0 c.in_ok-right.field-0 c.followed_by.result some less one two
    c.followed_by.ensures.facets c.followed_by.ensures.joined
