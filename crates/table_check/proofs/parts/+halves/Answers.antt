use Rattle.std.proofs.Common.{◌+◌, ◌-◌, ◌<◌, ◌≤◌, ◌/◌, sym, subst, arith}
use Rattle.std.proofs.lemmas.Result.{IfOk-at_ok}
use Rattle.seam_traces.specs.SeamLists.{seams_of}
use Rattle.table_check.specs.Pieces.{IsVerdictOnPieces}
use Rattle.table_check.proofs.PieceVerdicts.{joined_pieces}
use Rattle.table_check.proofs.parts.+halves.Goals as goal

pub returns : goal.returns
returns g t c =
    let ss = seams_of c.args.seams.now in
    let table = c.args.table.now in
    let parts = c.args.parts in
    let low = c.args.low in
    let half = c.args.count / 2 in
    let some : 0 < parts = let k = c.requires.some in let h = c.requires.pieces in omega arith in
    let less : half ≤ c.args.count = omega arith in
    let one = IfOk-at_ok (IsVerdictOnPieces ss table parts low half) c.in_ok-left.was c.join-left.ensures.first in
    let two = IfOk-at_ok (IsVerdictOnPieces ss table parts (low + half) (c.args.count - half)) c.in_ok-right.was c.join-left.ensures.second in
    subst (IsVerdictOnPieces ss table parts low c.args.count) (sym c.first_refusal.ensures)
    (joined_pieces ss table parts low half c.args.count c.in_ok-left.field-0 c.in_ok-right.field-0 some less one two)
