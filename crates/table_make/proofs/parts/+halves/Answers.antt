use Rattle.std.proofs.Common.{◌+◌, ◌-◌, ◌<◌, ◌≤◌, ◌/◌, ◌^◌, map, arith}
use Rattle.std.proofs.lemmas.Result.{IfOk-at_ok, IfOk-weaker}
use Rattle.table_make.specs.HullEntries.{ArePieces}
use Rattle.table_make.proofs.HullEntryLaws.{joined_pieces}
use Rattle.table_make.proofs.parts.+halves.Goals as goal

pub returns : goal.returns
returns g t c =
    let kind = g.C.Cell.KIND in
    let n = 2 ^ g.C.Cell.CORNERS in
    let parts = c.args.parts in
    let low = c.args.low in
    let half = c.args.count / 2 in
    let some : 0 < parts = let k = c.requires.some in let h = c.requires.pieces in omega arith in
    let less : half ≤ c.args.count = omega arith in
    let one = IfOk-at_ok (λ all. ArePieces kind g.row.D n parts low half (map (λ e. e.items) all.items)) c.in_ok-left.was c.join-left.ensures.first in
    let two =
    IfOk-at_ok (λ all. ArePieces kind g.row.D n parts (low + half) (c.args.count - half) (map (λ e. e.items) all.items)) c.in_ok-right.was
    c.join-left.ensures.second in
    IfOk-weaker c.appended.result _ (λ all. ArePieces kind g.row.D n parts low c.args.count (map (λ e. e.items) all.items))
    (λ all e. joined_pieces kind g.row.D n parts low half c.args.count (map (λ e. e.items) c.in_ok-left.field-0.items)
    (map (λ e. e.items) c.in_ok-right.field-0.items) (map (λ e. e.items) all.items) some less e one two)
    c.appended.ensures
