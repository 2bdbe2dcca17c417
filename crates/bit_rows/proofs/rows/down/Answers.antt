use Rattle.std.proofs.Common.{arith, ◌≡◌, ◌+◌}
use Rattle.std.specs.Prelude.{slice_index}
use Rattle.std.proofs.lemmas.List.{get_or_past}
use Rattle.bit_rows.proofs.RowBits.{down_row}
use Rattle.bit_rows.proofs.rows.down.Goals as goal
use Rattle.bit_rows.proofs.rows.down.Goals.{then-w-row, else-w-row}

pub returns : goal.returns
returns c =
    let next : c.if-w-row.next ≡ slice_index c.args.row.now (c.args.w + 1) =
    elim c.if-w-row.branch [ then-w-row w ↦ grind arith | else-w-row w ↦ grind (arith, get_or_past) ] in
    down_row c.args.row.now c.args.w c.if-w-row.next c.down_word.result next c.down_word.ensures.bits c.down_word.ensures.last
