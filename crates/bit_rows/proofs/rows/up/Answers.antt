use Rattle.std.proofs.Common.{arith, ◌≡◌, ◌-◌, ◌<◌}
use Rattle.std.specs.Prelude.{slice_index}
use Rattle.bit_rows.proofs.RowBits.{up_row}
use Rattle.bit_rows.proofs.rows.up.Goals as goal
use Rattle.bit_rows.proofs.rows.up.Goals.{then-w-gt0, else-w-gt0}

pub returns : goal.returns
returns c =
    let none : c.args.w ≡ 0 → c.if-w-gt0.previous ≡ 0 =
    λ e. elim c.if-w-gt0.branch [ then-w-gt0 w ↦ grind arith | else-w-gt0 w ↦ grind arith ] in
    let is : 0 < c.args.w → c.if-w-gt0.previous ≡ slice_index c.args.row.now (c.args.w - 1) =
    λ e. elim c.if-w-gt0.branch [ then-w-gt0 w ↦ grind arith | else-w-gt0 w ↦ grind arith ] in
    up_row c.args.row.now c.args.w c.if-w-gt0.previous c.up_word.result none is c.up_word.ensures.bits c.up_word.ensures.first
