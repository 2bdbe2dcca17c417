use Rattle.std.proofs.Common.{arith, ap, sym, subst, ◌∙◌, ◌≡◌, ◌+◌, ◌-◌, ◌*◌, ◌/◌, ◌%◌, ◌^◌, ◌<◌, ◌≤◌, ◌==◌, ℕ, length, slice_index, slice_index_or, if◌then◌else◌, nat_lt}
use Rattle.bit_rows.specs.Rows.{row_bit}
use Rattle.grid_rows.specs.declared.planes.BitPlane.{BitPlane}
use Rattle.grid_rows.specs.Planes.{HasRowOfBits, bit_row}
use Rattle.layer_mesh.proofs.SignWordSteps.{half_is, row_below, row_of_slice, side_is, some_rows}
use Rattle.layer_mesh.proofs.signs.PointRows.corner_word.Goals as goal

pub overflow_sub-side : goal.overflow_sub-side
overflow_sub-side g c = omega (arith, c.requires.axes)

pub overflow_shl-side : goal.overflow_shl-side
overflow_shl-side g c = omega (arith, c.requires.axes)

pub nonzero_rem-corner : goal.nonzero_rem-corner
nonzero_rem-corner g c = some_rows g.row.D c.requires.axes.0 c.requires.axes.1

pub bounds-self-corner : goal.bounds-self-corner
bounds-self-corner g c = row_below g.row.D c.requires.axes.0 c.requires.axes.1 c.args.corner

pub offset_bounds-self-corner : goal.offset_bounds-self-corner
offset_bounds-self-corner g c = let few = row_below g.row.D c.requires.axes.0 c.requires.axes.1 c.args.corner in omega (arith, few)

pub row-row-requires : goal.row-row-requires
row-row-requires g c =
    let n : ℕ = c.args.corner / 2 % (1 * 2 ^ (g.row.D - 1) % 18446744073709551616 / 2) in
    let few : n < 4 = row_below g.row.D c.requires.axes.0 c.requires.axes.1 c.args.corner in
    subst (λ (p : BitPlane). HasRowOfBits p (slice_index_or c.args.self.now.row.corners n 0)) (sym c.slice-plane.ensures)
    (row_of_slice c.args.self.now.upper.now c.args.self.now.lower.now c.args.self.now.row.corners n
    (nat_lt c.args.corner (1 * 2 ^ (g.row.D - 1) % 18446744073709551616)) c.requires.points.lower c.requires.points.upper
    (omega (arith, few, c.requires.points.four)))

pub returns : goal.returns
returns g c k low =
    let side = side_is g.row.D c.requires.axes.0 c.requires.axes.1 in
    let half = half_is g.row.D c.requires.axes.0 c.requires.axes.1 in
    let plane = c.slice-plane.ensures ∙ ap (λ n. if nat_lt c.args.corner n then c.args.self.now.lower.now else c.args.self.now.upper.now) side in
    let x : ℕ = 64 * c.args.w + k in
    c.word_at.ensures k low
    ∙ ap (λ row. row_bit row (if c.args.corner % 2 == 1 then x + 1 else x))
    (c.row-row.ensures.row ∙ (λ i. bit_row (plane i) (slice_index c.args.self.now.row.corners (c.args.corner / 2 % half i))))
