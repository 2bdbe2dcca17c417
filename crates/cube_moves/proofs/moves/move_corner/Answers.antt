use Rattle.std.specs.Prelude.{zero, suc}
use Rattle.std.proofs.Common.{ℕ, ◌≡◌, ◌<◌, ◌≤◌, ◌*◌, ◌+◌, ◌^◌, ◌%◌, arith, sym, ap, ◌∙◌}
use Rattle.std.proofs.Math.Nat.{mod-eq_of_lt, pow-le-pow_right}
use Rattle.iso_model.specs.Moves.{Move}
use Rattle.cube_moves.proofs.MovedBits.{digits, digits-more, digits-below, moved_digit, digit-lt}
use Rattle.cube_moves.proofs.OrderChecks.{axis-below}
use Rattle.cube_moves.proofs.moves.move_corner.Goals as goal
use Rattle.iso_model.proofs.CellCounts.{axes_between}

-- one bit more, shifted to its place, where it fits
one_more : (b m n : ℕ) → b < 2 → n < 4 → m < 2 ^ n → (b * 2 ^ n % 256 ≡ b * 2 ^ n) × (m + b * 2 ^ n < 256)
one_more b m n small few below =
    let few3 : n ≤ 3 = omega arith in
    let p : 2 ^ n ≤ 2 ^ 3 = pow-le-pow_right (omega arith) few3 in
    let q = at_most b (2 ^ n) small in
    (mod-eq_of_lt (omega arith), omega arith)
  where
    at_most : (b w : ℕ) → b < 2 → b * w ≤ w
    at_most zero w k = omega arith
    at_most (suc zero) w k = omega arith
    at_most (suc (suc b)) w k = absurd (omega arith)

pub moved_bit-requires : goal.moved_bit-requires
moved_bit-requires g c =
    let few = axes_between g.row.D c.requires.dimension in
    let a = axis-below g.row.D c.requires.dimension c.args.by.now.axes c.requires.is_move.0 c.loop-axis.axis (omega arith) in
    (omega arith, (omega arith, (omega arith, omega arith)))

pub overflow_add-moved : goal.overflow_add-moved
overflow_add-moved g c =
    let by : Move = record { axes = c.args.by.now.axes; flips = c.args.by.now.flips } in
    let few = axes_between g.row.D c.requires.dimension in
    let b = digits-below (moved_digit by c.args.corner) (digit-lt by c.args.corner) c.loop-axis.axis in
    let m = one_more c.moved_bit.result c.loop-axis.moved c.loop-axis.axis (omega arith) (omega arith) (omega arith) in
    omega (arith, m.0, m.1)

pub loop-axis-preserved : goal.loop-axis-preserved
loop-axis-preserved g c =
    let by : Move = record { axes = c.args.by.now.axes; flips = c.args.by.now.flips } in
    let few = axes_between g.row.D c.requires.dimension in
    let b = digits-below (moved_digit by c.args.corner) (digit-lt by c.args.corner) c.loop-axis.axis in
    let m = one_more c.moved_bit.result c.loop-axis.moved c.loop-axis.axis (omega arith) (omega arith) (omega arith) in
    let next : c.loop-axis.axis + 1 ≡ suc c.loop-axis.axis = omega arith in
    ap (λ (k : ℕ). c.loop-axis.moved + k) (m.0 ∙ ap (λ (k : ℕ). k * 2 ^ c.loop-axis.axis) c.moved_bit.ensures)
    ∙ ap (λ (k : ℕ). k + moved_digit by c.args.corner c.loop-axis.axis * 2 ^ c.loop-axis.axis) c.loop-axis.invariant
    ∙ turned (digits (moved_digit by c.args.corner) c.loop-axis.axis) (moved_digit by c.args.corner c.loop-axis.axis * 2 ^ c.loop-axis.axis)
    ∙ sym (digits-more (moved_digit by c.args.corner) c.loop-axis.axis)
    ∙ ap (digits (moved_digit by c.args.corner)) (sym next)
  where
    turned : (a b : ℕ) → a + b ≡ b + a
    turned a b = omega arith
