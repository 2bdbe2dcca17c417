use Rattle.std.proofs.Math.IntN.{+ℤ_idr}
use Rattle.small_turn.proofs.PointSums.{dot-drop_past}
use Rattle.std.proofs.Common.{sym, ap, ◌∙◌, arith, ℤ, ◌+ℤ◌, w64, to_z}
use Rattle.std.proofs.lemmas.Int.{to_z-of_z}
use Rattle.small_turn.proofs.MatrixRows.{term_facts, sum_step}
use Rattle.small_turn.proofs.dot.Goals as goal

pub overflow_mul-sum : goal.overflow_mul-sum
overflow_mul-sum g c =
    let f =
    term_facts c.args.xs.now c.args.ys.now c.loop-i.i (to_z w64 c.loop-i.sum-bits) c.requires.left c.requires.right (omega arith) (omega arith)
    (omega arith) c.loop-i.invariant.1 in
    let x_fits = f.x_fits in let y_fits = f.y_fits in
    simp to_z-of_z f.term_fits

pub overflow_add-sum : goal.overflow_add-sum
overflow_add-sum g c =
    let f =
    term_facts c.args.xs.now c.args.ys.now c.loop-i.i (to_z w64 c.loop-i.sum-bits) c.requires.left c.requires.right (omega arith) (omega arith)
    (omega arith) c.loop-i.invariant.1 in
    let x_fits = f.x_fits in let y_fits = f.y_fits in let term_fits = f.term_fits in
    simp to_z-of_z f.sum_fits

pub loop-i-preserved : goal.loop-i-preserved
loop-i-preserved g c =
    let f =
    term_facts c.args.xs.now c.args.ys.now c.loop-i.i (to_z w64 c.loop-i.sum-bits) c.requires.left c.requires.right (omega arith) (omega arith)
    (omega arith) c.loop-i.invariant.1 in
    let x_fits = f.x_fits in let y_fits = f.y_fits in let term_fits = f.term_fits in let sum_fits = f.sum_fits in
    simp to_z-of_z (sum_step c.args.xs.now c.args.ys.now c.loop-i.i (to_z w64 c.loop-i.sum-bits) (omega arith) (omega arith) c.loop-i.invariant.0, f.sum_small)

pub returns : goal.returns
returns g c =
    let e = dot-drop_past c.args.xs.now c.args.ys.now c.loop-i.i (omega arith) in
    sym (+ℤ_idr _) ∙ ap (λ (v : ℤ). to_z w64 c.loop-i.sum-bits +ℤ v) (sym e) ∙ c.loop-i.invariant.0
