use Rattle.std.proofs.Common.{◌≡◌, ℕ, ◌^◌, ◌≤◌, pos, ◌+ℤ◌, ◌-ℤ◌, ◌*ℤ◌, ℤ, slice_index_or, unsigned_abs, to_z, of_z, w64, arith, ap, ◌∙◌, sym, subst, map}
use Rattle.std.specs.Int.{int_div_euclid}
use Rattle.std.proofs.lemmas.List.FromFn.{fill_by_all}
use Rattle.lists.specs.Orders.{numbers}
use Rattle.lists.proofs.MemberLaws.{set_next}
use Rattle.mesh_slice.specs.Slices.{coordinate_between}
use Rattle.mesh_slice.proofs.Shares.{run_fits, run_read, run_small, place_fits, place_read, read_run}
use Rattle.mesh_slice.proofs.positions.position_between.Goals as goal

pub overflow_sub-high : goal.overflow_sub-high
overflow_sub-high c =
    let p : ℤ = slice_index_or c.args.low.now c.loop-axis.axis (pos 0) in
    let q : ℤ = slice_index_or c.args.high.now c.loop-axis.axis (pos 0) in
    let low : unsigned_abs p ≤ 2 ^ 52 = c.requires.low c.loop-axis.axis (pos 0) (omega arith) in
    let high : unsigned_abs q ≤ 2 ^ 52 = c.requires.high c.loop-axis.axis (pos 0) (omega arith) in
    run_fits p q low high

pub share-requires-clause-run : goal.share-requires-clause-run
share-requires-clause-run c =
    let p : ℤ = slice_index_or c.args.low.now c.loop-axis.axis (pos 0) in
    let q : ℤ = slice_index_or c.args.high.now c.loop-axis.axis (pos 0) in
    let low : unsigned_abs p ≤ 2 ^ 52 = c.requires.low c.loop-axis.axis (pos 0) (omega arith) in
    let high : unsigned_abs q ≤ 2 ^ 52 = c.requires.high c.loop-axis.axis (pos 0) (omega arith) in
    subst (λ (z : ℤ). unsigned_abs z ≤ 2 ^ 53) (sym (run_read p q low high)) (run_small p q low high)

pub overflow_add-position : goal.overflow_add-position
overflow_add-position c =
    let p : ℤ = slice_index_or c.args.low.now c.loop-axis.axis (pos 0) in
    let low : unsigned_abs p ≤ 2 ^ 52 = c.requires.low c.loop-axis.axis (pos 0) (omega arith) in
    place_fits p c.share.result low c.share.ensures.small

pub loop-axis-preserved : goal.loop-axis-preserved
loop-axis-preserved c =
    let p : ℤ = slice_index_or c.args.low.now c.loop-axis.axis (pos 0) in
    let q : ℤ = slice_index_or c.args.high.now c.loop-axis.axis (pos 0) in
    let low : unsigned_abs p ≤ 2 ^ 52 = c.requires.low c.loop-axis.axis (pos 0) (omega arith) in
    let high : unsigned_abs q ≤ 2 ^ 52 = c.requires.high c.loop-axis.axis (pos 0) (omega arith) in
    let way = place_read p c.share.result low c.share.ensures.small in
    let share = c.share.ensures.share ∙ ap (λ (z : ℤ). int_div_euclid (z *ℤ pos c.abs_diff-part.result) (pos c.abs_diff-way.result)) (run_read p q low high) in
    set_next (coordinate_between c.args.low.now c.args.high.now c.abs_diff-part.result c.abs_diff-way.result) c.loop-axis.position c.loop-axis.axis 3
    (to_z w64 (of_z w64 (to_z w64 (of_z w64 p) +ℤ to_z w64 (of_z w64 c.share.result))))
    c.loop-axis.invariant.0 c.loop-axis-test.true c.loop-axis.invariant.1 (way ∙ ap (λ (z : ℤ). p +ℤ z) share)

pub returns : goal.returns
returns c =
    let low = c.args.low.now in
    let high = c.args.high.now in
    let p : ℤ = slice_index_or c.args.low.now 3 (pos 0) in
    let q : ℤ = slice_index_or c.args.high.now 3 (pos 0) in
    let small : unsigned_abs p ≤ 2 ^ 52 = c.requires.low 3 (pos 0) (omega arith) in
    let few : unsigned_abs q ≤ 2 ^ 52 = c.requires.high 3 (pos 0) (omega arith) in
    let part : c.abs_diff-part.result ≡ unsigned_abs (c.args.time -ℤ p) = c.abs_diff-part.ensures ∙ ap unsigned_abs (read_run p c.args.time small c.requires.time) in
    let way : c.abs_diff-way.result ≡ unsigned_abs (q -ℤ p) = c.abs_diff-way.ensures ∙ ap unsigned_abs (read_run p q small few) in
    fill_by_all (coordinate_between low high c.abs_diff-part.result c.abs_diff-way.result) c.loop-axis.position 3 (pos 0) c.loop-axis.invariant.0
    (λ i h. c.loop-axis.invariant.1 i (omega arith))
    ∙ ap (λ (n : ℕ). map (coordinate_between low high n c.abs_diff-way.result) (numbers 3)) part
    ∙ ap (λ (n : ℕ). map (coordinate_between low high (unsigned_abs (c.args.time -ℤ p)) n) (numbers 3)) way
