use Rattle.std.proofs.Common.{◌≡◌, ℕ, Bool, length, rules, arith, sym, ◌∙◌, ap, List}
use Rattle.std.specs.Prelude.{take, slice_index, ◌==◌, nat_lt, if◌then◌else◌}
use Rattle.iso_model.specs.Points.{comes_first}
use Rattle.grid_split.proofs.Before.{before_more, take_all}
use Rattle.grid_split.proofs.complex.is_before.Goals as goal

pub loop-axis-preserved : goal.loop-axis-preserved
loop-axis-preserved g c =
    let long_p : length c.args.p.now ≡ g.row.D = search rules in
    let long_q : length c.args.q.now ≡ g.row.D = search rules in
    c.is_before_by-before.ensures
    ∙ ap
    (λ (b : Bool).
    if slice_index c.args.p.now c.loop-axis.axis == slice_index c.args.q.now c.loop-axis.axis then b else nat_lt
    (slice_index c.args.p.now c.loop-axis.axis) (slice_index c.args.q.now c.loop-axis.axis))
    c.loop-axis.invariant
    ∙ sym (before_more c.args.p.now c.args.q.now c.loop-axis.axis (omega (arith, long_p, c.loop-axis-test.true)) (long_q ∙ sym long_p))

pub returns : goal.returns
returns g c =
    let long_p : length c.args.p.now ≡ g.row.D = search rules in
    let long_q : length c.args.q.now ≡ g.row.D = search rules in
    let at_end : c.loop-axis.axis ≡ g.row.D = omega (arith, c.loop-axis-test.false, c.loop-axis.auto.axis-end) in
    c.loop-axis.invariant
    ∙ ap (λ (n : ℕ). comes_first (take n c.args.p.now) (take n c.args.q.now)) at_end
    ∙ ap (λ (xs : List ℕ). comes_first xs (take g.row.D c.args.q.now)) (take_all c.args.p.now g.row.D long_p)
    ∙ ap (λ (xs : List ℕ). comes_first c.args.p.now xs) (take_all c.args.q.now g.row.D long_q)
