use Rattle.std.proofs.Common.{rules, ◌≡◌, ℕ, ◌%◌, length, slice_index_or, arith, ◌∙◌, sym}
use Rattle.iso_model.specs.Splits.{cube_at}
use Rattle.split_laws.proofs.Coordinates.{lists_same, length-cube_at}
use Rattle.grid_split.proofs.CubeNumbers.{next_axis, put_length, put_next}
use Rattle.cube_cells.specs.CubePoints.{sizes_of}
use Rattle.cube_cells.proofs.Spans.{length-sizes_of, span_at}
use Rattle.cube_cells.proofs.points.place_at.Goals as goal

pub nonzero_rem-place : goal.nonzero_rem-place
nonzero_rem-place g c =
    let long : length c.args.spans.now ≡ g.row.D = search rules in
    let span : ℕ = slice_index_or c.args.spans.now c.loop-axis.axis 0 in
    let next =
    next_axis (sizes_of c.args.spans.now) c.args.number c.loop-axis.axis c.loop-axis.rest span
    (omega (arith, length-sizes_of c.args.spans.now, long, c.loop-axis-test.true))
    (span_at c.args.spans.now c.loop-axis.axis (omega (arith, long, c.loop-axis-test.true))) c.loop-axis.invariant.left
    c.loop-axis.invariant.others in
    next.some

pub nonzero_div-rest : goal.nonzero_div-rest
nonzero_div-rest g c =
    let long : length c.args.spans.now ≡ g.row.D = search rules in
    let span : ℕ = slice_index_or c.args.spans.now c.loop-axis.axis 0 in
    let next =
    next_axis (sizes_of c.args.spans.now) c.args.number c.loop-axis.axis c.loop-axis.rest span
    (omega (arith, length-sizes_of c.args.spans.now, long, c.loop-axis-test.true))
    (span_at c.args.spans.now c.loop-axis.axis (omega (arith, long, c.loop-axis-test.true))) c.loop-axis.invariant.left
    c.loop-axis.invariant.others in
    next.some

pub loop-axis-preserved : goal.loop-axis-preserved
loop-axis-preserved g c =
    let long : length c.args.spans.now ≡ g.row.D = search rules in
    let span : ℕ = slice_index_or c.args.spans.now c.loop-axis.axis 0 in
    let next =
    next_axis (sizes_of c.args.spans.now) c.args.number c.loop-axis.axis c.loop-axis.rest span
    (omega (arith, length-sizes_of c.args.spans.now, long, c.loop-axis-test.true))
    (span_at c.args.spans.now c.loop-axis.axis (omega (arith, long, c.loop-axis-test.true))) c.loop-axis.invariant.left
    c.loop-axis.invariant.others in
    record {
      long = put_length c.loop-axis.place c.loop-axis.axis g.row.D (c.loop-axis.rest % span) c.loop-axis.invariant.long;
      left = next.left;
      others = next.others;
      places =
          put_next (λ i. slice_index_or (cube_at (sizes_of c.args.spans.now) c.args.number) i 0) c.loop-axis.place c.loop-axis.axis g.row.D
          (c.loop-axis.rest % span) c.loop-axis.invariant.long c.loop-axis-test.true c.loop-axis.invariant.places (sym next.place);
    }

pub returns : goal.returns
returns g c =
    let long : length c.args.spans.now ≡ g.row.D = search rules in
    lists_same c.loop-axis.place (cube_at (sizes_of c.args.spans.now) c.args.number)
    (c.loop-axis.invariant.long ∙ sym long ∙ sym (length-sizes_of c.args.spans.now)
    ∙ sym (length-cube_at (sizes_of c.args.spans.now) c.args.number))
    (λ i h. c.loop-axis.invariant.places i (omega (arith, h, c.loop-axis.invariant.long, c.loop-axis-test.false)))
