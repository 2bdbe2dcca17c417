use Rattle.std.proofs.Common.{◌≡◌, ◌+◌, ◌-◌, ◌*◌, length, slice_index_or, rules, arith, sym}
use Rattle.std.specs.Prelude.{take}
use Rattle.iso_model.specs.Splits.{cube_count}
use Rattle.grid_split.proofs.CubeNumbers.{cube_count_more, few_cubes, few_before, put_length, put_next}
use Rattle.grid_split.proofs.complex.Complex.new.Goals as goal

pub overflow_cast-span : goal.overflow_cast-span
overflow_cast-span g c =
    let long : length c.args.sizes ≡ g.row.D = search rules in
    omega (arith, few_cubes c.args.sizes c.requires.some c.requires.few c.loop-axis.axis (omega (arith, long, c.loop-axis-test.true)))

pub overflow_mul-cubes : goal.overflow_mul-cubes
overflow_mul-cubes g c =
    let long : length c.args.sizes ≡ g.row.D = search rules in
    let more : c.loop-axis.cubes * (slice_index_or c.args.sizes c.loop-axis.axis 0 - 1) ≡ cube_count (take (c.loop-axis.axis + 1) c.args.sizes) =
    rw c.loop-axis.invariant.cubes (sym (cube_count_more c.args.sizes c.loop-axis.axis (omega (arith, long, c.loop-axis-test.true)))) in
    omega (arith, more, few_before c.args.sizes c.requires.some c.requires.few (c.loop-axis.axis + 1))

pub loop-axis-preserved : goal.loop-axis-preserved
loop-axis-preserved g c =
    let long : length c.args.sizes ≡ g.row.D = search rules in
    record {
      spans_long = put_length c.loop-axis.spans c.loop-axis.axis g.row.D (slice_index_or c.args.sizes c.loop-axis.axis 0 - 1) c.loop-axis.invariant.spans_long;
      strides_long = put_length c.loop-axis.strides c.loop-axis.axis g.row.D c.loop-axis.cubes c.loop-axis.invariant.strides_long;
      spans =
          put_next (λ i. slice_index_or c.args.sizes i 0 - 1) c.loop-axis.spans c.loop-axis.axis g.row.D
          (slice_index_or c.args.sizes c.loop-axis.axis 0 - 1) c.loop-axis.invariant.spans_long c.loop-axis-test.true c.loop-axis.invariant.spans
          (search rules);
      strides =
          put_next (λ i. cube_count (take i c.args.sizes)) c.loop-axis.strides c.loop-axis.axis g.row.D c.loop-axis.cubes
          c.loop-axis.invariant.strides_long c.loop-axis-test.true c.loop-axis.invariant.strides c.loop-axis.invariant.cubes;
      cubes = rw c.loop-axis.invariant.cubes (sym (cube_count_more c.args.sizes c.loop-axis.axis (omega (arith, long, c.loop-axis-test.true))));
    }
