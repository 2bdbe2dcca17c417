use Rattle.std.proofs.Common.{◌*◌, rules, arith}
use Rattle.std.proofs.lemmas.List.FromFn.{fill_by_all}
use Rattle.std.specs.Int.{bit_at}
use Rattle.iso_model.specs.declared.Kind.TheVariants.{Cube}
use Rattle.iso_model.specs.Cells.{HasDimension}
use Rattle.iso_model.specs.Dimensions.{IsDimension}
use Rattle.split_laws.proofs.SplitTheorems.{small_offsets}
use Rattle.grid_split.proofs.cubes.cube_offset.Goals as goal

pub returns : goal.returns
returns g c =
    let is : IsDimension g.row.D = search rules in
    let has : HasDimension Cube g.row.D = search rules in
    let offset =
    fill_by_all (λ i. 2 * bit_at c.args.corner i) c.loop-axis.offset g.row.D 0 c.loop-axis.invariant.0
    (λ i h. c.loop-axis.invariant.1 i (omega arith)) in
    record {
      offset = offset;
      small = λ i. rw offset (small_offsets Cube g.row.D is has 0 c.args.corner i (omega arith) c.requires.corner);
    }
