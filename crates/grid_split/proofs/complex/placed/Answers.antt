use Rattle.std.proofs.Common.{◌+◌, ◌*◌, arith}
use Rattle.std.specs.Prelude.{slice_index}
use Rattle.std.proofs.lemmas.List.FromFn.{fill_by_all}
use Rattle.grid_split.proofs.complex.placed.Goals as goal

pub returns : goal.returns
returns g c =
    fill_by_all (λ i. 2 * slice_index c.args.cube.now i + slice_index c.args.offset.now i) c.loop-axis.point g.row.D 0 c.loop-axis.invariant.0
    (λ i h. c.loop-axis.invariant.1 i (omega arith))
