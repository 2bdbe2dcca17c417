use Rattle.std.proofs.Common.{arith}
use Rattle.grid_rows.specs.RowNumbers.{sample_rows}
use Rattle.edge_spectrum.proofs.RowRoom.{place_small}
use Rattle.edge_spectrum.proofs.planes.row_place.Goals as goal

pub overflow_add-result : goal.overflow_add-result
overflow_add-result c =
    omega (
      arith,
      place_small c.args.row c.args.slice (sample_rows c.args.rows.now) c.args.rows.now.length c.sample_rows.result c.requires.some c.requires.few
          c.sample_rows.ensures,
    )
