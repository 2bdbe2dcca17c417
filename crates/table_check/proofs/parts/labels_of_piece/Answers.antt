use Rattle.std.proofs.Common.{◌+◌, arith}
use Rattle.iso_base.proofs.PartLaws.{starts_ascend}
use Rattle.table_check.proofs.parts.labels_of_piece.Goals as goal

pub returns-clause-run : goal.returns-clause-run
returns-clause-run g c =
    omega (
      arith,
      c.part_start-from.ensures.start,
      c.part_start-to.ensures.start,
      starts_ascend c.labels-labels.result c.args.parts c.args.piece (c.args.piece + 1) (omega arith) (omega arith),
    )
