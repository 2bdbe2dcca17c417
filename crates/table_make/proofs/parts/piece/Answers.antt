use Rattle.std.proofs.Common.{◌+◌, arith}
use Rattle.case_patch.proofs.Narrow.{bytes_fit}
use Rattle.iso_base.proofs.PartLaws.{starts_ascend}
use Rattle.table_make.proofs.parts.piece.Goals as goal

pub hull_entries-requires : goal.hull_entries-requires
hull_entries-requires g c =
    let n = c.labels-all.result in
    let low = c.part_start-from.ensures.start in
    let high = c.part_start-to.ensures.start in
    let within = c.part_start-to.ensures.within in
    let all = c.labels-all.ensures in
    let up = starts_ascend n c.args.parts c.args.piece (c.args.piece + 1) (omega arith) (omega arith) in
    (bytes_fit g.row.D g.met.C.Cell.is_dimension, (omega (arith, low, high, up), omega (arith, within, all)))
