use Rattle.std.proofs.Common.{arith, ap, ◌∙◌, ◌*◌, ◌^◌, ◌%◌}
use Rattle.table_file.proofs.TupleRows.{small_counts}
use Rattle.table_file.proofs.heads.labels.Goals as goal

pub overflow_shl-result : goal.overflow_shl-result
overflow_shl-result c = let small = small_counts c.args.kind c.args.dimension c.requires in omega (arith, c.corners.ensures, small.corners)

pub returns : goal.returns
returns c = ap (λ n. 1 * 2 ^ n % 4294967296) c.corners.ensures ∙ (small_counts c.args.kind c.args.dimension c.requires).shifted
