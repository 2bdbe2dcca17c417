use Rattle.std.proofs.Common.{refl}
use Rattle.iso_model.specs.Tables.{IsTuple}
use Rattle.table_file.proofs.CheckLaws.{each_more, each_all}
use Rattle.table_file.proofs.checks.is_entry.Goals as goal

pub loop-tuple-preserved : goal.loop-tuple-preserved
loop-tuple-preserved g c =
    each_more c.args.tuples.now (IsTuple c.args.kind g.row.D) c.loop-tuple.tuple-index c.tuple-item.result c.loop-tuple-test.true c.tuple-item.is
    c.loop-tuple.invariant (c.if-not-is_tuple.ensures.0 refl)

pub returns : goal.returns
returns g c = (
  λ _. (
    c.if-tuples-gt-MOST_TUPLES.false,
    each_all c.args.tuples.now (IsTuple c.args.kind g.row.D) c.loop-tuple.tuple-index c.loop-tuple-test.false c.loop-tuple.invariant,
  ),
  λ _. refl,
)
