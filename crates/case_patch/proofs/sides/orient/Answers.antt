use Rattle.std.proofs.Common.{[]}
use Rattle.iso_model.specs.Entries.{oriented}
use Rattle.case_patch.proofs.AppendedLists.{changed_more}
use Rattle.case_patch.proofs.sides.orient.Goals as goal

pub loop-tuple-preserved : goal.loop-tuple-preserved
loop-tuple-preserved g c =
    changed_more (oriented g.C.Cell.KIND g.row.D c.args.label) c.args.tuples.now c.loop-tuple.tuples c.loop-tuple.tuple-index [] c.oriented.result
    c.loop-tuple-test.true c.loop-tuple.invariant c.oriented.ensures
