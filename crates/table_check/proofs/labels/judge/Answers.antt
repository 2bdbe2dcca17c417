use Rattle.std.proofs.Common.{arith}
use Rattle.seam_traces.specs.SeamLists.{seams_of}
use Rattle.table_check.proofs.RuleOrder.{one_more_kept}
use Rattle.table_check.proofs.labels.judge.Goals as goal

pub loop-label-preserved : goal.loop-label-preserved
loop-label-preserved g c =
    let low = c.loop-label.invariant.low in
    record {
      low = omega arith;
      kept =
          one_more_kept (seams_of c.args.seams.now) c.args.table.now c.args.from c.loop-label.label c.loop-label.invariant.kept c.in_default.ensures;
    }
