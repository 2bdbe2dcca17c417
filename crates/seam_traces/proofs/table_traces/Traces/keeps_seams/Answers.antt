use Rattle.seam_traces.specs.SeamLists.{seams_of}
use Rattle.seam_traces.proofs.SeamRule.{told_rule}
use Rattle.seam_traces.proofs.table_traces.Traces.keeps_seams.Goals as goal

pub returns : goal.returns
returns g c = λ t tell are.
    told_rule (seams_of c.args.seams.now) t c.args.label c.first_clash.result c.is_none.result c.is_none.ensures (c.first_clash.ensures t tell are)
