use Rattle.std.proofs.Common.{refl}
use Rattle.layer_scan.proofs.EdgesTold.{none_met}
use Rattle.layer_scan.proofs.edges.LayerEdges.new.Goals as goal

pub returns-clause-met : goal.returns-clause-met
returns-clause-met c = λ v fits. none_met v 0 fits refl
