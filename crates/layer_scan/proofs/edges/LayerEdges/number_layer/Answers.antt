use Rattle.layer_scan.proofs.EdgesTold.{layer_told}
use Rattle.layer_scan.proofs.edges.LayerEdges.number_layer.Goals as goal

pub returns-clause-told : goal.returns-clause-told
returns-clause-told c = λ v s kind stands low high met.
    layer_told v s c.args.planes.now c.args.lower.now c.args.upper.now c.args.self.now c.number_by_kind.new.self stands c.requires.planes kind
    c.number_by_kind.ensures.edges low high met c.number_by_kind.ensures.plain c.number_by_kind.ensures.pyramids
