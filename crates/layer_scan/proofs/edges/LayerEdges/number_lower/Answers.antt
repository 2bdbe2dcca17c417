use Rattle.layer_scan.proofs.EdgesTold.{lower_told}
use Rattle.layer_scan.proofs.edges.LayerEdges.number_lower.Goals as goal

pub returns-clause-told : goal.returns-clause-told
returns-clause-told c = λ v s kind stands met.
    lower_told v s c.args.planes.now c.args.self.now c.number_slice.new.self stands c.requires.planes kind c.number_slice.ensures.edges met
    c.number_slice.ensures.numbers
