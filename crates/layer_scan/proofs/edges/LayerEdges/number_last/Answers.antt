use Rattle.layer_scan.proofs.EdgesTold.{last_told}
use Rattle.layer_scan.proofs.edges.LayerEdges.number_last.Goals as goal

pub returns-clause-told : goal.returns-clause-told
returns-clause-told c = λ v s kind stands last met.
    last_told v s c.args.planes.now c.args.self.now c.number_slice.new.self stands last c.requires.planes kind c.number_slice.ensures.edges met
    c.number_slice.ensures.numbers
