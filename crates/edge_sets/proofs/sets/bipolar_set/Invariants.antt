use Rattle.edge_sets.proofs.SetLaws.{AreBipolarBelow}
use Rattle.edge_sets.proofs.sets.bipolar_set.Given as goal

abbrev pub invariant-loop-edge : goal.invariant-loop-edge
invariant-loop-edge l = AreBipolarBelow l.label l.set l.edge l.ends
