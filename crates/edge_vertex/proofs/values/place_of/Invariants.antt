use Rattle.edge_vertex.proofs.Places.{PlaceFrom}
use Rattle.edge_vertex.proofs.values.place_of.Given as goal

abbrev pub invariant-loop-axis : goal.invariant-loop-axis
invariant-loop-axis g l = PlaceFrom l.sizes l.point l.axis l.place
