use Rattle.edge_spectrum.specs.Growing.{Grows}
use Rattle.edge_spectrum.proofs.Walked.{rows_there}
use Rattle.edge_spectrum.proofs.differences.Differences.add_plane.Given as goal

abbrev pub invariant-loop-number : goal.invariant-loop-number
invariant-loop-number l = Grows l.initial.self l.self (rows_there l.kind l.grid l.step l.number)
