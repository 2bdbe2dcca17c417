use Rattle.edge_spectrum.specs.Growing.{Grows}
use Rattle.edge_spectrum.proofs.Walked.{centres_there}
use Rattle.edge_spectrum.proofs.differences.Differences.add_centres.Given as goal

abbrev pub invariant-loop-number : goal.invariant-loop-number
invariant-loop-number l = Grows l.initial.self l.self (centres_there l.grid l.step l.number)
