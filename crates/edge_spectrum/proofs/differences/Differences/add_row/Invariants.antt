use Rattle.edge_spectrum.specs.Growing.{Grows}
use Rattle.edge_spectrum.specs.Counted.{apart}
use Rattle.edge_spectrum.proofs.differences.Differences.add_row.Given as goal

abbrev pub invariant-loop-x : goal.invariant-loop-x
invariant-loop-x l = Grows l.initial.self l.self (apart l.samples l.near l.far l.x)
