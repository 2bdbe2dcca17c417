use Rattle.edge_spectrum.specs.Growing.{Grows}
use Rattle.edge_spectrum.proofs.Walked.{below_plane}
use Rattle.edge_spectrum.proofs.differences.Differences.add_layers.Given as goal

abbrev pub invariant-loop-step : goal.invariant-loop-step
invariant-loop-step l = Grows l.initial.self l.self (below_plane l.kind l.grid l.step)
