use Rattle.std.specs.Prelude.{◌+◌}
use Rattle.edge_spectrum.specs.Growing.{Grows}
use Rattle.edge_spectrum.specs.Counted.{apart_from}
use Rattle.edge_spectrum.proofs.differences.Differences.add_row_of_centres.Given as goal

abbrev pub invariant-loop-x : goal.invariant-loop-x
invariant-loop-x l =
    Grows l.initial.self l.self (λ iso. apart_from l.samples l.cubes l.corner l.x iso + apart_from l.samples l.cubes (l.corner + 1) l.x iso)
