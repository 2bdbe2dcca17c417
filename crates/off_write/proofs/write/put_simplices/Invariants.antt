use Rattle.std.proofs.Common.{◌≤◌, ◌++◌, take}
use Rattle.off_write.specs.Pages.{AllButPage, simplex_lines}
use Rattle.off_write.proofs.write.put_simplices.Given as goal

abbrev pub invariant-loop-simplex : goal.invariant-loop-simplex
invariant-loop-simplex g l =
    (g.O.Sink.faults l.initial.out ≤ g.O.Sink.faults l.out)
    × AllButPage (g.O.Sink.bytes l.initial.out) (g.O.Sink.bytes l.out) (l.initial.page ++ simplex_lines g.row.D (take l.simplex-index l.simplices)) l.page
