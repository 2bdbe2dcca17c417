use Rattle.std.proofs.Common.{◌≤◌}
use Rattle.seam_traces.specs.Kept.{AreFacetsOf, TellLabels}
use Rattle.seam_traces.proofs.run_traces.RunTraces.gather.Given as goal

abbrev pub invariant-loop-label : goal.invariant-loop-label
invariant-loop-label g l =
    record {
      facets : AreFacetsOf g.C.Cell.KIND g.row.D l.facets.items;
      run : l.from ≤ l.label;
      labels : TellLabels l.table l.from l.label l.facets.items;
    }
