use Rattle.std.proofs.Common.{◌≡◌, length}
use Rattle.seam_traces.proofs.facets.empty_traces.Given as goal

abbrev pub invariant-loop : goal.invariant-loop
invariant-loop l = length l.traces.items ≡ l.counter
