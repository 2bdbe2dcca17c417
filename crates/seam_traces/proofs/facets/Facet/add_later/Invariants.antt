use Rattle.seam_traces.proofs.JoinedFacets.{JoinedBelow}
use Rattle.seam_traces.proofs.facets.Facet.add_later.Given as goal

abbrev pub invariant-loop-pattern : goal.invariant-loop-pattern
invariant-loop-pattern l = JoinedBelow l.pattern l.initial.self l.initial.later l.self l.later
