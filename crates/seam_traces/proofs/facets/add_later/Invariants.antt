use Rattle.seam_traces.proofs.JoinedFacets.{FacetsBelow}
use Rattle.seam_traces.proofs.facets.add_later.Given as goal

abbrev pub invariant-loop-number : goal.invariant-loop-number
invariant-loop-number l = FacetsBelow l.number l.initial.facets l.initial.later l.facets l.later
