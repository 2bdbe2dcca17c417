use Rattle.std.proofs.lemmas.Slice.Eq.{slice_eq-Decides}
use Rattle.seam_traces.proofs.JoinedFacets.{tally_decides}
use Rattle.seam_traces.proofs.facets.are_same.Goals as goal

pub returns : goal.returns
returns c = slice_eq-Decides tally_decides c.args.tallies.now c.args.others.now c.eq.result c.eq.ensures
