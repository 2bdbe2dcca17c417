use Rattle.std.proofs.Common.{◌≡◌, take}
use Rattle.seam_traces.specs.TallyLists.{tallies_in}
use Rattle.seam_traces.proofs.walks.tallies_in.Given as goal

abbrev pub invariant-loop-tally : goal.invariant-loop-tally
invariant-loop-tally l = l.inside.items ≡ tallies_in l.edges (take l.tally-index l.tallies)
