use Rattle.std.proofs.Common.{◌≡◌, ◌≤◌, take, length}
use Rattle.seam_traces.specs.TallyLists.{tallies_in, tallies_across}
use Rattle.seam_traces.proofs.walks.are_across.Given as goal

abbrev pub invariant-loop-tally : goal.invariant-loop-tally
invariant-loop-tally l =
    record
    { within : l.next ≤ length l.kept; so_far : take l.next l.kept ≡ tallies_across l.same (tallies_in l.edges (take l.tally-index l.tallies)) }
