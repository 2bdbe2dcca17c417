use Rattle.std.proofs.Common.{◌≡◌, filter}
use Rattle.lists.specs.Orders.{numbers}
use Rattle.lists.specs.Bits.{is_set}
use Rattle.seam_traces.proofs.places.members_of.Given as goal

abbrev pub invariant-loop-number : goal.invariant-loop-number
invariant-loop-number l = l.members.items ≡ filter (is_set l.set) (numbers l.number)
