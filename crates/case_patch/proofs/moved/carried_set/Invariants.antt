use Rattle.std.proofs.Common.{◌≡◌, filter, get_or}
use Rattle.lists.specs.Orders.{numbers}
use Rattle.lists.specs.Bits.{is_set, set_number}
use Rattle.case_patch.proofs.moved.carried_set.Given as goal

-- the number of the points so far of which the numbers are members
abbrev pub invariant-loop-point : goal.invariant-loop-point
invariant-loop-point l = l.carried ≡ set_number (filter (λ i. is_set l.set (get_or l.list i 0)) (numbers l.point))
