use Rattle.std.proofs.Common.{◌≡◌, ℕ, filter, get_or, map, take, length}
use Rattle.lists.specs.Orders.{numbers}
use Rattle.lists.specs.Bits.{is_set, set_number}
use Rattle.case_patch.proofs.moved.carried_sets.Given as goal

-- the sets so far, carried
abbrev pub invariant-loop-set : goal.invariant-loop-set
invariant-loop-set l =
    l.carried.items ≡ map (λ (set : ℕ). set_number (filter (λ i. is_set set (get_or l.list i 0)) (numbers (length l.list)))) (take l.set-index l.sets)
