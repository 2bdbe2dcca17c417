use Rattle.std.proofs.Common.{◌≡◌, ℕ, ◌<◌, get_or}
use Rattle.std.specs.Prelude.{false, nat_eq}
use Rattle.case_patch.proofs.moved.place_of.Given as goal

-- none of the members so far is the number
abbrev pub invariant-loop-at : goal.invariant-loop-at
invariant-loop-at l = (k : ℕ) → k < l.at → nat_eq l.number (get_or l.list k 0) ≡ false
