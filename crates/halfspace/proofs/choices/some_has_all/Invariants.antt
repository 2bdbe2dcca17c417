use Rattle.std.proofs.Common.{◌≡◌, ℕ, ◌<◌, All, slice_index_or}
use Rattle.std.specs.Int.{bit_at}
use Rattle.halfspace.proofs.choices.some_has_all.Given as goal

-- none of the sets so far has them all
abbrev pub invariant-loop-set : goal.invariant-loop-set
invariant-loop-set g l = (k : ℕ) → k < l.set-index → ¬ (All (λ i. bit_at (slice_index_or l.sets k 0) i ≡ 1) l.choice)
