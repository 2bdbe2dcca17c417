-- The count of faults of a shelf or a sink, and what a call does to it.
use Rattle.std.specs.Prelude.{◌≡◌, ℕ, ◌+◌, ◌-◌, ◌^◌, ◌≤◌, min, Result, OnErr, IfErr}
use Rattle.iso_base.specs.declared.outside.Failed.{Failed}

-- a count of faults rose: it is greater than before, or stands at its last value
abbrev pub Rose : ℕ → ℕ → Type 0
Rose before now = min (before + 1) (2 ^ 64 - 1) ≤ now

-- the count did not fall; a call that failed raised it, and its failure holds the count after the call
pub record CountsFaults {T : Type 0} (before now : ℕ) (result : Result T Failed) : Type 0 where
  pub later : before ≤ now
  pub rose : OnErr result (Rose before now)
  pub counted : IfErr result (λ failed. failed.count ≡ now)
