-- Calls that are numbered, some of which are to fail.
use Rattle.std.specs.Prelude.{ℕ, ◌+◌, ◌-◌, ◌^◌, ◌==◌, min, List, Bool, Result, is_ok, if◌then◌else◌}
use Rattle.std.specs.List.{list_any}

-- the numbers of the calls that are to fail, the number of the next call, and how many calls failed
pub record NumberedCalls : Type 0 where
  pub fail : List ℕ
  pub next : ℕ
  pub faults : ℕ

-- calls of which none was made, and those of these numbers are to fail
abbrev pub no_calls : List ℕ → NumberedCalls
no_calls fail = record { fail = fail; next = 0; faults = 0 }

-- one more, up to 2^64 - 1
abbrev pub one_more : ℕ → ℕ
one_more n = min (n + 1) (2 ^ 64 - 1)

-- the next call is one of those that are to fail
abbrev pub is_to_fail : NumberedCalls → Bool
is_to_fail calls = list_any (λ number. number == calls.next) calls.fail

-- the calls after one with this result
abbrev pub after_call : {T E : Type 0} → NumberedCalls → Result T E → NumberedCalls
after_call calls result = record calls { next = one_more calls.next; faults = if is_ok result then calls.faults else one_more calls.faults }
