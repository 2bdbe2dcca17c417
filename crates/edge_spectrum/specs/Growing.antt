-- Counts at the isovalues of a range, and how they grow.
use Rattle.std.specs.Prelude.{ℕ, ◌+◌, ◌%◌, ◌^◌, ◌<◌, ◌≤◌, ◌≡◌, Bool, ℤ, length, replicate, take, unsigned_abs, if◌then◌else◌}
use Rattle.std.specs.List.{sum}
use Rattle.edge_spectrum.specs.declared.differences.Differences.{Differences}
use Rattle.edge_spectrum.specs.Spectrum.{iso_after}

-- the differences are those of a range: there are at most 65,536 isovalues, the first at most 2^40 from 0, and one place more than isovalues
pub record AreDifferences (d : Differences) : Type 0 where
  pub few : d.isovalues ≤ 65536
  pub small : unsigned_abs d.from ≤ 2 ^ 40
  pub long : length d.steps.items ≡ d.isovalues + 1

-- each count is 0
abbrev pub IsNew : ℤ → ℕ → Differences → Type 0
IsNew from isovalues d = (d.from ≡ from) × (d.isovalues ≡ isovalues) × (d.steps.items ≡ replicate (isovalues + 1) 0)

-- the count at the isovalue in this place, not yet taken modulo 2^64: the sum of the steps up to it
abbrev pub count_at : Differences → ℕ → ℕ
count_at d i = sum (take (i + 1) d.steps.items)

-- two numbers are the same modulo 2^64
abbrev pub AreSame64 : ℕ → ℕ → Type 0
AreSame64 a b = a % 2 ^ 64 ≡ b % 2 ^ 64

-- the range stays, and the count at each isovalue grows by as much as is said of it
pub record Grows (old new : Differences) (more : ℤ → ℕ) : Type 0 where
  pub sound : AreDifferences new
  pub from : new.from ≡ old.from
  pub isovalues : new.isovalues ≡ old.isovalues
  pub counts : (i : ℕ) → i < old.isovalues → AreSame64 (count_at new i) (count_at old i + more (iso_after old.from i))

-- 1 where a test holds, and else 0
abbrev pub one_if : Bool → ℕ
one_if test = if test then 1 else 0
