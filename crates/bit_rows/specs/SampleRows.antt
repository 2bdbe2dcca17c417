-- Rows of bits that tell something of samples.
use Rattle.std.specs.Prelude.{ℕ, ℤ, pos, Bool, true, not, ◌&&◌, nat_lt, int_le, List, length, slice_index_or, Option, Some, None}
use Rattle.iso_model.specs.Turns.{same_int}

-- there is a sample x, and it passes
abbrev pub sample_passes : (ℤ → Bool) → List ℤ → ℕ → Bool
sample_passes passes samples x = nat_lt x (length samples) && passes (slice_index_or samples x (pos 0))

-- there is a sample x, and it is at least the isovalue
abbrev pub is_above : ℤ → List ℤ → ℕ → Bool
is_above iso samples x = sample_passes (int_le iso) samples x

-- a sample is not the blank value, where one is given
abbrev pub is_clear : Option ℤ → ℤ → Bool
is_clear None sample = true
is_clear (Some blank) sample = not (same_int blank sample)

-- there is a sample x, and it is not the blank value, where one is given
abbrev pub is_clear_at : Option ℤ → List ℤ → ℕ → Bool
is_clear_at blank samples x = sample_passes (is_clear blank) samples x
