-- Sums of the samples at the corners of a cube, by the places of the samples.
use Rattle.std.specs.Prelude.{ℕ, ◌+◌, ◌≤◌, List, ℤ, pos, ◌+ℤ◌, slice_index_or, All, unsigned_abs, ◌^◌}

-- the sample at a place
abbrev pub sample : List ℤ → ℕ → ℤ
sample samples place = slice_index_or samples place (pos 0)

-- the two samples along axis 0
abbrev pub pair_total : List ℤ → ℕ → ℤ
pair_total samples first = sample samples first +ℤ sample samples (first + 1)

-- the four samples along axes 0 and 1, where the next along axis 1 is a row further
abbrev pub square_total : List ℤ → ℕ → ℕ → ℤ
square_total samples first row = pair_total samples first +ℤ pair_total samples (first + row)

-- the eight samples of a cube, where the next along axis 2 is a slice further
abbrev pub cube_total : List ℤ → ℕ → ℕ → ℕ → ℤ
cube_total samples first row slice = square_total samples first row +ℤ square_total samples (first + slice) row

-- no sample has more than 32 bits beside its sign
abbrev pub AreSmall : List ℤ → Type 0
AreSmall samples = All (λ s. unsigned_abs s ≤ 2 ^ 32) samples
