-- Samples read one after another.
use Rattle.std.specs.Prelude.{◌≡◌, ℕ, ◌*◌, ◌<◌, ℤ, List, drop, slice_index_or}

-- each of the first samples is the value of its group of so many bytes
abbrev pub HasValues : (List ℕ → ℤ) → ℕ → List ℕ → List ℤ → ℕ → Type 0
HasValues value width piece samples count = (k : ℕ) (d : ℤ) → k < count → slice_index_or samples k d ≡ value (drop (k * width) piece)
