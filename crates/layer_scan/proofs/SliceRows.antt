-- The rows of a slice: each lies in it, and has as many samples as a row.
use Rattle.std.proofs.Common.{arith}
use Rattle.std.proofs.lemmas.Grind.{common_steps}
use Rattle.std.proofs.lemmas.Nat.{row_fits}
use Rattle.std.specs.Prelude.{List, length, slice_range, ℕ, ◌*◌, ◌+◌, ◌<◌, ◌≤◌, ◌≡◌}

pub row_inside : (n length rows total : ℕ) → n < rows → total ≡ rows * length → n * length + length ≤ total
row_inside n length rows total h all = let fits = row_fits n length rows length h (omega arith) in omega (arith, all, fits)

pub long_range : {X : Type 0} (xs : List X) (first n : ℕ) → first + n ≤ length xs → length (slice_range xs first (first + n)) ≡ n
long_range xs first n h = grind (arith, common_steps)
