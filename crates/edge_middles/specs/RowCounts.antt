-- How the number of edges before a midpoint grows along a row of midpoints, and from a row to the next.
-- A row is given by the coordinates of its midpoints along the axes after the first.
use Rattle.std.specs.Prelude.{ℕ, suc, ◌*◌, ◌+◌, ◌-◌, ◌^◌, ◌≤◌, ◌≡◌, ◌⊎◌, true, List, [], ◌∷◌, length, slice_index, drop, replicate, count_by, nat_lt}
use Rattle.std.specs.Prelude.{if◌then◌else◌}
use Rattle.lists.specs.Orders.{numbers}
use Rattle.iso_model.specs.Points.{comes_first}
use Rattle.iso_model.specs.Values.{Volume, product}
use Rattle.edge_middles.specs.Middles.{joins_centre, joins_samples}
use Rattle.edge_middles.specs.GridMiddles.{count_before, is_there}

-- a row has a coordinate for each axis but the first
abbrev pub IsRowOfMiddles : Volume → List ℕ → Type 0
IsRowOfMiddles v rest = suc (length rest) ≡ length v.sizes

-- before the next point of a row there is one edge more where one is there at this point
abbrev pub CountsPoints : Volume → List ℕ → Type 0
CountsPoints v rest = IsRowOfMiddles v rest
    → (c : ℕ) → count_before v ((c + 1) ∷ rest) ≡ count_before v (c ∷ rest) + (if is_there v (c ∷ rest) then 1 else 0)

-- in a row at samples and between them there are edges at 4x and at 4x + 2 alone: before place x + n are those before place x
-- and those of the n places from x on
abbrev pub CountsSamples : Volume → List ℕ → Type 0
CountsSamples v rest = IsRowOfMiddles v rest → joins_samples rest ≡ true
    → (x n : ℕ) → count_before v (4 * (x + n) ∷ rest) ≡ count_before v (4 * x ∷ rest)
    + count_by (λ k. is_there v (4 * (x + k) ∷ rest)) (numbers n) + count_by (λ k. is_there v ((4 * (x + k) + 2) ∷ rest)) (numbers n)

-- before 4x + 2 are those before 4x and the one there
abbrev pub CountsFirst : Volume → List ℕ → Type 0
CountsFirst v rest = IsRowOfMiddles v rest → joins_samples rest ≡ true
    → (x : ℕ) → count_before v ((4 * x + 2) ∷ rest) ≡ count_before v (4 * x ∷ rest) + (if is_there v (4 * x ∷ rest) then 1 else 0)

-- before 4 (x + 1) are those before 4x and the two there at place x
abbrev pub CountsNext : Volume → List ℕ → Type 0
CountsNext v rest = IsRowOfMiddles v rest → joins_samples rest ≡ true
    → (x : ℕ) → count_before v (4 * (x + 1) ∷ rest) ≡ count_before v (4 * x ∷ rest)
    + (if is_there v (4 * x ∷ rest) then 1 else 0) + (if is_there v ((4 * x + 2) ∷ rest) then 1 else 0)

-- in a row of edges to centres there are edges at 4x + 1 and at 4x + 3 alone
abbrev pub CountsCentres : Volume → List ℕ → Type 0
CountsCentres v rest = IsRowOfMiddles v rest → joins_centre rest ≡ true
    → (x n : ℕ) → count_before v (4 * (x + n) ∷ rest) ≡ count_before v (4 * x ∷ rest)
    + count_by (λ k. is_there v ((4 * (x + k) + 1) ∷ rest)) (numbers n) + count_by (λ k. is_there v ((4 * (x + k) + 3) ∷ rest)) (numbers n)

-- before 4x + 1 are those before 4x, and before 4x + 3 also the one at 4x + 1
abbrev pub CountsCentre : Volume → List ℕ → Type 0
CountsCentre v rest = IsRowOfMiddles v rest → joins_centre rest ≡ true
    → (x : ℕ) → (count_before v ((4 * x + 1) ∷ rest) ≡ count_before v (4 * x ∷ rest))
    × (count_before v ((4 * x + 3) ∷ rest) ≡ count_before v (4 * x ∷ rest) + (if is_there v ((4 * x + 1) ∷ rest) then 1 else 0))

-- the row after a row, in a grid of these sizes along the axes after the first: two further along the first axis that has room for it,
-- and at 0 along those before; past the last row of its height the first one of the next height
abbrev pub next_row : List ℕ → List ℕ → List ℕ
next_row sizes [] = []
next_row [] (c ∷ rest) = (c + 1) ∷ rest
next_row (n ∷ []) (c ∷ rest) = (c + 1) ∷ rest
next_row (n ∷ m ∷ sizes) (c ∷ rest) = if nat_lt (c + 2) (4 * n - 3) then (c + 2) ∷ rest else 0 ∷ next_row (m ∷ sizes) rest

-- from a point past the end of a row on there is no edge up to the row after it
abbrev pub CountsRows : Volume → List ℕ → Type 0
CountsRows v rest = IsRowOfMiddles v rest → (joins_samples rest ≡ true) ⊎ (joins_centre rest ≡ true)
    → (c : ℕ) → 4 * slice_index v.sizes 0 ≤ c + 3 → count_before v (c ∷ rest) ≡ count_before v (0 ∷ next_row (drop 1 v.sizes) rest)

-- two points have as many edges before them where no edge stands between them
abbrev pub CountsSame : Volume → List ℕ → List ℕ → Type 0
CountsSame v p q = ((m : List ℕ) → length m ≡ length v.sizes → is_there v m ≡ true → comes_first m p ≡ comes_first m q)
    → count_before v p ≡ count_before v q

-- before the first point there is none
abbrev pub CountsNone : Volume → ℕ → Type 0
CountsNone v n = count_before v (replicate n 0) ≡ 0

-- in a grid of at most 2^27 samples there are at most 2^31 midpoints before any
abbrev pub CountsFew : Volume → List ℕ → Type 0
CountsFew v middle = product v.sizes ≤ 2 ^ 27 → count_before v middle ≤ 2 ^ 31
