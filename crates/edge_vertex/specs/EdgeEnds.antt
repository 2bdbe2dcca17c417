-- The two ends of an edge, and the points between them.
use Rattle.std.specs.Prelude.{ℕ, ◌+◌, ◌<◌, ◌≤◌, List, length, slice_index, ℤ, pos, ◌+ℤ◌, ◌-ℤ◌, ◌*ℤ◌}
use Rattle.std.specs.Int.{int_div_euclid}

-- along each axis the two points are at most 2 apart
abbrev pub AreNear : List ℕ → List ℕ → Type 0
AreNear p q = (i : ℕ) → i < length p → (slice_index p i ≤ slice_index q i + 2) × (slice_index q i ≤ slice_index p i + 2)

-- in axis i, the coordinate of the point that is a part of the way from p to q, in millionths and rounded towards minus infinity
abbrev pub coordinate_between : List ℕ → List ℕ → ℕ → ℕ → ℕ → ℤ
coordinate_between p q part way i =
    pos 500000 *ℤ pos (slice_index p i) +ℤ int_div_euclid (pos 500000 *ℤ (pos (slice_index q i) -ℤ pos (slice_index p i)) *ℤ pos part) (pos way)
