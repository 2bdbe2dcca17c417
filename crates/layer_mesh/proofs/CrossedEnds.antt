-- The ends of an edge that is crossed.
use Rattle.std.proofs.Common.{arith}
use Rattle.std.proofs.lemmas.Int.{ints}
use Rattle.std.specs.Prelude.{ℕ, zero, suc, ◌<◌, ◌≤◌, ◌≡◌, true, List, [], ◌∷◌, ℤ, pos, ◌*ℤ◌, ◌-ℤ◌, int_le, unsigned_abs}
use Rattle.iso_model.specs.Bipolar.{differ}
use Rattle.iso_model.specs.Values.{is_positive}
use Rattle.edge_middles.specs.MiddleVertices.{centre_end, corner_end}
use Rattle.edge_vertex.specs.EdgeEnds.{AreNear}

-- the isovalue lies between two samples of which one is at least it and the other is below it, and these are apart
pub lies_within : (low high iso : ℤ) → differ (int_le iso low) (int_le iso high) ≡ true
    → (unsigned_abs (iso -ℤ low) ≤ unsigned_abs (high -ℤ low)) × (0 < unsigned_abs (high -ℤ low))
lies_within low high iso h = (grind (arith, ints), grind (arith, ints))

-- a sample and a sum of eight that differ do so in eighths
pub corner_differs : (iso corner sum : ℤ) → differ (int_le iso corner) (is_positive iso sum) ≡ true
    → differ (is_positive iso (pos 8 *ℤ corner)) (is_positive iso sum) ≡ true
corner_differs iso corner sum h = grind (arith, ints)

pub centre_differs : (iso sum corner : ℤ) → differ (is_positive iso sum) (int_le iso corner) ≡ true
    → differ (is_positive iso sum) (is_positive iso (pos 8 *ℤ corner)) ≡ true
centre_differs iso sum corner h = grind (arith, ints)

-- the corner by a midpoint and the centre by it are a half-unit apart along each axis
pub near_centre : (middle : List ℕ) → AreNear (corner_end middle) (centre_end middle)
near_centre [] i h = absurd (omega arith)
near_centre (c ∷ middle) zero h = (omega arith, omega arith)
near_centre (c ∷ middle) (suc i) h = near_centre middle i (omega arith)

pub near_corner : (middle : List ℕ) → AreNear (centre_end middle) (corner_end middle)
near_corner [] i h = absurd (omega arith)
near_corner (c ∷ middle) zero h = (omega arith, omega arith)
near_corner (c ∷ middle) (suc i) h = near_corner middle i (omega arith)
