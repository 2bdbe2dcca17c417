-- One point more: what the next generators have to be.
use Rattle.std.specs.Prelude.{◌≡◌, ℕ, ◌<◌, ℤ, pos, ◌<ℤ◌, bit_and, List, map, length, All, Any, Contains}
use Rattle.iso_model.specs.Turns.{slack}
use Rattle.hull_dd.specs.declared.generators.Generator.{Generator}
use Rattle.hull_dd.specs.Generators.{half_of, point_at, with_point, IsWithin, IsGenerator, Generate}

-- the slacks of a point in the generators, in order
abbrev pub slacks_at : {d : ℕ} → List ℤ → List (Generator d) → List ℤ
slacks_at {d} x gs = map (λ (g : Generator d). slack (half_of g) x) gs

-- each point that has these slacks in the generators has P
abbrev pub OfPoint : {d : ℕ} → List (Generator d) → List ℤ → (List ℤ → Type 0) → Type 0
OfPoint {d} gs slacks P = (x : List ℤ) → slacks ≡ slacks_at x gs → P x

-- some generator is tight at all points of the set
abbrev pub IsWithinSome : {d : ℕ} → ℕ → List (Generator d) → Type 0
IsWithinSome {d} set gs = Any (λ (g : Generator d). IsWithin set g.tight) gs

-- for each generator that has the point x outside, the meet of its tight set with this set lies, with i, within some tight set
abbrev pub AreMeetsWithin : {d : ℕ} → List ℤ → ℕ → ℕ → List (Generator d) → List (Generator d) → Type 0
AreMeetsWithin {d} x i set gs next = (g : Generator d) → Contains gs g → slack (half_of g) x <ℤ pos 0 → IsWithinSome (with_point (bit_and set g.tight) i) next

-- the sets of the generators that are tight at the point, and the meets of those of opposite sides, lie with the point within some tight set
pub record AreWithin {d : ℕ} (x : List ℤ) (i : ℕ) (gs next : List (Generator d)) : Type 0 where
  pub on : (g : Generator d) → Contains gs g → slack (half_of g) x ≡ pos 0 → IsWithinSome (with_point g.tight i) next
  pub meets : (g : Generator d) → Contains gs g → pos 0 <ℤ slack (half_of g) x → AreMeetsWithin x i g.tight gs next

-- each generator that has the point inside is there
abbrev pub HasInside : {d : ℕ} → List ℤ → List (Generator d) → List (Generator d) → Type 0
HasInside {d} x gs next = (g : Generator d) → Contains gs g → pos 0 <ℤ slack (half_of g) x → Contains next g

-- the new one is a generator of the set with point i, where the two are generators of a set of points, the one with point i inside and the
-- other with it outside, and these are their slacks there
abbrev pub IsJoined : (d i : ℕ) → Generator d → ℤ → Generator d → ℤ → Generator d → Type 0
IsJoined d i inside above outside below new =
    (points : List (List ℤ)) (set : ℕ) → IsGenerator d points set inside → IsGenerator d points set outside → i < length points
    → above ≡ slack (half_of inside) (point_at points i) → pos 0 <ℤ above → below ≡ slack (half_of outside) (point_at points i) → below <ℤ pos 0
    → IsGenerator d points (with_point set i) new

-- the generators are those of a set of points, and these are the slacks of point i in them
pub record AreMeasured (d : ℕ) (points : List (List ℤ)) (set i : ℕ) (gs : List (Generator d)) (slacks : List ℤ) : Type 0 where
  pub ones : All (IsGenerator d points set) gs
  pub inside : i < length points
  pub measured : slacks ≡ slacks_at (point_at points i) gs

-- where the old ones are generators of the set with point i, so are the new ones
abbrev pub KeepsOnes : (d i : ℕ) → List (Generator d) → List ℤ → List (Generator d) → List (Generator d) → Type 0
KeepsOnes d i gs slacks old new =
    (points : List (List ℤ)) (set : ℕ) → AreMeasured d points set i gs slacks
    → All (IsGenerator d points (with_point set i)) old → All (IsGenerator d points (with_point set i)) new

-- the same with one generator that has the point inside, and its slack there
abbrev pub KeepsOnesWith : (d i : ℕ) → Generator d → ℤ → List (Generator d) → List ℤ → List (Generator d) → List (Generator d) → Type 0
KeepsOnesWith d i inside above gs slacks old new =
    (points : List (List ℤ)) (set : ℕ) → AreMeasured d points set i gs slacks
    → IsGenerator d points set inside → above ≡ slack (half_of inside) (point_at points i) → pos 0 <ℤ above
    → All (IsGenerator d points (with_point set i)) old → All (IsGenerator d points (with_point set i)) new

-- generators of a set of points give these of the set with point i
abbrev pub IsNextOf : (d : ℕ) → List (List ℤ) → ℕ → List (Generator d) → List (Generator d) → Type 0
IsNextOf d points i gs next = (set : ℕ) → Generate d points set gs → Generate d points (with_point set i) next

-- ---- sets that are given by their numbers

-- the set lies within one of these
abbrev pub IsWithinAny : ℕ → List ℕ → Type 0
IsWithinAny set others = Any (λ other. IsWithin set other) others

-- each generator's tight set lies within one of these
abbrev pub AreWithinAny : {d : ℕ} → List (Generator d) → List ℕ → Type 0
AreWithinAny {d} gs others = All (λ (g : Generator d). IsWithinAny g.tight others) gs
