-- The choices of D points among which the facets are found.
use Rattle.std.specs.Prelude.{◌≡◌, ℕ, ◌+◌, ◌<◌, ◌≤◌, ◌⊎◌, ◌≤ℤ◌, ◌<ℤ◌, ℤ, pos, List, [], ◌∷◌, ◌++◌, map, length, sum_by, nat_eq, All, Any, Contains, IsTrue}
use Rattle.std.specs.Prelude.{Bool, if◌then◌else◌}
use Rattle.std.specs.Bool.{MatchBool}
use Rattle.std.specs.Int.{bit_at}
use Rattle.lists.specs.Orders.{has}
use Rattle.iso_model.specs.Turns.{HalfSpace, slack, Holds, Spans}
use Rattle.iso_model.specs.Hulls.{IsFacet, AreFacets, members}
use Rattle.lists.specs.Bits.{set_number}

-- the numbers of the sets of all facets, each once, in ascending order
pub record AreFacetNumbers (d : ℕ) (points : List (List ℤ)) (numbers : List ℕ) : Type 0 where
  pub sets : List (List ℕ)
  pub facets : AreFacets d points sets
  pub numbered : numbers ≡ map set_number sets

-- all points are held, or all lie on the other side or at the boundary
abbrev pub IsOneSided : HalfSpace → List (List ℤ) → Type 0
IsOneSided h points = All (Holds h) points ⊎ All (λ x. slack h x ≤ℤ pos 0) points

-- some point lies inside the half-space of this normal and bound, off its boundary
abbrev pub HasInside : List ℤ → ℤ → List (List ℤ) → Type 0
HasInside normal bound points = Any (λ x. pos 0 <ℤ slack (record { normal = normal; bound = bound }) x) points

-- and none does
abbrev pub HasNoInside : List ℤ → ℤ → List (List ℤ) → Type 0
HasNoInside normal bound points = All (λ x. slack (record { normal = normal; bound = bound }) x ≤ℤ pos 0) points

-- whether some point does
abbrev pub TellsInside : List ℤ → ℤ → List (List ℤ) → Bool → Type 0
TellsInside normal bound points some = MatchBool some (HasInside normal bound points) (HasNoInside normal bound points)

-- some point lies outside it
abbrev pub HasOutside : List ℤ → ℤ → List (List ℤ) → Type 0
HasOutside normal bound points = Any (λ x. slack (record { normal = normal; bound = bound }) x <ℤ pos 0) points

-- and none does
abbrev pub HoldsAll : List ℤ → ℤ → List (List ℤ) → Type 0
HoldsAll normal bound points = All (Holds (record { normal = normal; bound = bound })) points

-- whether some point does
abbrev pub TellsOutside : List ℤ → ℤ → List (List ℤ) → Bool → Type 0
TellsOutside normal bound points some = MatchBool some (HasOutside normal bound points) (HoldsAll normal bound points)

-- each number is below n
abbrev pub AreBelow : ℕ → List ℕ → Type 0
AreBelow n numbers = All (λ i. i < n) numbers

-- the number of the set of some facet
abbrev pub IsFacetNumber : ℕ → List (List ℤ) → ℕ → Type 0
IsFacetNumber d points number = (set : List ℕ) × IsFacet d points set × (number ≡ set_number set)

-- how often a number stands in a list
abbrev pub occurrences : ℕ → List ℕ → ℕ
occurrences x xs = sum_by (λ y. if nat_eq x y then 1 else 0) xs

-- numbers of the sets of facets, each once
pub record AreSomeFacets (d : ℕ) (points : List (List ℤ)) (found : List ℕ) : Type 0 where
  pub facets : All (IsFacetNumber d points) found
  pub once : (x : ℕ) → occurrences x found ≤ 1

-- some of the sets, which are given by their numbers, has all these points
abbrev pub IsWithinSome : List ℕ → List ℕ → Type 0
IsWithinSome choice found = Any (λ number. All (λ i. bit_at number i ≡ 1) choice) found

-- a facet that has all these points is found, where they span a hyperplane
abbrev pub IsTried : ℕ → List (List ℤ) → List ℕ → List ℕ → Type 0
IsTried d points found choice =
    (set : List ℕ) → IsFacet d points set → All (λ i. IsTrue (has set i)) choice → Spans (members points choice) → Contains found (set_number set)

-- where these points span a hyperplane, no facet has them all
abbrev pub HasNoFacet : ℕ → List (List ℤ) → List ℕ → Type 0
HasNoFacet d points choice = (set : List ℕ) → IsFacet d points set → All (λ i. IsTrue (has set i)) choice → Spans (members points choice) → ⊥

-- the number of the only facet that has all these points, which span a hyperplane
pub record IsFacetThrough (d : ℕ) (points : List (List ℤ)) (choice : List ℕ) (number : ℕ) : Type 0 where
  pub facet : IsFacetNumber d points number
  pub through : All (λ i. bit_at number i ≡ 1) choice
  pub alone : (set : List ℕ) → IsFacet d points set → All (λ i. IsTrue (has set i)) choice → number ≡ set_number set

-- no more was found than the facet through these points: the list is as it was, or that facet's number came to its end
abbrev pub AddsThrough : ℕ → List (List ℤ) → List ℕ → List ℕ → List ℕ → Type 0
AddsThrough d points choice old new = (new ≡ old) ⊎ ((number : ℕ) × IsFacetThrough d points choice number × (new ≡ old ++ number ∷ []))

-- from start on, below n, in ascending order
abbrev pub IsAscending : ℕ → ℕ → List ℕ → Type 0
IsAscending start n [] = Unit {0}
IsAscending start n (i ∷ is) = (start ≤ i) × (i < n) × IsAscending (i + 1) n is

-- each choice of D points that goes on from these ones in ascending order, from start on
abbrev pub AreTried : ℕ → List (List ℤ) → List ℕ → List ℕ → ℕ → Type 0
AreTried d points found front start =
    (rest : List ℕ) → IsAscending start (length points) rest → length front + length rest ≡ d → IsTried d points found (front ++ rest)
