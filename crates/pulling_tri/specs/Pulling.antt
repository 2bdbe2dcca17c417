-- Pulled simplices by dimension: a chain of sets is its first set, with a chain from one of the next sets.
use Rattle.std.specs.Prelude.{◌≡◌, ◌↔◌, ◌⊎◌, ◌+◌, ℕ, false, List, [], ◌∷◌, ◌++◌, map, length, Contains}
use Rattle.lists.specs.Orders.{has}
use Rattle.iso_model.specs.Hulls.{IsFaceOf, first_vertex}
use Rattle.pulling_tri.specs.PointSets.{IsOneOf, point_set}

-- a set that may stand next in a chain: a face of the set that misses its first vertex
abbrev pub IsNext : (List ℕ → Type 0) → List ℕ → List ℕ → Type 0
IsNext Facet set face = IsFaceOf Facet set face × (has face (first_vertex set) ≡ false)

-- all sets that may stand next, and no others
abbrev pub AreNext : (List ℕ → Type 0) → List ℕ → List (List ℕ) → Type 0
AreNext Facet set faces = (face : List ℕ) → Contains faces face ↔ IsNext Facet set face

-- the sets below one set in a chain that ends with a single point
abbrev pub IsDescent : (List ℕ → Type 0) → List ℕ → List (List ℕ) → Type 0
IsDescent Facet set [] = length set ≡ 1
IsDescent Facet set (face ∷ chain) = IsNext Facet set face × IsDescent Facet face chain

-- the first vertices along a chain of d sets, of which the first ones are given and the next set is this one
pub record GoesOn (Facet : List ℕ → Type 0) (d : ℕ) (front set simplex : List ℕ) : Type 0 where
  pub chain : List (List ℕ)
  pub descends : IsDescent Facet set chain
  pub full : length front + 1 + length chain ≡ d
  pub vertices : simplex ≡ front ++ map first_vertex (set ∷ chain)

-- the lists of first vertices along all chains that go on so are added to a list
pub record AddsPulled (Facet : List ℕ → Type 0) (d : ℕ) (front set : List ℕ) (old new : List (List ℕ)) : Type 0 where
  pub each : (simplex : List ℕ) → Contains new simplex ↔ (Contains old simplex ⊎ GoesOn Facet d front set simplex)

-- the same, where the sets of these numbers are the facets, and the set is that of a number
abbrev pub AddsFrom : List ℕ → ℕ → List ℕ → ℕ → List (List ℕ) → List (List ℕ) → Type 0
AddsFrom facets d front set old new = AddsPulled (IsOneOf facets) d front (point_set set) old new

-- the same from each of some sets
pub record AddsBelow (Facet : List ℕ → Type 0) (d : ℕ) (front : List ℕ) (sets : List (List ℕ)) (old new : List (List ℕ)) : Type 0 where
  pub each : (simplex : List ℕ) → Contains new simplex ↔ (Contains old simplex ⊎ ((set : List ℕ) × Contains sets set × GoesOn Facet d front set simplex))
