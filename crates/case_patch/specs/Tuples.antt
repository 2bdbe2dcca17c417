-- Lists of tuples of edges, as they grow facet by facet.
use Rattle.std.specs.Prelude.{◌≡◌, ◌↔◌, ◌⊎◌, ℕ, ◌<◌, true, List, [], map, length, slice_index, All, Contains, IsTrue}
use Rattle.std.specs.List.{AllAdjacentBelow}
use Rattle.lists.specs.Orders.{comes_before}
use Rattle.iso_model.specs.Hulls.{IsPulled}
use Rattle.pulling_tri.specs.PointSets.{point_set, IsOneOf}
use Rattle.case_patch.specs.BoundarySets.{is_off}
use Rattle.iso_model.specs.declared.Kind.{Kind}
use Rattle.iso_model.specs.Entries.{IsPulledTuple}

-- the members of the one list are those of the other and the tuples of which P holds
pub record Adds (P : List ℕ → Type 0) (old new : List (List ℕ)) : Type 0 where
  pub each : (tuple : List ℕ) → Contains new tuple ↔ (Contains old tuple ⊎ P tuple)

-- all points of a simplex are midpoints, and the tuple has their edges
abbrev pub IsNamed : List ℕ → List ℕ → List ℕ → Type 0
IsNamed es simplex tuple = All (λ i. i < length es) simplex × (tuple ≡ map (slice_index es) simplex)

-- a pulled simplex of a set of points, all midpoints, by its edges
abbrev pub IsTupleOf : (List ℕ → Type 0) → ℕ → List ℕ → List ℕ → List ℕ → Type 0
IsTupleOf Facet d es set tuple = (simplex : List ℕ) × IsPulled Facet d set simplex × IsNamed es simplex tuple

-- the same of a set that is given by its number and lies within none of the sets on the boundary
abbrev pub IsOffTuple : (List ℕ → Type 0) → List ℕ → ℕ → List ℕ → ℕ → List ℕ → Type 0
IsOffTuple Facet boundary d es number tuple = (is_off number boundary ≡ true) × IsTupleOf Facet d es (point_set number) tuple

-- the same of one of some sets
abbrev pub IsTupleOfSome : List ℕ → (List ℕ → Type 0) → List ℕ → ℕ → List ℕ → List ℕ → Type 0
IsTupleOfSome sets Facet boundary d es tuple = (number : ℕ) × Contains sets number × IsOffTuple Facet boundary d es number tuple

-- the tuples of a set of points are added, where these sets are the facets
abbrev pub AddsOfSet : List ℕ → ℕ → List ℕ → ℕ → List (List ℕ) → List (List ℕ) → Type 0
AddsOfSet facets d es set old new = Adds (IsTupleOf (IsOneOf facets) d es (point_set set)) old new

-- and those of a set that lies within none of the sets on the boundary
abbrev pub AddsOffSet : List ℕ → List ℕ → ℕ → List ℕ → ℕ → List (List ℕ) → List (List ℕ) → Type 0
AddsOffSet facets boundary d es set old new = Adds (IsOffTuple (IsOneOf facets) boundary d es set) old new

-- the tuples are those of all facets that lie within none of the sets on the boundary
abbrev pub AreOffTuples : List ℕ → List ℕ → ℕ → List ℕ → List (List ℕ) → Type 0
AreOffTuples facets boundary d es tuples = Adds (IsTupleOfSome facets (IsOneOf facets) boundary d es) [] tuples

-- the tuples are those of the pulled simplices of a labelling
abbrev pub ArePulledTuples : Kind → ℕ → ℕ → List (List ℕ) → Type 0
ArePulledTuples kind d label tuples = (tuple : List ℕ) → Contains tuples tuple ↔ IsPulledTuple kind d label tuple

-- the same tuples in ascending order, each once
pub record IsOrdered (old new : List (List ℕ)) : Type 0 where
  pub same : (tuple : List ℕ) → Contains new tuple ↔ Contains old tuple
  pub ascending : AllAdjacentBelow (λ v w. IsTrue (comes_before v w)) new (length new)
