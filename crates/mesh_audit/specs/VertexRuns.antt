-- The triangles at each vertex, as pairs of a vertex and a triangle that are sorted.
use Rattle.std.specs.Prelude.{ℕ, ◌≡◌, ◌+◌, ◌*◌, ◌^◌, ◌<◌, ◌≤◌, Bool, true, false, List, map, filter, length, nat_eq, All, is_some, slice_index_or, take, Some, Vec}
use Rattle.std.proofs.Common.{Global}
use Rattle.std.specs.List.Sorted.{IsNonDecreasingBy, IsPermutation}
use Rattle.lists.specs.Orders.{numbers}
use Rattle.iso_model.specs.Walks.{reading, triangles_at, turned, walk}
use Rattle.mesh_laws.specs.declared.rounds.Corner.{Corner}
use Rattle.mesh_laws.specs.Rounds.{numbers_of, corner_of, AreCornersAt}
use Rattle.mesh_audit.specs.declared.links.Incidence.{Incidence}
use Rattle.mesh_audit.specs.Findings.{has_wrong_link, is_trail_right}
use Rattle.mesh_audit.specs.Groups.{members_of}

-- the order of incidences: by their vertex, and by their triangle where they have the same vertex
abbrev pub rank_of : Incidence → ℕ
rank_of e = e.vertex * 2 ^ 32 + e.triangle

-- the vertex of an incidence
abbrev pub vertex_of : Incidence → ℕ
vertex_of e = e.vertex

-- the triangles of the incidences at a vertex, in their order
abbrev pub triangles_in : List Incidence → ℕ → List ℕ
triangles_in es k = map (λ (e : Incidence). e.triangle) (filter (λ (e : Incidence). nat_eq k e.vertex) es)

-- these are the incidences of the triangles below n: at each vertex those of the triangles there, in the order of their numbers
pub record AreIncidencesBelow (n : ℕ) (simplices : List (List ℕ)) (es : List Incidence) : Type 0 where
  pub inside : All (λ (e : Incidence). e.triangle < length simplices) es
  pub few : length es ≡ 3 * n
  pub at_each : (k : ℕ) → triangles_in es k ≡ filter (λ t. is_some (reading simplices k t)) (numbers n)

-- the members of groups are the incidences of the triangles below n
abbrev pub AreGrouped : ℕ → List (List ℕ) → List (Vec Incidence Global) → Type 0
AreGrouped n simplices groups = (es : List Incidence) × (AreIncidencesBelow n simplices es × IsPermutation es (members_of groups))

-- these are the incidences of all triangles, in order
pub record AreIncidences (simplices : List (List ℕ)) (es : List Incidence) : Type 0 where
  pub sorted : IsNonDecreasingBy rank_of es
  pub inside : All (λ (e : Incidence). e.triangle < length simplices) es
  pub few : length es ≡ 3 * length simplices
  pub at_each : (k : ℕ) → triangles_in es k ≡ triangles_at simplices k

-- these incidences are those of the triangles at one vertex
pub record AreAt (simplices : List (List ℕ)) (k : ℕ) (es : List Incidence) : Type 0 where
  pub numbered : map (λ (e : Incidence). e.triangle) es ≡ triangles_at simplices k
  pub at : All (λ (e : Incidence). e.vertex ≡ k) es

-- these corners are the triangles of a run, each with how it reads, at each vertex of which it is the run
abbrev pub AreCornersOf : List (List ℕ) → List Incidence → List Corner → Type 0
AreCornersOf simplices run corners = (k : ℕ) → AreAt simplices k run → AreCornersAt simplices k corners

-- a triangle with how it reads at the vertex of an incidence, where it is there
abbrev pub corner_at : Incidence → List ℕ → List Corner
corner_at e w = corner_of e.triangle (turned e.vertex w)

-- an answer says whether the walk is right at each vertex of which this is the run
abbrev pub IsRightAnswer : List (List ℕ) → List Incidence → Bool → Type 0
IsRightAnswer simplices run answer = (k : ℕ) → AreAt simplices k run → answer ≡ is_trail_right (walk simplices k)

-- a vertex is the least that has triangles but no right walk
pub record IsLeastLink (simplices : List (List ℕ)) (k : ℕ) : Type 0 where
  pub wrong : has_wrong_link 3 simplices k ≡ true
  pub least : (j : ℕ) → j < k → has_wrong_link 3 simplices j ≡ false

-- the walk at each vertex is right
abbrev pub NoWrongLink : List (List ℕ) → Type 0
NoWrongLink simplices = (k : ℕ) → has_wrong_link 3 simplices k ≡ false

-- a triangle at each of its numbers
abbrev pub incidences_of : ℕ → List ℕ → List Incidence
incidences_of t w = map (λ v. record { vertex = v; triangle = t }) w

-- from start to end the incidences are those at one vertex, and behind it are those at greater ones
pub record IsRun (es : List Incidence) (start end : ℕ) : Type 0 where
  pub more : start < end
  pub inside : end ≤ length es
  pub same : (i : ℕ) (d : Incidence) → start ≤ i → i < end → (slice_index_or es i d).vertex ≡ (slice_index_or es start d).vertex
  pub greater : (i : ℕ) (d : Incidence) → end ≤ i → i < length es → (slice_index_or es start d).vertex < (slice_index_or es i d).vertex

-- the walk at the vertex of each incidence before a place is right, and the incidences from there on are at greater vertices
pub record AreRightBefore (simplices : List (List ℕ)) (es : List Incidence) (start : ℕ) : Type 0 where
  pub inside : start ≤ length es
  pub right : (i : ℕ) (d : Incidence) → i < start → has_wrong_link 3 simplices (slice_index_or es i d).vertex ≡ false
  pub cut : (i j : ℕ) (d : Incidence) → i < start → start ≤ j → j < length es → (slice_index_or es i d).vertex < (slice_index_or es j d).vertex

-- these are the corners of the first n of the incidences, where they are those at one vertex
pub record AreFirstCorners (n : ℕ) (simplices : List (List ℕ)) (k : ℕ) (run : List Incidence) (corners : List Corner) : Type 0 where
  pub numbered : numbers_of corners ≡ map (λ (e : Incidence). e.triangle) (take n run)
  pub read : All (λ (c : Corner). reading simplices k c.triangle ≡ Some (c.p, c.q)) corners
