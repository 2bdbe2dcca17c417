-- The faces of tuples of edges, each with its count and its sum.
use Rattle.std.specs.Prelude.{◌≡◌, ℕ, ◌+◌, ◌<◌, Bool, List, map, length, All, Contains}
use Rattle.std.specs.List.{AllAdjacentBelow}
use Rattle.std.specs.List.Sorted.{IsStrictlyIncreasing}
use Rattle.iso_model.specs.declared.Kind.{Kind}
use Rattle.iso_model.specs.Faces.{face_count, face_sum}
use Rattle.iso_model.specs.Acceptance.{rule_faces}
use Rattle.edge_sets.specs.Sets.{SuitsFacets}
use Rattle.face_tallies.specs.declared.faces.FaceTally.{FaceTally}
use Rattle.lists.specs.Bits.{set_number}

-- a face of tuples of D edges: D - 1 edges, in ascending order, each below 32
pub record IsFace (d : ℕ) (face : List ℕ) : Type 0 where
  pub wide : length face + 1 ≡ d
  pub ascending : IsStrictlyIncreasing face
  pub edges : All (λ e. e < 32) face

-- a tally tells of a face that some tuple has: its edges, its count and its sum
pub record IsTallyOf (d : ℕ) (tuples : List (List ℕ)) (t : FaceTally) : Type 0 where
  pub face : List ℕ
  pub is_face : IsFace d face
  pub set : t.edges ≡ set_number face
  pub some : 0 < face_count tuples face
  pub count : t.count ≡ face_count tuples face
  pub sum : t.sum ≡ face_sum tuples face

-- tallies in ascending order of the numbers of their sets of edges
abbrev pub AscendByEdges : List FaceTally → Type 0
AscendByEdges tallies = AllAdjacentBelow (λ (a b : FaceTally). a.edges < b.edges) tallies (length tallies)

-- the tallies of tuples: each face that some tuple has, once, in ascending order of the numbers of the sets
pub record AreTallies (d : ℕ) (tuples : List (List ℕ)) (tallies : List FaceTally) : Type 0 where
  pub ascending : AscendByEdges tallies
  pub each : All (IsTallyOf d tuples) tallies
  pub whole : (face : List ℕ) → IsFace d face → 0 < face_count tuples face → Contains (map (λ (t : FaceTally). t.edges) tallies) (set_number face)

-- the answer is that of the rule of faces, in each cell, for tuples with edges below 32 that have these tallies, where these are the sets of the edges of
-- the facets
abbrev pub TellsFaceRule : List ℕ → List FaceTally → Bool → Type 0
TellsFaceRule facets tallies answer =
    (kind : Kind) (d : ℕ) (tuples : List (List ℕ)) → All (λ w. All (λ e. e < 32) w) tuples → SuitsFacets kind d facets tuples
    → AreTallies d tuples tallies → answer ≡ rule_faces kind d tuples
