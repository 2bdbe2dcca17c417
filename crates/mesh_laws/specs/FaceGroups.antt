-- Faces in groups, such that all that are the same face are in one.
use Rattle.std.specs.Prelude.{◌≡◌, ℕ, ◌-◌, ◌%◌, ◌==◌, List, ◌++◌, map, filter, length, count_by, slice_index_or, Vec}
use Rattle.std.proofs.Common.{Global}
use Rattle.lists.specs.Orders.{numbers}
use Rattle.mesh_laws.specs.FaceKeys.{is_once}

-- the group of a face, of n: what is left where n divides its last number
abbrev pub group_of : ℕ → List ℕ → ℕ
group_of n key = slice_index_or key (length key - 1) 0 % n

-- the members of a group, in order
abbrev pub group : ℕ → List (List ℕ) → ℕ → List (List ℕ)
group n keys g = filter (λ key. group_of n key == g) keys

-- the n groups of faces
abbrev pub groups_of : ℕ → List (List ℕ) → List (List (List ℕ))
groups_of n keys = map (group n keys) (numbers n)

-- these are the groups of the faces
abbrev pub AreGroups : List (Vec (List ℕ) Global) → List (List ℕ) → Type 0
AreGroups groups keys = map (λ g. g.items) groups ≡ groups_of (length groups) keys

-- groups take these faces: of any faces before, they are then the groups of all
pub record TakeFaces (old new : List (Vec (List ℕ) Global)) (more : List (List ℕ)) : Type 0 where
  pub count : length new ≡ length old
  pub taken : (keys : List (List ℕ)) → AreGroups old keys → AreGroups new (keys ++ more)

-- how many members of a list stand there once
abbrev pub once_count : List (List ℕ) → ℕ
once_count keys = count_by (is_once keys) keys
