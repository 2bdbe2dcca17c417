-- Faces as lists of as many numbers as a simplex has.
use Rattle.std.specs.Prelude.{ℕ, Bool, List, [], ◌∷◌, ◌==◌, flat_map, count_by, slice_index_or}
use Rattle.lists.specs.Orders.{same_list}
use Rattle.iso_model.specs.Faces.{faces_of}

-- a face with a 0 before its own numbers
abbrev pub padded : List ℕ → List ℕ
padded face = 0 ∷ face

-- the faces of all simplices, simplex by simplex and place by place
abbrev pub all_faces : List (List ℕ) → List (List ℕ)
all_faces simplices = flat_map faces_of simplices

-- a member stands once in a list
abbrev pub is_once : List (List ℕ) → List ℕ → Bool
is_once keys key = count_by (same_list key) keys == 1

-- the member at a place stands once
abbrev pub is_once_at : List (List ℕ) → ℕ → Bool
is_once_at keys i = is_once keys (slice_index_or keys i [])
