-- The faces of all simplices with their signs, as keys that are sorted.
use Rattle.std.specs.Prelude.{ℕ, Bool, ◌≡◌, ◌+◌, ◌-◌, ◌%◌, ◌<◌, List, [], ◌∷◌, ◌++◌, map, flat_map, length, slice_set}
use Rattle.std.specs.Cmp.Lexicographic.{slice_cmp}
use Rattle.std.specs.List.Sorted.{IsPermutation, IsSorted}
use Rattle.std.specs.Ordering.{nat_cmp}
use Rattle.lists.specs.Orders.{numbers, without, inversions}
use Rattle.iso_model.specs.Faces.{face_without}
use Rattle.mesh_audit.specs.Findings.{has_wrong_face, is_wrong_at, simplex_at, IsLeast, NonePasses, NoneRepeats}

-- 1 where the sign of the face without a place is -1, and else 0
abbrev pub sign_bit : List ℕ → ℕ → ℕ
sign_bit w place = (place + inversions (without place w)) % 2

-- a face with a sign: the numbers of the face, and the sign behind them
abbrev pub signed_key : ℕ → List ℕ → List ℕ
signed_key sign face = face ++ sign ∷ []

-- a face with the sign that a simplex has it with
abbrev pub signed_face : List ℕ → ℕ → List ℕ
signed_face w place = signed_key (sign_bit w place) (face_without w place)

-- a key of which the sign became a 0
abbrev pub unsigned : List ℕ → List ℕ
unsigned key = slice_set key (length key - 1) 0

-- the faces of a simplex with their signs, place by place
abbrev pub signed_faces_of : List ℕ → List (List ℕ)
signed_faces_of w = map (signed_face w) (numbers (length w))

-- the faces of all simplices with their signs, simplex by simplex
abbrev pub all_signed_faces : List (List ℕ) → List (List ℕ)
all_signed_faces simplices = flat_map signed_faces_of simplices

-- these keys are the faces of all simplices with their signs, in ascending order
pub record AreSignedFaces (simplices keys : List (List ℕ)) : Type 0 where
  pub sorted : IsSorted (slice_cmp nat_cmp) keys
  pub moved : IsPermutation (all_signed_faces simplices) keys

-- the least simplex that has a face that is not glued, and the least place without which it is such a face
abbrev pub IsLeastSide : List (List ℕ) → ℕ × ℕ → Type 0
IsLeastSide simplices side =
    IsLeast (has_wrong_face simplices) (length simplices) side.0
    × IsLeast (is_wrong_at simplices side.0) (length (simplex_at simplices side.0)) side.1

-- the keys are the faces of all simplices, none of which has a repeated number, with their signs, and this is simplex i
pub record IsAmong (simplices keys : List (List ℕ)) (i : ℕ) (w : List ℕ) : Type 0 where
  pub distinct : NoneRepeats simplices
  pub keyed : AreSignedFaces simplices keys
  pub below : i < length simplices
  pub is : w ≡ simplex_at simplices i

-- an answer says whether the face of a simplex without a place is not glued
abbrev pub IsWrongAnswer : List ℕ → List (List ℕ) → ℕ → Bool → Type 0
IsWrongAnswer w keys place answer = (simplices : List (List ℕ)) (i : ℕ) → IsAmong simplices keys i w → answer ≡ is_wrong_at simplices i place

-- the faces of a simplex without a place below n are glued
abbrev pub AreRightBelow : ℕ → List ℕ → List (List ℕ) → Type 0
AreRightBelow n w keys = (simplices : List (List ℕ)) (i : ℕ) → IsAmong simplices keys i w → NonePasses (is_wrong_at simplices i) n

-- all faces of a simplex are glued
abbrev pub HasNoWrongPlace : List ℕ → List (List ℕ) → Type 0
HasNoWrongPlace w keys = AreRightBelow (length w) w keys

-- a place is the least without which the simplex is a face that is not glued
abbrev pub IsLeastWrongPlace : List ℕ → List (List ℕ) → ℕ → Type 0
IsLeastWrongPlace w keys place =
    (simplices : List (List ℕ)) (i : ℕ) → IsAmong simplices keys i w → IsLeast (is_wrong_at simplices i) (length w) place
