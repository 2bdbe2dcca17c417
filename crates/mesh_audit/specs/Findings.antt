-- The findings of an audit: whether the simplices of a mesh are glued. Their numbers alone are looked at.
use Rattle.std.specs.Prelude.{◌≡◌, ℕ, ◌<◌, Bool, true, false, not, ◌&&◌, ◌||◌, ◌==◌, nat_lt, pos, List, [], length, find, slice_index_or, Option, Some}
use Rattle.std.specs.Prelude.{None}
use Rattle.std.specs.List.{list_any}
use Rattle.lists.specs.Orders.{numbers, is_distinct}
use Rattle.iso_model.specs.Turns.{same_int}
use Rattle.iso_model.specs.Faces.{face_without, face_count, face_sum, free_face_count}
use Rattle.iso_model.specs.Walks.{Trail, walk, triangles_at}
use Rattle.mesh_audit.specs.declared.findings.Finding.{Finding}
use Rattle.mesh_audit.specs.declared.findings.Finding.TheVariants.{Clean, Repeat, Face, Link}

-- ---- the three tests

-- simplex i
abbrev pub simplex_at : List (List ℕ) → ℕ → List ℕ
simplex_at simplices i = slice_index_or simplices i []

-- simplex i has a repeated number
abbrev pub has_repeat : List (List ℕ) → ℕ → Bool
has_repeat simplices i = not (is_distinct (simplex_at simplices i))

-- the face of simplex i without a place
abbrev pub face_at : List (List ℕ) → ℕ → ℕ → List ℕ
face_at simplices i place = face_without (simplex_at simplices i) place

-- a face is glued: it has count 1, or count 2 and sum 0
abbrev pub is_glued : List (List ℕ) → List ℕ → Bool
is_glued simplices face = face_count simplices face == 1 || (face_count simplices face == 2 && same_int (face_sum simplices face) (pos 0))

-- the face of simplex i without a place is not glued
abbrev pub is_wrong_at : List (List ℕ) → ℕ → ℕ → Bool
is_wrong_at simplices i place = not (is_glued simplices (face_at simplices i place))

-- simplex i has a face that is not glued
abbrev pub has_wrong_face : List (List ℕ) → ℕ → Bool
has_wrong_face simplices i = list_any (is_wrong_at simplices i) (numbers (length (simplex_at simplices i)))

-- a walk is right: it met each triangle once, and does not close with fewer than three
abbrev pub is_trail_right : Trail → Bool
is_trail_right w = w.whole && not (w.closed && nat_lt (length w.order) 3)

-- in three dimensions, vertex k has triangles and the walk there is not right
abbrev pub has_wrong_link : ℕ → List (List ℕ) → ℕ → Bool
has_wrong_link d simplices k = d == 3 && nat_lt 0 (length (triangles_at simplices k)) && not (is_trail_right (walk simplices k))

-- ---- the first finding that holds

-- a number is the least of those below n that pass a test
pub record IsLeast (test : ℕ → Bool) (n k : ℕ) : Type 0 where
  pub below : k < n
  pub passes : test k ≡ true
  pub least : (j : ℕ) → j < k → test j ≡ false

-- no number below n passes a test
abbrev pub NonePasses : (ℕ → Bool) → ℕ → Type 0
NonePasses test n = (k : ℕ) → k < n → test k ≡ false

-- no simplex has a repeated number
abbrev pub NoneRepeats : List (List ℕ) → Type 0
NoneRepeats simplices = NonePasses (has_repeat simplices) (length simplices)

-- each face is glued
abbrev pub AllGlued : List (List ℕ) → Type 0
AllGlued simplices = NonePasses (has_wrong_face simplices) (length simplices)

-- the walk at each vertex is right
abbrev pub AllLinked : ℕ → ℕ → List (List ℕ) → Type 0
AllLinked d vertices simplices = NonePasses (has_wrong_link d simplices) vertices

-- the finding on simplices of dimension d over so many vertices is the first of these that holds
abbrev pub HasFinding : ℕ → ℕ → List (List ℕ) → Finding → Type 0
HasFinding d vertices simplices (Repeat i) = IsLeast (has_repeat simplices) (length simplices) i
HasFinding d vertices simplices (Face i place count sum) =
    NoneRepeats simplices
    × IsLeast (has_wrong_face simplices) (length simplices) i
    × IsLeast (is_wrong_at simplices i) (length (simplex_at simplices i)) place
    × (count ≡ face_count simplices (face_at simplices i place))
    × (sum ≡ face_sum simplices (face_at simplices i place))
HasFinding d vertices simplices (Link k) =
    NoneRepeats simplices × AllGlued simplices × IsLeast (has_wrong_link d simplices) vertices k
HasFinding d vertices simplices (Clean boundary) =
    NoneRepeats simplices × AllGlued simplices × AllLinked d vertices simplices × (boundary ≡ free_face_count simplices)

-- a mesh has one finding, and no other
pub record HasOneFinding (d vertices : ℕ) (simplices : List (List ℕ)) : Type 0 where
  pub found : (finding : Finding) × HasFinding d vertices simplices finding
  pub one : (a b : Finding) → HasFinding d vertices simplices a → HasFinding d vertices simplices b → a ≡ b

-- ---- the finding computed

-- the least number below n that passes a test
abbrev pub least_below : (ℕ → Bool) → ℕ → Option ℕ
least_below test n = find test (numbers n)

-- the finding where the least wrong vertex is known
abbrev pub by_link : List (List ℕ) → Option ℕ → Finding
by_link simplices (Some k) = Link k
by_link simplices None = Clean (free_face_count simplices)

-- the finding at simplex i, of which the least place of a wrong face is known
abbrev pub by_place : List (List ℕ) → ℕ → Option ℕ → Finding
by_place simplices i (Some place) =
    Face i place (face_count simplices (face_at simplices i place)) (face_sum simplices (face_at simplices i place))
by_place simplices i None = Repeat i

-- the finding where the least simplex with a wrong face is known
abbrev pub by_face : ℕ → ℕ → List (List ℕ) → Option ℕ → Finding
by_face d vertices simplices (Some i) = by_place simplices i (least_below (is_wrong_at simplices i) (length (simplex_at simplices i)))
by_face d vertices simplices None = by_link simplices (least_below (has_wrong_link d simplices) vertices)

-- the finding where the least simplex with a repeated number is known
abbrev pub by_repeat : ℕ → ℕ → List (List ℕ) → Option ℕ → Finding
by_repeat d vertices simplices (Some i) = Repeat i
by_repeat d vertices simplices None = by_face d vertices simplices (least_below (has_wrong_face simplices) (length simplices))

-- the finding
abbrev pub finding : ℕ → ℕ → List (List ℕ) → Finding
finding d vertices simplices = by_repeat d vertices simplices (least_below (has_repeat simplices) (length simplices))
