-- Parts of tallies: counts and sums of faces, of which several may be of one face.
use Rattle.std.specs.Prelude.{◌≡◌, ℕ, zero, suc, ◌+◌, ◌<◌, ◌≤◌, ℤ, pos, ◌+ℤ◌, unsigned_abs, Bool, false, ◌&&◌, ◌==◌, nat_lt, bit_and, List, [], ◌∷◌}
use Rattle.std.specs.Prelude.{◌++◌, map, flat_map, length, sum_by, count_by, slice_index_or, slice_set, All, if◌then◌else◌}
use Rattle.lists.specs.Orders.{numbers, is_distinct}
use Rattle.iso_model.specs.Turns.{total, same_int}
use Rattle.iso_model.specs.Faces.{face_without, sign_without}
use Rattle.face_tallies.specs.declared.faces.FaceTally.{FaceTally}
use Rattle.lists.specs.Bits.{set_number}

-- the face of a tuple without one place, counted once, with its sign
abbrev pub part_at : List ℕ → ℕ → FaceTally
part_at w place = record { edges = set_number (face_without w place); count = 1; sum = sign_without w place }

-- the faces of a tuple, place by place; a tuple with a repeated edge has none
abbrev pub parts_of : List ℕ → List FaceTally
parts_of w = if is_distinct w then map (part_at w) (numbers (length w)) else []

-- the faces of tuples, tuple by tuple
abbrev pub all_parts : List (List ℕ) → List FaceTally
all_parts tuples = flat_map parts_of tuples

-- the count of the parts of a set
abbrev pub count_at : ℕ → List FaceTally → ℕ
count_at set parts = sum_by (λ (t : FaceTally). if t.edges == set then t.count else 0) parts

-- the sum of the parts of a set
abbrev pub sum_at : ℕ → List FaceTally → ℤ
sum_at set parts = total (map (λ (t : FaceTally). if t.edges == set then t.sum else pos 0) parts)

-- the count of all parts
abbrev pub whole_count : List FaceTally → ℕ
whole_count parts = sum_by (λ (t : FaceTally). t.count) parts

-- a part counts something, and its sum is no greater in size than its count
pub record IsWeighed (t : FaceTally) : Type 0 where
  pub some : 0 < t.count
  pub small : unsigned_abs t.sum ≤ t.count

-- two parts of one set as one
abbrev pub joined : FaceTally → FaceTally → FaceTally
joined t part = record { edges = t.edges; count = t.count + part.count; sum = t.sum +ℤ part.sum }

-- the parts after one more, which is joined to the one at a place where that is of the same set, and else stands at the end
abbrev pub put_at : ℕ → FaceTally → List FaceTally → List FaceTally
put_at place part parts =
    if nat_lt place (length parts)
    && ((slice_index_or parts place part).edges == part.edges) then slice_set parts place (joined (slice_index_or parts place part) part) else
    parts
    ++ part ∷ []

-- the new parts have at each set what the old ones and some more have
pub record AddsParts (more old new : List FaceTally) : Type 0 where
  pub count : (set : ℕ) → count_at set new ≡ count_at set old + count_at set more
  pub sum : (set : ℕ) → sum_at set new ≡ sum_at set old +ℤ sum_at set more
  pub whole : whole_count new ≡ whole_count old + whole_count more
  pub weighed : All IsWeighed new

-- what is asked of a face in so many facets: in none, count 2 and sum 0; in one, count 1; in two or more it is refused
abbrev pub is_right_by : ℕ → FaceTally → Bool
is_right_by zero t = t.count == 2 && same_int t.sum (pos 0)
is_right_by (suc zero) t = t.count == 1
is_right_by (suc (suc n)) t = false

-- a face has the count and the sum that are asked in the facets in which it lies
abbrev pub is_right_in : List ℕ → FaceTally → Bool
is_right_in facets t = is_right_by (count_by (λ facet. bit_and t.edges facet == t.edges) facets) t
