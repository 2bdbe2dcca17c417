-- Flags of late vertices, and the numbers that name vertices.
use Rattle.std.specs.Prelude.{◌≡◌, ℕ, ◌<◌, Bool, true, false, ℤ, pos, ◌+ℤ◌, ◌-ℤ◌, ◌*ℤ◌, List, [], ◌∷◌, map, length, slice_index, slice_index_or, All, if◌then◌else◌}
use Rattle.std.specs.Int.{int_div_euclid}
use Rattle.iso_model.specs.Bipolar.{differ}
use Rattle.iso_model.specs.Placed.{placed_tuple}
use Rattle.iso_model.specs.Tables.{Table}
use Rattle.cut_laws.specs.declared.Link.{Link}
use Rattle.cut_laws.specs.Cuts.{coordinate, is_late_position, links_below, triangles_in}
use Rattle.cut_laws.specs.CutSteps.{IsSimplex, is_parted}

-- whether a vertex is late, by the list of flags
abbrev pub late_by : List Bool → ℕ → Bool
late_by flags k = slice_index_or flags k false

-- the numbers name vertices, of which there are n
abbrev pub Name : ℕ → List ℕ → Type 0
Name n ks = All (λ k. k < n) ks

-- each simplex has four different numbers that name vertices
abbrev pub AreSimplices : ℕ → List (List ℕ) → Type 0
AreSimplices n simplices = All (IsSimplex n) simplices

-- tuples of local edges, each replaced by its place, and the last two exchanged where `odd` holds
abbrev pub placed_by : Bool → List ℕ → List (List ℕ) → List (List ℕ)
placed_by odd places tuples = map (placed_tuple odd (λ e. slice_index places e)) tuples

-- a link has its ends among these vertices, and one of them is late at the time and the other is not
pub record IsCrossed (vertices : List (List ℤ)) (time : ℤ) (l : Link) : Type 0 where
  pub low : l.low < length vertices
  pub high : l.high < length vertices
  pub parted : differ (is_late_position time (slice_index_or vertices l.low [])) (is_late_position time (slice_index_or vertices l.high [])) ≡ true

-- in one axis, the coordinate of the point that is a part of the way from p to q, rounded towards minus infinity
abbrev pub coordinate_between : List ℤ → List ℤ → ℕ → ℕ → ℕ → ℤ
coordinate_between p q part way i = coordinate p i +ℤ int_div_euclid ((coordinate q i -ℤ coordinate p i) *ℤ pos part) (pos way)

-- ---- links and triangles by the list of flags

-- the links among as many vertices as there are flags
abbrev pub links_by : List Bool → List (List ℕ) → List Link
links_by flags simplices = links_below (length flags) (late_by flags) simplices

-- a link, where one end is late and the other is not
abbrev pub if_parted : List Bool → Link → List Link
if_parted flags l = if is_parted (late_by flags) l then l ∷ [] else []

-- the triangles in a simplex
abbrev pub triangles_by : List Bool → List Link → Table → List ℕ → List (List ℕ)
triangles_by flags ls cut w = triangles_in (late_by flags) ls cut w
