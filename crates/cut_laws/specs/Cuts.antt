-- The cut of a mesh of tetrahedra where coordinate 3 of its positions passes a time: a mesh of triangles.
use Rattle.std.specs.Prelude.{◌≡◌, ◌⊎◌, ℕ, ◌^◌, ◌<◌, ◌≤◌, ◌+◌, ◌-◌, Bool, ◌&&◌, ◌==◌, ℤ, pos, ◌+ℤ◌, ◌-ℤ◌, ◌*ℤ◌, unsigned_abs, int_le, List, [], ◌∷◌}
use Rattle.std.specs.Prelude.{map, filter, flat_map, length, slice_index, slice_index_or, sum_by, All, if◌then◌else◌}
use Rattle.std.specs.List.{list_any, position_or_len, range_with_len}
use Rattle.std.specs.Int.{int_div_euclid}
use Rattle.iso_model.specs.declared.Kind.TheVariants.{Simplex}
use Rattle.cut_laws.specs.declared.Link.{Link}
use Rattle.lists.specs.Orders.{numbers, has, sorted, is_odd_order}
use Rattle.iso_model.specs.Cells.{edge_ends}
use Rattle.iso_model.specs.Bipolar.{differ}
use Rattle.iso_model.specs.Crossing.{distance}
use Rattle.iso_model.specs.Tables.{Table, entry_of}
use Rattle.iso_model.specs.Placed.{placed_tuple}
use Rattle.iso_model.specs.Faces.{Mesh, face_without, face_count, face_sum}

-- ---- late vertices

-- coordinate i of a position
abbrev pub coordinate : List ℤ → ℕ → ℤ
coordinate p i = slice_index_or p i (pos 0)

-- the position of vertex k
abbrev pub position_of : Mesh → ℕ → List ℤ
position_of m k = slice_index_or m.vertices k []

-- a position is late: its coordinate 3 is at least the time
abbrev pub is_late_position : ℤ → List ℤ → Bool
is_late_position time p = int_le time (coordinate p 3)

-- vertex k is late
abbrev pub is_late : Mesh → ℤ → ℕ → Bool
is_late m time k = is_late_position time (position_of m k)

-- ---- links

-- all pairs of numbers below n, the smaller one first, in ascending order
abbrev pub pairs : ℕ → List Link
pairs n = flat_map (λ a. map (λ b. record { low = a; high = b }) (range_with_len (a + 1) (n - (a + 1)))) (numbers n)

-- two numbers stand in one of the simplices
abbrev pub stand_together : List (List ℕ) → ℕ → ℕ → Bool
stand_together simplices a b = list_any (λ w. has w a && has w b) simplices

-- a link: two numbers that stand in one simplex, one of which is late and the other is not
abbrev pub is_link : (ℕ → Bool) → List (List ℕ) → Link → Bool
is_link late simplices l = stand_together simplices l.low l.high && differ (late l.low) (late l.high)

-- the links among the numbers below n, in ascending order
abbrev pub links_below : ℕ → (ℕ → Bool) → List (List ℕ) → List Link
links_below n late simplices = filter (is_link late simplices) (pairs n)

-- the links of a mesh at a time
unfoldable pub links : Mesh → ℤ → List Link
links m time = links_below (length m.vertices) (is_late m time) m.simplices

-- two links have the same numbers
abbrev pub same_link : Link → Link → Bool
same_link k l = (k.low == l.low) && (k.high == l.high)

-- the number of a link: its place in the list of links, counted from 0
abbrev pub number_in : List Link → Link → ℕ
number_in ls l = position_or_len (same_link l) ls

-- ---- positions

-- where a link is cut: with P and Q the positions of its ends, s the distance from P's coordinate 3 to the time and t that to Q's coordinate 3,
-- coordinate i is P_i + floor ((Q_i - P_i) s / t), where floor rounds towards minus infinity
abbrev pub position_between : List ℤ → List ℤ → ℤ → List ℤ
position_between p q time =
    let s = distance (coordinate p 3) time in
    let t = distance (coordinate p 3) (coordinate q 3) in
    map (λ i. coordinate p i +ℤ int_div_euclid ((coordinate q i -ℤ coordinate p i) *ℤ s) t) (numbers 3)

-- the position of the vertex on a link
abbrev pub position_on : List (List ℤ) → ℤ → Link → List ℤ
position_on vertices time l = position_between (slice_index_or vertices l.low []) (slice_index_or vertices l.high []) time

-- ---- triangles

-- the label of four corners: bit k is set where corner k is late
abbrev pub label_of : (ℕ → Bool) → List ℕ → ℕ
label_of late corners = sum_by (λ k. if late (slice_index corners k) then 2 ^ k else 0) (numbers 4)

-- local edge e of four corners, as a pair
abbrev pub edge_of : List ℕ → ℕ → Link
edge_of corners e = record { low = slice_index corners (edge_ends Simplex 3 e).0; high = slice_index corners (edge_ends Simplex 3 e).1 }

-- the corners of a tetrahedron are its numbers in ascending order: its label, and its local edge e
abbrev pub late_label : (ℕ → Bool) → List ℕ → ℕ
late_label late w = label_of late (sorted w)

abbrev pub link_at : List ℕ → ℕ → Link
link_at w e = edge_of (sorted w) e

-- the triangles in a tetrahedron: the tuples of the entry of its label, each local edge replaced by the number of its link, and the last two places
-- exchanged where the sorting is odd
abbrev pub triangles_in : (ℕ → Bool) → List Link → Table → List ℕ → List (List ℕ)
triangles_in late ls cut w = map (placed_tuple (is_odd_order w) (λ e. number_in ls (link_at w e))) (entry_of cut (late_label late w))

-- the cut of a mesh by a table at a time: a vertex on each link, in the order of the links, and simplex after simplex its triangles
unfoldable pub cut_of : Mesh → Table → ℤ → Mesh
cut_of m cut time =
    record {
      vertices = map (position_on m.vertices time) (links m time);
      simplices = flat_map (triangles_in (is_late m time) (links m time) cut) m.simplices;
    }

-- ---- which meshes are cut

-- a number is at most 2^52 in size
abbrev pub IsModerate : ℤ → Type 0
IsModerate c = unsigned_abs c ≤ 2 ^ 52

-- no two simplices have the same numbers
abbrev pub AreDifferent : List (List ℕ) → Type 0
AreDifferent simplices = (i j : ℕ) → i < length simplices → j < length simplices
    → sorted (slice_index_or simplices i []) ≡ sorted (slice_index_or simplices j []) → i ≡ j

-- a face has count 1, or count 2 and sum 0
abbrev pub IsGlued : List (List ℕ) → List ℕ → Type 0
IsGlued simplices face = (face_count simplices face ≡ 1) ⊎ ((face_count simplices face ≡ 2) × (face_sum simplices face ≡ pos 0))

-- each face of each simplex does
abbrev pub AreGlued : List (List ℕ) → Type 0
AreGlued simplices = All (λ w. (i : ℕ) → i < length w → IsGlued simplices (face_without w i)) simplices

-- ---- the faces of the cut

-- the members of a list, each once
abbrev pub without_repeats : List ℕ → List ℕ
without_repeats [] = []
without_repeats (x ∷ xs) = if has xs x then without_repeats xs else x ∷ without_repeats xs

-- the two ends of a link, by its number
abbrev pub ends_of : List Link → ℕ → List ℕ
ends_of ls k = let l = slice_index_or ls k (record { low = 0; high = 0 }) in l.low ∷ l.high ∷ []

-- the span of vertices of the cut: the ends of their links, each once, in ascending order
abbrev pub span : List Link → List ℕ → List ℕ
span ls face = sorted (without_repeats (flat_map (ends_of ls) face))

-- the span of a face of the cut is a face of the mesh with count 1
abbrev pub IsFreeSpan : Mesh → ℤ → List ℕ → Type 0
IsFreeSpan m time face = face_count m.simplices (span (links m time) face) ≡ 1

-- the triangles are glued: a face of a triangle has count 1 where its span is a face of the mesh with count 1, and count 2 and sum 0 everywhere else
pub record IsCutGlued (m : Mesh) (time : ℤ) (triangles : List (List ℕ)) : Type 0 where
  pub free : All (λ w. (i : ℕ) → i < length w → IsFreeSpan m time (face_without w i) → face_count triangles (face_without w i) ≡ 1) triangles
  pub inner : All (λ w. (i : ℕ) → i < length w → ¬ IsFreeSpan m time (face_without w i)
      → (face_count triangles (face_without w i) ≡ 2) × (face_sum triangles (face_without w i) ≡ pos 0)) triangles
