-- The vertices on the edges of a row, in their order, by the bits of its words.
use Rattle.std.specs.Prelude.{ℕ, ◌+◌, ◌*◌, ◌<◌, ◌≤◌, ◌^◌, ◌≡◌, Bool, true, List, [], ◌∷◌, ◌++◌, drop, length, flat_map, slice_index_or, if◌then◌else◌}
use Rattle.std.specs.Prelude.{All, ℤ, pos, ◌+ℤ◌, ◌*ℤ◌, int_le, unsigned_abs}
use Rattle.lists.specs.Bits.{is_set}
use Rattle.lists.specs.Orders.{numbers}
use Rattle.iso_model.specs.Bipolar.{differ}
use Rattle.iso_model.specs.Crossing.{crossing}
use Rattle.iso_model.specs.Turns.{total}
use Rattle.iso_model.specs.Values.{is_positive}
use Rattle.edge_middles.specs.MiddleVertices.{centre_end, corner_end, million_share, point_along}
use Rattle.edge_vertex.specs.Sums.{AreSmall, sample}
use Rattle.grid_rows.specs.declared.planes.EdgeWord.{EdgeWord}
use Rattle.grid_rows.specs.Planes.{no_edge}
use Rattle.layer_scan.specs.Centres.{four_samples}
use Rattle.layer_mesh.specs.declared.ends.CentreEnds.{CentreEnds}
use Rattle.layer_mesh.specs.declared.ends.SampleEnds.{SampleEnds}
use Rattle.layer_mesh.specs.declared.rows.RowEnds.{RowEnds}
use Rattle.layer_mesh.specs.declared.rows.RowEnds.TheVariants.{Centres, Samples}

-- the midpoint of a row that has this coordinate along axis 0
abbrev pub middle_in : List ℕ → ℕ → List ℕ
middle_in row c = c ∷ drop 1 row

-- ---- an edge that joins samples

-- the vertex on the edge from the near sample at x to the far sample at y, with this first coordinate of its midpoint
abbrev pub sample_vertex : {D : ℕ} → SampleEnds D → ℕ → ℕ → ℕ → List ℤ
sample_vertex ends c x y = point_along (middle_in ends.row c) (million_share (sample ends.near.now x) (sample ends.far.now y) ends.iso)

-- there are samples at x in the near row and at y in the far row, and one of them is at least the isovalue and the other below it
abbrev pub DifferAlong : {D : ℕ} → SampleEnds D → ℕ → ℕ → Type 0
DifferAlong ends x y = (x < length ends.near.now) × (y < length ends.far.now)
    × (differ (int_le ends.iso (sample ends.near.now x)) (int_le ends.iso (sample ends.far.now y)) ≡ true)

-- the row has an axis, is no longer than a grid, and its samples are small
abbrev pub AreSoundSamples : {D : ℕ} → SampleEnds D → Type 0
AreSoundSamples ends = (1 ≤ length ends.row) × (length ends.near.now ≤ 2 ^ 27) × AreSmall ends.near.now × AreSmall ends.far.now

-- ---- an edge between a centre and a corner

-- the sum of the eight samples of the cube at x
abbrev pub centre_sum : {D : ℕ} → CentreEnds D → ℕ → ℤ
centre_sum ends x =
    total (four_samples ends.lower.now (ends.near + x) (ends.far + x)) +ℤ total (four_samples ends.upper.now (ends.near + x) (ends.far + x))

-- the vertex on the edge between a corner and a centre at a midpoint: the corner comes first where it lies below the centre
abbrev pub centre_crossing : Bool → List ℕ → ℤ → ℤ → ℤ → List ℤ
centre_crossing above middle corner sum iso =
    if above then crossing (record { low = centre_end middle; high = corner_end middle }) sum (pos 8 *ℤ corner) iso
    else crossing (record { low = corner_end middle; high = centre_end middle }) (pos 8 *ℤ corner) sum iso

-- the vertex on the edge between the centre of the cube at x and the corner at y, with this first coordinate of its midpoint
abbrev pub centre_vertex : {D : ℕ} → CentreEnds D → ℕ → ℕ → ℕ → List ℤ
centre_vertex ends c x y = centre_crossing ends.above (middle_in ends.row c) (sample ends.corners.now y) (centre_sum ends x) ends.iso

-- the samples of the cube at x are in the slices
abbrev pub HoldsCube : {D : ℕ} → CentreEnds D → ℕ → Type 0
HoldsCube ends x = (ends.near + x + 1 < length ends.lower.now) × (ends.far + x + 1 < length ends.lower.now)

-- there are a cube at x and a corner at y, and one of the centre and the corner is positive and the other is not
abbrev pub DifferToCentre : {D : ℕ} → CentreEnds D → ℕ → ℕ → Type 0
DifferToCentre ends x y = HoldsCube ends x × (y < length ends.corners.now)
    × (differ (is_positive ends.iso (centre_sum ends x)) (int_le ends.iso (sample ends.corners.now y)) ≡ true)

-- the row has an axis and its coordinates are no greater than those of a grid, there are as many samples in both slices, and all numbers are small
pub record AreSoundCentres {D : ℕ} (ends : CentreEnds D) : Type 0 where
  pub axes : 1 ≤ length ends.row
  pub few : All (λ c. c ≤ 2 ^ 30) ends.row
  pub short : length ends.corners.now ≤ 2 ^ 27
  pub same_length : length ends.upper.now ≡ length ends.lower.now
  pub corners_small : AreSmall ends.corners.now
  pub lower_small : AreSmall ends.lower.now
  pub upper_small : AreSmall ends.upper.now
  pub iso_small : unsigned_abs ends.iso ≤ 2 ^ 40

-- ---- one place of a row

-- the vertex on the first edge at x: from the near row to the far row, or from the centre at x to the corner there
abbrev pub first_vertex : {D : ℕ} → RowEnds D → ℕ → List ℤ
first_vertex (Samples ends) x = sample_vertex ends (4 * x) x x
first_vertex (Centres ends) x = centre_vertex ends (4 * x + 1) x x

-- and on the second, which goes on to x + 1
abbrev pub second_vertex : {D : ℕ} → RowEnds D → ℕ → List ℤ
second_vertex (Samples ends) x = sample_vertex ends (4 * x + 2) x (x + 1)
second_vertex (Centres ends) x = centre_vertex ends (4 * x + 3) x (x + 1)

-- the first edge at x is crossed
abbrev pub IsFirstCrossed : {D : ℕ} → RowEnds D → ℕ → Type 0
IsFirstCrossed (Samples ends) x = DifferAlong ends x x
IsFirstCrossed (Centres ends) x = DifferToCentre ends x x

-- the second edge at x is crossed
abbrev pub IsSecondCrossed : {D : ℕ} → RowEnds D → ℕ → Type 0
IsSecondCrossed (Samples ends) x = DifferAlong ends x (x + 1)
IsSecondCrossed (Centres ends) x = DifferToCentre ends x (x + 1)

-- the numbers of the row are those of a grid
abbrev pub IsSoundRow : {D : ℕ} → RowEnds D → Type 0
IsSoundRow (Samples ends) = AreSoundSamples ends
IsSoundRow (Centres ends) = AreSoundCentres ends

-- ---- the words of a row

-- something, where a test holds
abbrev pub one_if : {X : Type 0} → Bool → X → List X
one_if test x = if test then x ∷ [] else []

-- the vertices at place k of word w
abbrev pub place_vertices : {D : ℕ} → RowEnds D → ℕ → EdgeWord → ℕ → List (List ℤ)
place_vertices ends w word k =
    one_if (is_set word.first k) (first_vertex ends (64 * w + k)) ++ one_if (is_set word.second k) (second_vertex ends (64 * w + k))

-- the edges whose bits are set in word w are crossed
abbrev pub IsCrossedWord : {D : ℕ} → RowEnds D → ℕ → EdgeWord → Type 0
IsCrossedWord ends w word = (k : ℕ) → k < 64
    → (is_set word.first k ≡ true → IsFirstCrossed ends (64 * w + k)) × (is_set word.second k ≡ true → IsSecondCrossed ends (64 * w + k))

-- the vertices of word w, place by place
unfoldable pub word_vertices : {D : ℕ} → RowEnds D → ℕ → EdgeWord → List (List ℤ)
word_vertices ends w word = flat_map (place_vertices ends w word) (numbers 64)

-- of a row, word by word
abbrev pub row_vertices : {D : ℕ} → RowEnds D → List EdgeWord → List (List ℤ)
row_vertices ends row = flat_map (λ w. word_vertices ends w (slice_index_or row w no_edge)) (numbers (length row))

-- all edges of a row are crossed
abbrev pub IsCrossedRow : {D : ℕ} → RowEnds D → List EdgeWord → Type 0
IsCrossedRow ends row = (w : ℕ) → w < length row → IsCrossedWord ends w (slice_index_or row w no_edge)
