-- What it says that an edge is there at a midpoint: of the samples at its ends, and of the cubes around it.
use Rattle.std.specs.Prelude.{ℕ, ◌*◌, ◌+◌, ◌-◌, ◌/◌, ◌≡◌, ◌==◌, ◌↔◌, Bool, true, false, ◌&&◌, ◌||◌, nat_lt, List, [], ◌∷◌, length, map, flat_map, int_le}
use Rattle.std.specs.List.{list_any}
use Rattle.lists.specs.Members.{In}
use Rattle.iso_model.specs.declared.Kind.{Kind}
use Rattle.iso_model.specs.declared.Kind.TheVariants.{Cube, Simplex, Pyramid}
use Rattle.iso_model.specs.Bipolar.{differ}
use Rattle.iso_model.specs.Turns.{total}
use Rattle.iso_model.specs.Values.{Volume, cube_samples, is_positive, sample_at}
use Rattle.edge_middles.specs.GridMiddles.{is_there, kept_cubes}
use Rattle.edge_middles.specs.HeldMiddles.{holds}
use Rattle.edge_middles.specs.Middles.{axes_along, joins_centre, joins_samples}
use Rattle.edge_middles.specs.RowCounts.{IsRowOfMiddles}

-- ---- cubes by their places

-- a grid of these sizes has a cube at this place
abbrev pub has_cube_at : List ℕ → List ℕ → Bool
has_cube_at [] [] = true
has_cube_at [] (c ∷ x) = false
has_cube_at (n ∷ sizes) [] = false
has_cube_at (n ∷ sizes) (c ∷ x) = nat_lt (c + 1) n && has_cube_at sizes x

-- and it is kept
abbrev pub is_kept_at : Volume → List ℕ → Bool
is_kept_at v x = has_cube_at v.sizes x && v.kept x

-- the kept cubes stand where a cube is kept
abbrev pub StandsWhereKept : Volume → List ℕ → Type 0
StandsWhereKept v x = In x (kept_cubes v) ↔ (is_kept_at v x ≡ true)

-- where the cubes stand, along an axis, that hold a coordinate: on both sides of a sample, and at one place, which is listed twice, between samples
abbrev pub places_around : ℕ → List ℕ
places_around c = ((c + 3) / 4 - 1) ∷ c / 4 ∷ []

-- where the cubes stand that hold a point
abbrev pub cubes_around : List ℕ → List (List ℕ)
cubes_around [] = [] ∷ []
cubes_around (c ∷ middle) = flat_map (λ rest. map (λ x. x ∷ rest) (places_around c)) (cubes_around middle)

-- a kept cube holds a point where one of the cubes around it is kept
abbrev pub IsHeldByKept : Volume → List ℕ → Type 0
IsHeldByKept v middle = length middle ≡ length v.sizes → list_any (λ x. holds x middle) (kept_cubes v) ≡ list_any (is_kept_at v) (cubes_around middle)

-- of the cubes at x along axis 0, one that is around a row of midpoints is kept
abbrev pub is_kept_around : Volume → List ℕ → ℕ → Bool
is_kept_around v rest x = list_any (λ places. is_kept_at v (x ∷ places)) (cubes_around rest)

-- ---- the samples at the ends of an edge

-- the sample at or below a point along each axis, that at or above it, and the corner by it of the cube in which it lies
abbrev pub sample_below : List ℕ → List ℕ
sample_below middle = map (λ c. c / 4) middle

abbrev pub sample_above : List ℕ → List ℕ
sample_above middle = map (λ c. (c + 2) / 4) middle

abbrev pub corner_by : List ℕ → List ℕ
corner_by middle = map (λ c. (c + 1) / 4) middle

-- the sample at x is at least the isovalue
abbrev pub is_above_at : Volume → List ℕ → Bool
is_above_at v x = int_le v.iso (sample_at v.sizes v.samples x)

-- the centre of the cube at x is positive
abbrev pub is_centre_above : Volume → List ℕ → Bool
is_centre_above v x = is_positive v.iso (total (cube_samples v.sizes v.samples x))

-- ---- in a row of midpoints

-- the edges of a split go along the axes of a row alone, or along axis 0 besides
abbrev pub goes_first : Kind → List ℕ → Bool
goes_first Cube rest = axes_along rest == 1
goes_first Simplex rest = nat_lt 0 (axes_along rest)
goes_first Pyramid rest = axes_along rest == 1

abbrev pub goes_second : Kind → List ℕ → Bool
goes_second Cube rest = axes_along rest == 0
goes_second Simplex rest = true
goes_second Pyramid rest = axes_along rest == 0

-- in a row at samples and between them, the first edge at x joins two samples at x, and the cubes at x and at x - 1 have it;
-- the second joins one at x and one at x + 1, and the cubes at x have it
abbrev pub IsThereInRow : Volume → List ℕ → ℕ → Type 0
IsThereInRow v rest x = IsRowOfMiddles v rest → joins_samples rest ≡ true
    → (is_there v (4 * x ∷ rest)
    ≡ (goes_first v.kind rest && (differ (is_above_at v (x ∷ sample_below rest)) (is_above_at v (x ∷ sample_above rest))
    && (is_kept_around v rest x || (nat_lt 0 x && is_kept_around v rest (x - 1))))))
    × (is_there v ((4 * x + 2) ∷ rest)
    ≡ (goes_second v.kind rest && (differ (is_above_at v (x ∷ sample_below rest)) (is_above_at v ((x + 1) ∷ sample_above rest))
    && is_kept_around v rest x)))

-- in a row of edges to centres of pyramids, the first edge at x joins the centre of the cube at x and a corner at x, the second that centre
-- and a corner at x + 1
abbrev pub IsThereAtCentre : Volume → List ℕ → ℕ → Type 0
IsThereAtCentre v rest x = v.kind ≡ Pyramid → IsRowOfMiddles v rest → joins_centre rest ≡ true
    → (is_there v ((4 * x + 1) ∷ rest)
    ≡ (differ (is_centre_above v (x ∷ sample_below rest)) (is_above_at v (x ∷ corner_by rest)) && is_kept_around v rest x))
    × (is_there v ((4 * x + 3) ∷ rest)
    ≡ (differ (is_centre_above v (x ∷ sample_below rest)) (is_above_at v ((x + 1) ∷ corner_by rest)) && is_kept_around v rest x))
