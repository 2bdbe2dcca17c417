-- Where the edge at a midpoint is crossed, by the samples at its ends.
use Rattle.std.specs.Prelude.{ℕ, suc, ◌*◌, ◌+◌, ◌/◌, ◌%◌, ◌==◌, ◌≡◌, true, List, length, map, ℤ, pos, ◌*ℤ◌, ◌-ℤ◌, nat_abs, slice_index, if◌then◌else◌}
use Rattle.iso_model.specs.Crossing.{crossing, vertex_of}
use Rattle.iso_model.specs.Turns.{total}
use Rattle.iso_model.specs.Values.{Volume, cube_samples, sample_at}
use Rattle.edge_middles.specs.Middles.{edge_at, joins_centre, joins_samples}
use Rattle.edge_middles.specs.WhatIsThere.{corner_by, sample_above, sample_below}

-- the part of the way from one sample to another at which the isovalue is met, in millionths, rounded down
abbrev pub million_share : ℤ → ℤ → ℤ → ℕ
million_share low high iso = 1000000 * nat_abs (iso -ℤ low) / nat_abs (high -ℤ low)

-- a point that is this share of the way along an edge between samples, in millionths of a step from sample to sample: along each axis where
-- the lower end is, and the share beyond it where the edge goes along the axis
abbrev pub point_along : List ℕ → ℕ → List ℤ
point_along middle share = map (λ c. pos (1000000 * (c / 4) + (if c % 4 == 2 then share else 0))) middle

-- the vertex on the edge at a midpoint between samples is the point at the share of these samples
abbrev pub HasVertexAlong : Volume → List ℕ → Type 0
HasVertexAlong v middle = joins_samples middle ≡ true → vertex_of v (edge_at middle) ≡ point_along middle
    (million_share (sample_at v.sizes v.samples (sample_below middle)) (sample_at v.sizes v.samples (sample_above middle)) v.iso)

-- ---- edges to centres

-- the two ends of an edge to a centre
abbrev pub corner_end : List ℕ → List ℕ
corner_end middle = map (λ c. 2 * ((c + 1) / 4)) middle

abbrev pub centre_end : List ℕ → List ℕ
centre_end middle = map (λ c. 2 * (c / 4) + 1) middle

-- their values
abbrev pub corner_value : Volume → List ℕ → ℤ
corner_value v middle = pos 8 *ℤ sample_at v.sizes v.samples (corner_by middle)

abbrev pub centre_value : Volume → List ℕ → ℤ
centre_value v middle = total (cube_samples v.sizes v.samples (sample_below middle))

-- the corner comes first where it lies in the slice below the centre, and the centre where the corner lies in the slice above
abbrev pub HasVertexToCentre : Volume → List ℕ → ℕ → Type 0
HasVertexToCentre v middle last = joins_centre middle ≡ true → length middle ≡ suc last
    → (slice_index middle last % 4 ≡ 1 → vertex_of v (edge_at middle)
    ≡ crossing (record { low = corner_end middle; high = centre_end middle }) (corner_value v middle) (centre_value v middle) v.iso)
    × (slice_index middle last % 4 ≡ 3 → vertex_of v (edge_at middle)
    ≡ crossing (record { low = centre_end middle; high = corner_end middle }) (centre_value v middle) (corner_value v middle) v.iso)
