-- The middle axes of a grid: those between axis 0 and the last one.
use Rattle.std.specs.Prelude.{ℕ, ◌+◌, ◌-◌, ◌*◌, ◌^◌, ◌≤◌, ◌≡◌, nat_lt, List, length, slice_index, if◌then◌else◌}
use Rattle.grid_rows.specs.declared.grids.MiddleAxis.{MiddleAxis}

-- an axis of these samples that the grid has: a cube between each two samples that are next to each other
abbrev pub axis_with : ℕ → MiddleAxis
axis_with n = record { samples = n; cubes = n - 1; step = 1 }

-- an axis that the grid lacks: one sample, and one place for cubes
abbrev pub no_axis : MiddleAxis
no_axis = record { samples = 1; cubes = 1; step = 0 }

-- the axis of this number of a grid of these sizes, where it comes before the last one
abbrev pub axis_of : List ℕ → ℕ → MiddleAxis
axis_of sizes axis = if nat_lt axis (length sizes - 1) then axis_with (slice_index sizes axis) else no_axis

-- there is a sample, and no more than a grid has; from each place for cubes a step leads to a sample
abbrev pub IsMiddleAxis : MiddleAxis → Type 0
IsMiddleAxis axis = (1 ≤ axis.samples) × (axis.samples ≤ 2 ^ 27) × (axis.cubes + axis.step ≡ axis.samples) × (axis.step ≤ 1)

-- both are middle axes, and the rows of samples along them are as few as the samples of a grid
abbrev pub AreFewRows : MiddleAxis → MiddleAxis → Type 0
AreFewRows second third = IsMiddleAxis second × IsMiddleAxis third × (second.samples * third.samples ≤ 2 ^ 27)

-- the rows of edges along a middle axis: one at each sample, and one between each two that are next to each other
abbrev pub edge_span : MiddleAxis → ℕ
edge_span axis = 2 * axis.samples - 1
