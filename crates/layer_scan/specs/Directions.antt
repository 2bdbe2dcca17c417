-- Along how many axes the edges of a row go, and which of them a split has.
use Rattle.std.specs.Prelude.{ℕ, ◌+◌, Bool, false, ◌==◌, nat_lt, List, slice_index_or, if◌then◌else◌}
use Rattle.iso_model.specs.declared.Kind.{Kind}
use Rattle.iso_model.specs.declared.Kind.TheVariants.{Cube, Simplex, Pyramid}

-- an edge of a split that joins samples goes along one axis, and that of a simplex along one or more
abbrev pub goes_along : Kind → ℕ → Bool
goes_along Cube axes = axes == 1
goes_along Simplex axes = nat_lt 0 axes
goes_along Pyramid axes = axes == 1

abbrev pub one : Bool → ℕ
one along = if along then 1 else 0

-- along how many axes but axis 0 the edges of a row go: along these of the two middle axes, and upright from slice to slice
abbrev pub axes_of : List Bool → Bool → ℕ
axes_of along upright = one (slice_index_or along 0 false) + one (slice_index_or along 1 false) + one upright
