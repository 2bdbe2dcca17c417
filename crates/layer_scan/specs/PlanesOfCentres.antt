-- Planes of edges between the centres of the cubes of a layer and their corners in the slice on one side of it, in three dimensions.
-- Each row of cubes has two rows of edges: to its corners in a row of samples, and to those in the next one.
use Rattle.std.specs.Prelude.{ℕ, ◌/◌, ◌≡◌, Bool}
use Rattle.grid_rows.specs.declared.grids.GridRows.{GridRows}
use Rattle.grid_rows.specs.declared.planes.BitPlane.{BitPlane}
use Rattle.grid_rows.specs.MiddleAxes.{no_axis}
use Rattle.grid_rows.specs.Planes.{bit_row}
use Rattle.grid_rows.specs.RowNumbers.{upper_half}
use Rattle.layer_scan.specs.declared.centre_numbers.CentreSigns.{CentreSigns}
use Rattle.layer_scan.specs.CubePlanes.{with_border}
use Rattle.layer_scan.specs.RowsOfEdges.{first_to_corner, second_to_corner}

-- the grid has one middle axis, so three axes
abbrev pub HasThreeAxes : GridRows → Type 0
HasThreeAxes rows = (rows.second.step ≡ 1) × (rows.third ≡ no_axis)

-- the first and the second edge at x of row n of a plane, by the signs of the centres and of the corners, and the kept cubes
abbrev pub centre_firsts : GridRows → BitPlane → BitPlane → BitPlane → ℕ → ℕ → Bool
centre_firsts rows centres corners kept n =
    let c = with_border rows (n / 2) in
    first_to_corner (bit_row centres c) (bit_row corners (upper_half n)) (bit_row kept c)

abbrev pub centre_seconds : GridRows → BitPlane → BitPlane → BitPlane → ℕ → ℕ → Bool
centre_seconds rows centres corners kept n =
    let c = with_border rows (n / 2) in
    second_to_corner (bit_row centres c) (bit_row corners (upper_half n)) (bit_row kept c)

-- the same by the signs that are handed over
abbrev pub firsts_to : GridRows → CentreSigns → ℕ → ℕ → Bool
firsts_to rows signs n = centre_firsts rows signs.centres.now signs.corners.now signs.kept.now n

abbrev pub seconds_to : GridRows → CentreSigns → ℕ → ℕ → Bool
seconds_to rows signs n = centre_seconds rows signs.centres.now signs.corners.now signs.kept.now n
