-- Planes of edges that join samples: which edges each row has.
use Rattle.std.specs.Prelude.{ℕ, ◌+◌, ◌/◌, ◌%◌, ◌==◌, Bool, [], ◌∷◌, map}
use Rattle.iso_model.specs.declared.Kind.{Kind}
use Rattle.grid_rows.specs.declared.grids.EdgeRow.{EdgeRow}
use Rattle.grid_rows.specs.declared.grids.GridRows.{GridRows}
use Rattle.grid_rows.specs.declared.planes.BitPlane.{BitPlane}
use Rattle.grid_rows.specs.MiddleAxes.{edge_span}
use Rattle.grid_rows.specs.Planes.{bit_row}
use Rattle.grid_rows.specs.RowNumbers.{cubes_around, sample_row, upper_half}
use Rattle.layer_scan.specs.declared.numbers.EdgeSigns.{EdgeSigns}
use Rattle.layer_scan.specs.Directions.{axes_of, goes_along}
use Rattle.layer_scan.specs.RowsOfEdges.{first_edge, second_edge}

-- the row of edges at i and j along the middle axes, in half steps
abbrev pub edge_row_at : GridRows → ℕ → ℕ → EdgeRow
edge_row_at rows i j = record {
  near = sample_row rows (i / 2) (j / 2);
  far = sample_row rows (upper_half i) (upper_half j);
  along = (i % 2 == 1) ∷ (j % 2 == 1) ∷ [];
  cubes = cubes_around rows i j;
}

-- the row of edges of this number
abbrev pub edge_row_of : GridRows → ℕ → EdgeRow
edge_row_of rows n = edge_row_at rows (n % edge_span rows.second) (n / edge_span rows.second)

-- the first and the second edge at x of a row, by the split, whether the edges go from slice to slice, the signs of the samples at their near
-- and at their far ends, and the kept cubes around them
abbrev pub first_by : Kind → Bool → BitPlane → BitPlane → BitPlane → EdgeRow → ℕ → Bool
first_by kind upright near far kept row = first_edge (goes_along kind (axes_of row.along upright))
    (bit_row near row.near) (bit_row far row.far) (map (bit_row kept) row.cubes)

abbrev pub second_by : Kind → Bool → BitPlane → BitPlane → BitPlane → EdgeRow → ℕ → Bool
second_by kind upright near far kept row = second_edge (goes_along kind (axes_of row.along upright + 1))
    (bit_row near row.near) (bit_row far row.far) (map (bit_row kept) row.cubes)

-- those of row n of a plane
abbrev pub firsts_of : GridRows → Kind → Bool → BitPlane → BitPlane → BitPlane → ℕ → ℕ → Bool
firsts_of rows kind upright near far kept n = first_by kind upright near far kept (edge_row_of rows n)

abbrev pub seconds_of : GridRows → Kind → Bool → BitPlane → BitPlane → BitPlane → ℕ → ℕ → Bool
seconds_of rows kind upright near far kept n = second_by kind upright near far kept (edge_row_of rows n)

-- the same by the signs that are handed over
abbrev pub first_in : EdgeSigns → EdgeRow → ℕ → Bool
first_in signs row = first_by signs.kind signs.upright signs.near.now signs.far.now signs.kept.now row

abbrev pub second_in : EdgeSigns → EdgeRow → ℕ → Bool
second_in signs row = second_by signs.kind signs.upright signs.near.now signs.far.now signs.kept.now row

abbrev pub firsts : GridRows → EdgeSigns → ℕ → ℕ → Bool
firsts rows signs n = first_in signs (edge_row_of rows n)

abbrev pub seconds : GridRows → EdgeSigns → ℕ → ℕ → Bool
seconds rows signs n = second_in signs (edge_row_of rows n)
