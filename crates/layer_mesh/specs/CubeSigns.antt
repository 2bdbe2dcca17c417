-- Words of the signs at the points of a row of cubes.
use Rattle.std.specs.Prelude.{ℕ, ◌<◌, ◌≤◌, ◌^◌, ◌≡◌, slice_index}
use Rattle.iso_model.specs.declared.Kind.TheVariants.{Pyramid}
use Rattle.bit_rows.specs.Rows.{IsWordOf}
use Rattle.layer_scan.specs.declared.edges.LayerEdges.{LayerEdges}
use Rattle.layer_scan.specs.declared.scan.LayerPlanes.{LayerPlanes}
use Rattle.layer_scan.specs.CubePlanes.{corner_rows, with_border}
use Rattle.layer_mesh.specs.declared.signs.PointRows.{PointRows}
use Rattle.layer_mesh.specs.declared.signs.SignWords.{SignWords}
use Rattle.layer_mesh.specs.PointSigns.{centre_sign, corner_sign}

-- there is a word for each corner, and in pyramids one for the centres behind them
pub record AreSignWords (d : ℕ) (rows : PointRows) (w : ℕ) (signs : SignWords) : Type 0 where
  pub count : 2 ^ d ≤ signs.count
  pub corners : (k : ℕ) → k < 2 ^ d → IsWordOf (corner_sign d rows k) w (slice_index signs.words k)
  pub centre : rows.kind ≡ Pyramid → (8 < signs.count) × IsWordOf (centre_sign rows) w (slice_index signs.words 8)

-- the rows of signs are those of row c of the layer below the lower slice of a scan
pub record ArePointsOf (planes : LayerPlanes) (edges : LayerEdges) (c : ℕ) (points : PointRows) : Type 0 where
  pub kind : points.kind ≡ edges.kind
  pub lower : points.lower.now ≡ planes.below_signs
  pub upper : points.upper.now ≡ planes.lower_signs
  pub centres : points.centres.now ≡ edges.centres
  pub number : points.row.number ≡ with_border planes.rows c
  pub corners : points.row.corners ≡ corner_rows planes.rows c

-- the words are those of the signs in these rows
abbrev pub AreSignsOfRow : ℕ → LayerPlanes → LayerEdges → ℕ → ℕ → SignWords → Type 0
AreSignsOfRow d planes edges c w signs = (points : PointRows) × ArePointsOf planes edges c points × AreSignWords d points w signs
