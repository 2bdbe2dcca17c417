-- The planes of edges that a scan numbers from slice to slice.
use Rattle.std.specs.Prelude.{ℕ, ◌*◌, ◌≡◌, Bool, false, true, List, ℤ}
use Rattle.iso_model.specs.declared.Kind.TheVariants.{Pyramid}
use Rattle.grid_rows.specs.declared.grids.GridRows.{GridRows}
use Rattle.grid_rows.specs.declared.planes.BitPlane.{BitPlane}
use Rattle.grid_rows.specs.declared.planes.EdgePlane.{EdgePlane}
use Rattle.grid_rows.specs.RowNumbers.{bordered_rows, cube_rows, edge_rows}
use Rattle.layer_scan.specs.declared.edges.LayerEdges.{LayerEdges}
use Rattle.layer_scan.specs.declared.scan.LayerPlanes.{LayerPlanes}
use Rattle.layer_scan.specs.Centres.{centre_at}
use Rattle.layer_scan.specs.CubePlanes.{AreCubeBits, HasRows, KeepsBorder}
use Rattle.layer_scan.specs.PlanesOfCentres.{HasThreeAxes, centre_firsts, centre_seconds}
use Rattle.layer_scan.specs.PlanesOfEdges.{firsts_of, seconds_of}
use Rattle.layer_scan.specs.RowsOfEdges.{AreNumberedRows, HasEdgeRows, row_number}

-- the planes have the rows of the grid; pyramids, which are of three dimensions, have those of the centres besides
pub record HasEdges (rows : GridRows) (edges : LayerEdges) : Type 0 where
  pub below : HasEdgeRows (edge_rows rows) rows.words edges.below
  pub lower : HasEdgeRows (edge_rows rows) rows.words edges.lower
  pub upright : HasEdgeRows (edge_rows rows) rows.words edges.upright
  pub three : edges.kind ≡ Pyramid → HasThreeAxes rows
  pub centres : edges.kind ≡ Pyramid → HasRows (bordered_rows rows) rows.words edges.centres
  pub to_lower : edges.kind ≡ Pyramid → HasEdgeRows (2 * cube_rows rows) rows.words edges.to_lower
  pub to_upper : edges.kind ≡ Pyramid → HasEdgeRows (2 * cube_rows rows) rows.words edges.to_upper

-- these rows of a plane have the edges that pass, numbered from a number on, and the next number is that of the edge after them
abbrev pub AreNumberedTo : (ℕ → ℕ → Bool) → (ℕ → ℕ → Bool) → ℕ → ℕ → EdgePlane → ℕ → Type 0
AreNumberedTo firsts seconds count rows plane next =
    AreNumberedRows firsts seconds count rows plane × (next ≡ row_number firsts seconds plane.words count rows)

-- the edges in the lower slice that these kept cubes have are numbered, and nothing else is
pub record NumbersSlice (planes : LayerPlanes) (kept : BitPlane) (old new : LayerEdges) : Type 0 where
  pub lower : AreNumberedTo (firsts_of planes.rows old.kind false planes.lower_signs planes.lower_signs kept)
      (seconds_of planes.rows old.kind false planes.lower_signs planes.lower_signs kept) old.count (edge_rows planes.rows) new.lower new.count
  pub rest : new ≡ record old { lower = new.lower; count = new.count }

-- a plane has the edges from the lower slice to the upper one, numbered from a number on
abbrev pub AreUpright : LayerPlanes → LayerEdges → ℕ → EdgePlane → ℕ → Type 0
AreUpright planes edges count plane next =
    AreNumberedTo (firsts_of planes.rows edges.kind true planes.lower_signs planes.upper_signs planes.kept)
    (seconds_of planes.rows edges.kind true planes.lower_signs planes.upper_signs planes.kept) count (edge_rows planes.rows) plane next

-- a plane has the edges from these corners to these centres of kept cubes, numbered from a number on
abbrev pub AreToCentres : LayerPlanes → BitPlane → BitPlane → ℕ → EdgePlane → ℕ → Type 0
AreToCentres planes centres corners count plane next =
    AreNumberedTo (centre_firsts planes.rows centres corners planes.kept) (centre_seconds planes.rows centres corners planes.kept)
    count (2 * cube_rows planes.rows) plane next

-- the edges from the lower slice to the upper one are numbered, and nothing else is
pub record NumbersUpright (planes : LayerPlanes) (old new : LayerEdges) : Type 0 where
  pub upright : AreUpright planes old old.count new.upright new.count
  pub rest : new ≡ record old { upright = new.upright; count = new.count }

-- the centres of the kept cubes have their signs, and numbered are, in this order, the edges from the lower slice to the centres, those from the
-- lower slice to the upper one, and those from the centres to the upper slice, and nothing else
pub record NumbersPyramids (planes : LayerPlanes) (lower upper : List ℤ) (old new : LayerEdges) : Type 0 where
  pub second : ℕ
  pub third : ℕ
  pub centres : AreCubeBits planes.rows (centre_at planes.rows planes.kept planes.iso lower upper) new.centres
  pub border : KeepsBorder planes.rows old.centres new.centres
  pub to_lower : AreToCentres planes new.centres planes.lower_signs old.count new.to_lower second
  pub upright : AreUpright planes old second new.upright third
  pub to_upper : AreToCentres planes new.centres planes.upper_signs third new.to_upper new.count
  pub rest : new ≡ record old {
    centres = new.centres;
    to_lower = new.to_lower;
    upright = new.upright;
    to_upper = new.to_upper;
    count = new.count;
  }

-- the edges of a grid that has these rows have no number yet
pub record HasNoNumbers (rows : GridRows) (edges : LayerEdges) : Type 0 where
  pub planes : HasEdges rows edges
  pub none : edges.count ≡ 0
