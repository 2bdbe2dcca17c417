-- What is told of a cell of a grid, to put its simplices.
use Rattle.std.specs.Prelude.{ℕ, ◌<◌, ◌≡◌, true, Bool, List, length, slice_index, Contains}
use Rattle.iso_model.specs.Bipolar.{is_bipolar_in}
use Rattle.iso_model.specs.Cells.{HasDimension, edge_count}
use Rattle.iso_model.specs.Splits.{edge, is_odd_cell, midpoint}
use Rattle.iso_model.specs.Tables.{Table}
use Rattle.iso_model.specs.Values.{Volume, cells, label_of}
use Rattle.edge_middles.specs.GridMiddles.{count_before}
use Rattle.edge_middles.specs.MeshMiddles.{HasBipolarEntry}

-- the cell is a kept one of a grid of d axes, the table is one of its kind, and the entry of its label has bipolar edges alone; the label is the
-- cell's, and it is told whether the cell is odd; and each edge that is bipolar in the label has its number: that of the midpoints before its own
pub record TellsCell (v : Volume) (cell d : ℕ) (t : Table) (label : ℕ) (numbers : List ℕ) (odd : Bool) : Type 0 where
  pub fits : HasDimension v.kind (length v.sizes)
  pub axes : length v.sizes ≡ d
  pub kind : t.kind ≡ v.kind
  pub inside : Contains (cells v) cell
  pub entry : HasBipolarEntry v t cell
  pub own_label : label ≡ label_of v cell
  pub own_sign : odd ≡ is_odd_cell v.kind v.sizes cell
  pub counted : (e : ℕ) → e < edge_count v.kind (length v.sizes) → is_bipolar_in v.kind (length v.sizes) label e ≡ true
      → slice_index numbers e ≡ count_before v (midpoint (edge v.kind v.sizes cell e))
