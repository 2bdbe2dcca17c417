-- The cells of a volume with the entries of a table, as cells that are to be glued.
use Rattle.std.specs.Prelude.{ℕ, not, ◌&&◌, ◌==◌, nat_lt, List, map, flat_map, find, length, Option, Some, None}
use Rattle.std.specs.List.{position_or_len}
use Rattle.lists.specs.Orders.{numbers}
use Rattle.iso_model.specs.Cells.{edge_count, edge_in_facet, facet_count}
use Rattle.iso_model.specs.Splits.{edge, is_odd_cell}
use Rattle.iso_model.specs.Neighbours.{facet_points}
use Rattle.iso_model.specs.Values.{Volume, cells, label_of}
use Rattle.iso_model.specs.Bipolar.{bipolar_edges, bipolar_edge, is_bipolar, cell_edges, place_in, same_edge}
use Rattle.iso_model.specs.Boundary.{same_points}
use Rattle.iso_model.specs.Tables.{Table, entry_of}
use Rattle.glue_laws.proofs.Pieces.{Pieces}

-- the facets of all kept cells
abbrev pub kept_facets : Volume → List (ℕ × ℕ)
kept_facets v = flat_map (λ d. map (λ g. (d, g)) (numbers (facet_count v.kind (length v.sizes)))) (cells v)

-- another kept cell that has a facet with the points of this one, and that facet
abbrev pub across_of : Volume → ℕ → ℕ → Option (ℕ × ℕ)
across_of v c f =
    find (λ (dg : ℕ × ℕ). not (dg.0 == c) && same_points (facet_points v.kind v.sizes c f) (facet_points v.kind v.sizes dg.0 dg.1)) (kept_facets v)

-- the number in a cell of the edge at a place of the list of bipolar edges
abbrev pub local_of : Volume → ℕ → ℕ → ℕ
local_of v c k = position_or_len (same_edge (bipolar_edge v k)) (cell_edges v c)

-- the number of an edge in the cell across, where there is one
abbrev pub seam_by : Volume → ℕ → ℕ → Option (ℕ × ℕ) → ℕ
seam_by v c e None = e
seam_by v c e (Some dg) = local_of v dg.0 (place_in (bipolar_edges v) (edge v.kind v.sizes c e))

-- the pieces of a volume and a table
abbrev pub pieces_of : Volume → Table → Pieces
pieces_of v t = record {
  cells = cells v;
  entry = λ c. entry_of t (label_of v c);
  is_odd_cell = is_odd_cell v.kind v.sizes;
  place = λ c e. place_in (bipolar_edges v) (edge v.kind v.sizes c e);
  local = local_of v;
  is_bipolar = λ c e. nat_lt e (edge_count v.kind (length v.sizes)) && is_bipolar v (edge v.kind v.sizes c e);
  facets = facet_count v.kind (length v.sizes);
  in_facet = edge_in_facet v.kind (length v.sizes);
  across = across_of v;
  seam = λ c f e. seam_by v c e (across_of v c f);
}
