-- Sets of corners and of edges, as numbers by their bits.
use Rattle.std.specs.Prelude.{◌≡◌, ◌<◌, ℕ}
use Rattle.iso_model.specs.declared.Kind.{Kind}
use Rattle.iso_model.specs.Cells.{corner_count, edge_count, corner_in_facet, edge_in_facet}
use Rattle.lists.specs.Bits.{is_set}

-- the set has those corners of a cell that lie in the facet
abbrev pub HasFacetCorners : Kind → ℕ → ℕ → ℕ → Type 0
HasFacetCorners kind d facet set = (k : ℕ) → k < corner_count kind d → is_set set k ≡ corner_in_facet kind facet k

-- the set has those edges of a cell that lie in the facet
abbrev pub HasFacetEdges : Kind → ℕ → ℕ → ℕ → Type 0
HasFacetEdges kind d facet set = (e : ℕ) → e < edge_count kind d → is_set set e ≡ edge_in_facet kind d facet e
