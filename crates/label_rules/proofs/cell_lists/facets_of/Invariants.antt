use Rattle.std.proofs.Common.{◌≡◌, ℕ, ◌<◌, slice_index, length}
use Rattle.iso_model.specs.Cells.{edge_in_facet}
use Rattle.lists.specs.Bits.{is_set}
use Rattle.label_rules.proofs.cell_lists.facets_of.Given as goal

-- the facets so far
abbrev pub invariant-loop-facet : goal.invariant-loop-facet
invariant-loop-facet g l = record {
  all : length l.facets ≡ 8;
  same : (f e : ℕ) → f < l.facet → e < g.C.Cell.EDGES → is_set (slice_index l.facets f) e ≡ edge_in_facet g.C.Cell.KIND g.row.D f e;
}
