use Rattle.std.proofs.Common.{◌≡◌, ℕ, ◌<◌, length, slice_index_or, All}
use Rattle.seam_traces.specs.declared.facets.Facet.{Facet}
use Rattle.seam_traces.specs.declared.facets.Seen.TheVariants.{Never}
use Rattle.seam_traces.specs.Kept.{seen_at, IsFacetOf}
use Rattle.seam_traces.proofs.facets.facets_of.Given as goal

abbrev pub invariant-loop-facet : goal.invariant-loop-facet
invariant-loop-facet g l = record {
  count : length l.facets.items ≡ l.facet;
  each : (f : ℕ) (x : Facet) → f < l.facet → IsFacetOf g.C.Cell.KIND g.row.D f (slice_index_or l.facets.items f x);
  never : All (λ (x : Facet). (p : ℕ) → seen_at x p ≡ Never) l.facets.items;
}
