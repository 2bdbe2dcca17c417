use Rattle.std.proofs.Common.{◌≡◌, ℕ, ◌<◌, ◌≤◌, length, slice_index_or}
use Rattle.seam_traces.specs.declared.facets.Facet.{Facet}
use Rattle.seam_traces.specs.Kept.{TakesLabel}
use Rattle.seam_traces.proofs.facets.add_label.Given as goal

abbrev pub invariant-loop-facet : goal.invariant-loop-facet
invariant-loop-facet l = record {
  count : length l.facets ≡ length l.initial.facets;
  taken : (f : ℕ) (x : Facet) → f < l.facet-index → TakesLabel l.label l.tallies (slice_index_or l.initial.facets f x) (slice_index_or l.facets f x);
  left : (f : ℕ) (x : Facet) → l.facet-index ≤ f → slice_index_or l.facets f x ≡ slice_index_or l.initial.facets f x;
}
