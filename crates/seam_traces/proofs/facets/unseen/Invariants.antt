use Rattle.std.proofs.Common.{◌≡◌, ℕ, length, slice_index_or}
use Rattle.seam_traces.specs.declared.facets.Seen.TheVariants.{Never}
use Rattle.seam_traces.proofs.facets.unseen.Given as goal

abbrev pub invariant-loop : goal.invariant-loop
invariant-loop l = record { len : length l.seen.items ≡ l.counter; never : (p : ℕ) → slice_index_or l.seen.items p Never ≡ Never }
