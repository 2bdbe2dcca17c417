use Rattle.std.proofs.Common.{◌≡◌, ◌<◌, ◌≤◌, ◌-◌, ℕ, length}
use Rattle.std.specs.Prelude.{slice_index_or}
use Rattle.mesh_audit.specs.declared.links.Incidence.{Incidence}
use Rattle.mesh_audit.proofs.links.run_end.Given as goal

abbrev pub invariant-loop-end : goal.invariant-loop-end
invariant-loop-end l =
    (l.start < l.end) × (l.end ≤ length l.incidences)
    × ((i : ℕ) (d : Incidence) → l.start ≤ i → i < l.end → (slice_index_or l.incidences i d).vertex ≡ l.vertex)

abbrev pub decreases-loop-end : goal.decreases-loop-end
decreases-loop-end l = length l.incidences - l.end
