use Rattle.std.proofs.Common.{◌≡◌, ℕ, ◌<◌, true}
use Rattle.std.specs.Prelude.{slice_index}
use Rattle.lists.specs.Orders.{has}
use Rattle.mesh_laws.specs.Rounds.{ps_of, qs_of}
use Rattle.mesh_laws.proofs.rounds.start_place.Given as goal

abbrev pub invariant-loop-place : goal.invariant-loop-place
invariant-loop-place l = (i : ℕ) → i < l.place → has (qs_of l.corners) (slice_index (ps_of l.corners) i) ≡ true
