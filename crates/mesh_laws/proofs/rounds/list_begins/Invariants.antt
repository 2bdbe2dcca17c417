use Rattle.mesh_laws.specs.Rounds.{ps_of, ArePlaced, AreListed}
use Rattle.mesh_laws.proofs.rounds.list_begins.Given as goal

abbrev pub invariant-loop-place : goal.invariant-loop-place
invariant-loop-place l = ArePlaced (ps_of l.corners) l.begins.items × AreListed (ps_of l.corners) l.place l.begins.items
