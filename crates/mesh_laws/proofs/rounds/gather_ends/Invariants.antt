use Rattle.std.proofs.Common.{◌≡◌, take}
use Rattle.mesh_laws.specs.Rounds.{qs_of}
use Rattle.mesh_laws.proofs.rounds.gather_ends.Given as goal

abbrev pub invariant-loop-corner : goal.invariant-loop-corner
invariant-loop-corner l = l.ends.items ≡ qs_of (take l.corner-index l.corners)
