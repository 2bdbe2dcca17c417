use Rattle.std.proofs.Common.{◌≡◌, ◌<◌, ◌^◌, take}
use Rattle.seam_traces.specs.Traces.{places}
use Rattle.seam_traces.proofs.places.places_of.Given as goal

abbrev pub invariant-loop-place : goal.invariant-loop-place
invariant-loop-place l = record { so_far : l.places ≡ places (take l.place l.members) l.set; few : l.places < 2 ^ l.place }
