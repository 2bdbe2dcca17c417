use Rattle.std.proofs.Common.{◌-◌, ◌≤◌, length, take}
use Rattle.std.specs.Io.KnownBytes.{Appends}
use Rattle.iso_base.proofs.put.put_all.Given as goal

-- the first `done` bytes were put
abbrev pub invariant-loop-done : goal.invariant-loop-done
invariant-loop-done g l =
    (g.O.Sink.faults l.initial.out ≤ g.O.Sink.faults l.out) × (l.done ≤ length l.bytes)
    × Appends (g.O.Sink.bytes l.initial.out) (g.O.Sink.bytes l.out) (take l.done l.bytes)

abbrev pub decreases-loop-done : goal.decreases-loop-done
decreases-loop-done g l = length l.bytes - l.done
