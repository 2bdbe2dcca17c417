use Rattle.std.proofs.Common.{◌-◌, ◌≤◌, length, take}
use Rattle.std.specs.Io.KnownBytes.{Appends}
use Rattle.table_faults.specs.FaultText.{fault_lines}
use Rattle.table_faults.proofs.put.put_faults.Given as goal

-- the lines of the first `done` faults were put
abbrev pub invariant-loop-done : goal.invariant-loop-done
invariant-loop-done g l = record {
  later : g.O.Sink.faults l.initial.out ≤ g.O.Sink.faults l.out;
  within : l.done ≤ length l.faults;
  put : Appends (g.O.Sink.bytes l.initial.out) (g.O.Sink.bytes l.out) (fault_lines (take l.done l.faults));
}

abbrev pub decreases-loop-done : goal.decreases-loop-done
decreases-loop-done g l = length l.faults - l.done
