use Rattle.std.proofs.Common.{◌≡◌, ◌≤◌, ◌*◌, length, take}
use Rattle.table_faults.specs.FaultText.{fault_lines}
use Rattle.table_faults.proofs.put.page_text.Given as goal

-- the lines of the faults so far, each of at most 128 bytes
abbrev pub invariant-loop-fault : goal.invariant-loop-fault
invariant-loop-fault l = record {
  lines : l.text.bytes ≡ fault_lines (take l.fault-index l.faults);
  short : length l.text.bytes ≤ 128 * l.fault-index;
}
