-- What is put to the output.
use Rattle.std.proofs.Common.{ℕ, List, Option}
use Rattle.iso_cli.specs.declared.status.Status.{Status}
use Rattle.iso_cli.specs.declared.status.Status.TheVariants as Statuses
use Rattle.iso_cli.specs.Outputs.{LeavesOutput, PutsText}

-- ---- kinds of statuses

-- ---- the output

puts_map : (A B : List ℕ → Type 0) → ((text : List ℕ) → A text → B text) → (status : Status) (old new : Option (List ℕ)) → PutsText A status old new
    → PutsText B status old new
puts_map A B go Statuses.Done old new put = (put.0, go put.0 put.1, put.2)
puts_map A B go (Statuses.WriteFault count) old new put = (put.0, go put.0 put.1, put.2)
puts_map A B go _ old new put = tt

-- a text that is right in one way is right in another
pub output_map : {O : Type 0} (faults : O → ℕ) (bytes : O → Option (List ℕ)) (A B : List ℕ → Type 0) → ((text : List ℕ) → A text → B text)
    → (status : Status) (old new : O)
    → LeavesOutput faults bytes A status old new → LeavesOutput faults bytes B status old new
output_map faults bytes A B go status old new leaves = record {
  later = leaves.later;
  blamed = leaves.blamed;
  refused = leaves.refused;
  put = puts_map A B go status (bytes old) (bytes new) leaves.put;
}
