-- The faults of a table: the labels that fail a rule, each with the least rule that it fails.
use Rattle.std.specs.Prelude.{◌≡◌, ◌≢◌, ℕ, ◌<◌, ◌≤◌, List, map, Option, MatchOption, All, Contains}
use Rattle.iso_model.specs.Cells.{label_count}
use Rattle.iso_model.specs.Seams.{Seam, seams}
use Rattle.iso_model.specs.Tables.{Table}
use Rattle.iso_model.specs.Acceptance.{KeepsOver}
use Rattle.lists.specs.Members.{Ascends}
use Rattle.seam_traces.specs.declared.clashes.Clash.{Clash}
use Rattle.seam_traces.specs.Clashes.{IsFirstClash}
use Rattle.table_check.specs.Verdicts.{KeepsAll, FailsFirst}
use Rattle.table_faults.specs.declared.faults.Fault.{Fault}

-- a clash is said exactly where the rule is that of seams, and it is the label's first one over these seams
abbrev pub TellsRuleClash : List Seam → Table → ℕ → ℕ → Option Clash → Type 0
TellsRuleClash ss t label rule clash = MatchOption clash (rule ≢ 6) (λ c. (rule ≡ 6) × IsFirstClash ss t label c)

-- a fault of a table over these seams: a label of it that fails a rule, the least rule that it fails, and its first clash where this is the rule of seams
pub record IsFault (ss : List Seam) (t : Table) (fault : Fault) : Type 0 where
  pub is_label : fault.label < label_count t.kind t.dimension
  pub fails_first : FailsFirst ss t fault.label fault.rule
  pub tells_clash : TellsRuleClash ss t fault.label fault.rule fault.clash

-- the labels of faults
abbrev pub labels_of : List Fault → List ℕ
labels_of faults = map (λ (f : Fault). f.label) faults

-- the faults at the labels below n: in ascending order of the labels, and one for each of these labels that fails a rule
pub record AreFaultsBelow (ss : List Seam) (t : Table) (n : ℕ) (faults : List Fault) : Type 0 where
  pub each : All (IsFault ss t) faults
  pub below : All (λ label. label < n) (labels_of faults)
  pub ascending : Ascends (labels_of faults)
  pub whole : (label r : ℕ) → label < n → r ≤ 6 → ¬ KeepsOver ss t label r → Contains (labels_of faults) label

-- all faults of a table over these seams
abbrev pub AreFaultsOver : List Seam → Table → List Fault → Type 0
AreFaultsOver ss t faults = AreFaultsBelow ss t (label_count t.kind t.dimension) faults

-- all faults of a table over the seams of its own kind and dimension
abbrev pub AreFaults : Table → List Fault → Type 0
AreFaults t faults = AreFaultsOver (seams t.kind t.dimension) t faults

-- the answer is the fault of a label, and none where it keeps each rule
abbrev pub TellsFault : List Seam → Table → ℕ → Option Fault → Type 0
TellsFault ss t label answer = MatchOption answer (KeepsAll ss t label) (λ fault. (fault.label ≡ label) × IsFault ss t fault)
