-- What the check says of a table, of a run of labels and of a label.
use Rattle.std.specs.Prelude.{ℕ, ◌<◌, ◌≤◌, List, Option, MatchOption}
use Rattle.iso_model.specs.Seams.{Seam, seams}
use Rattle.iso_model.specs.Tables.{Table}
use Rattle.iso_model.specs.Acceptance.{KeepsOver, IsAcceptedOver, IsRefusedOver}
use Rattle.iso_model.specs.OrderedAcceptance.{ordered_seams}
use Rattle.table_check.specs.declared.verdicts.Verdict.{Verdict}
use Rattle.table_check.specs.declared.verdicts.Verdict.TheVariants.{Accepted, Refused}

-- the verdict on a table over these seams: it is accepted, or it is refused at this label and this rule
abbrev pub IsVerdictOver : List Seam → Table → Verdict → Type 0
IsVerdictOver ss t Accepted = IsAcceptedOver ss t
IsVerdictOver ss t (Refused label rule) = IsRefusedOver ss t label rule

-- the verdict on a table over the seams of its own kind and dimension
abbrev pub IsVerdictOn : Table → Verdict → Type 0
IsVerdictOn t verdict = IsVerdictOver (seams t.kind t.dimension) t verdict

-- the verdict on a table over the ordered seams
abbrev pub IsVerdictInOrder : Table → Verdict → Type 0
IsVerdictInOrder t verdict = IsVerdictOver ordered_seams t verdict

-- the label keeps each rule
abbrev pub KeepsAll : List Seam → Table → ℕ → Type 0
KeepsAll ss t label = (q : ℕ) → q ≤ 6 → KeepsOver ss t label q

-- the label keeps the rules below a number
abbrev pub KeepsBelow : List Seam → Table → ℕ → ℕ → Type 0
KeepsBelow ss t label n = (q : ℕ) → q < n → KeepsOver ss t label q

-- the label fails this rule, and keeps those before it
pub record FailsFirst (ss : List Seam) (t : Table) (label r : ℕ) : Type 0 where
  pub fails : ¬ KeepsOver ss t label r
  pub is_rule : r ≤ 6
  pub rules_below : (q : ℕ) → q < r → KeepsOver ss t label q

-- the first rule that a label fails, where it fails one
abbrev pub IsFirstFailed : List Seam → Table → ℕ → Option ℕ → Type 0
IsFirstFailed ss t label failed = MatchOption failed (KeepsAll ss t label) (FailsFirst ss t label)

-- each label of a run, from one on and before another, keeps each rule
abbrev pub KeptBetween : List Seam → Table → ℕ → ℕ → Type 0
KeptBetween ss t low high = (label r : ℕ) → low ≤ label → label < high → r ≤ 6 → KeepsOver ss t label r

-- the label is the first of a run that fails a rule, and this is the first rule that it fails
pub record IsFirstBetween (ss : List Seam) (t : Table) (low high label r : ℕ) : Type 0 where
  pub from : low ≤ label
  pub before : label < high
  pub first : FailsFirst ss t label r
  pub labels_below : KeptBetween ss t low label

-- the verdict on a run of labels: each keeps each rule, or this is the first that fails, and the first rule that it fails
abbrev pub IsVerdictBetween : List Seam → Table → ℕ → ℕ → Verdict → Type 0
IsVerdictBetween ss t low high Accepted = KeptBetween ss t low high
IsVerdictBetween ss t low high (Refused label rule) = IsFirstBetween ss t low high label rule
