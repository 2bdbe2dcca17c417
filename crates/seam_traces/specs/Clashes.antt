-- Where a label breaks the rule of seams.
use Rattle.std.specs.Prelude.{◌≡◌, ℕ, ◌<◌, ◌⊎◌, Bool, List, Option, MatchOption, length, slice_index_or, IsTrue}
use Rattle.iso_model.specs.Cells.{label_count}
use Rattle.iso_model.specs.Seams.{Seam}
use Rattle.iso_model.specs.Tables.{Table}
use Rattle.iso_model.specs.Acceptance.{meets_across, rule_seams}
use Rattle.seam_traces.specs.declared.clashes.Clash.{Clash}
use Rattle.seam_traces.specs.Traces.{keeps_seam}

-- the least of the numbers below n of which a test gives false
pub record IsLeastFailing (test : ℕ → Bool) (n m : ℕ) : Type 0 where
  pub below : m < n
  pub fails : ¬ IsTrue (test m)
  pub least : (k : ℕ) → k < m → IsTrue (test k)

-- with the label at the first facet of a seam, the least label at its second facet that agrees with it there and whose entry does not meet its entry
pub record ClashesForwards (t : Table) (label : ℕ) (s : Seam) (c : Clash) : Type 0 where
  pub facet : c.facet ≡ s.facet
  pub other_facet : c.other_facet ≡ s.other
  pub other : IsLeastFailing (λ m. meets_across t s label m) (label_count t.kind t.dimension) c.other

-- the label at the first facet of a seam meets each at its second; with the label at the second facet, the least label at the first that agrees with it
-- there and whose entry does not meet its entry
pub record ClashesBackwards (t : Table) (label : ℕ) (s : Seam) (c : Clash) : Type 0 where
  pub forwards : (m : ℕ) → m < label_count t.kind t.dimension → IsTrue (meets_across t s label m)
  pub facet : c.facet ≡ s.other
  pub other_facet : c.other_facet ≡ s.facet
  pub other : IsLeastFailing (λ m. meets_across t s m label) (label_count t.kind t.dimension) c.other

-- the clash of a label at a seam, read in the first direction that fails
abbrev pub ClashesAt : Table → ℕ → Seam → Clash → Type 0
ClashesAt t label s c = ClashesForwards t label s c ⊎ ClashesBackwards t label s c

-- the clash of a label at the first seam of a list at which it breaks the rule
pub record IsFirstClash (ss : List Seam) (t : Table) (label : ℕ) (c : Clash) : Type 0 where
  pub place : ℕ
  pub inside : place < length ss
  pub before : (k : ℕ) (s : Seam) → k < place → IsTrue (keeps_seam t label (slice_index_or ss k s))
  pub clashes : (s : Seam) → ClashesAt t label (slice_index_or ss place s) c

-- the answer is the first clash of a label, and none where it keeps the rule of seams
abbrev pub TellsClash : List Seam → Table → ℕ → Option Clash → Type 0
TellsClash ss t label answer = MatchOption answer (IsTrue (rule_seams ss t label)) (IsFirstClash ss t label)

-- the answer is the clash of a label at a seam, and none where it keeps the rule there
abbrev pub TellsClashAt : Table → ℕ → Seam → Option Clash → Type 0
TellsClashAt t label s answer = MatchOption answer (IsTrue (keeps_seam t label s)) (ClashesAt t label s)
