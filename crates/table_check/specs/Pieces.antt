-- The check in parts.
use Rattle.std.specs.Prelude.{◌≡◌, ℕ, ◌+◌, List, length, Result, IfOk}
use Rattle.iso_model.specs.declared.Kind.{Kind}
use Rattle.iso_model.specs.Seams.{Seam}
use Rattle.iso_model.specs.Tables.{Table}
use Rattle.iso_base.specs.Parts.{start_of}
use Rattle.seam_traces.specs.declared.facets.Facet.{Facet}
use Rattle.seam_traces.specs.Kept.{AreFacetsOf, TellRun, TellTable}
use Rattle.seam_traces.specs.SeamLists.{AreSeamsOf}
use Rattle.table_check.specs.declared.verdicts.Verdict.{Verdict}
use Rattle.table_check.specs.declared.verdicts.Verdict.TheVariants.{Accepted, Refused}
use Rattle.table_check.specs.Verdicts.{IsVerdictBetween}

-- what the rules are asked with belongs to a table of this kind and dimension: the figures and the seams are of its cell, the traces of its labels
pub record AreReady (kind : Kind) (d : ℕ) (t : Table) (figures : Kind) (traces : List Facet) (ss : List Seam) : Type 0 where
  pub cell : figures ≡ kind
  pub kind_is : t.kind ≡ kind
  pub seams : AreSeamsOf kind d ss
  pub tell : TellTable kind d t traces

-- these are the facets of the cell, and what is kept in them tells of the labels of so many pieces from one on, the table's labels being in so many parts
pub record AreTracesOfPieces (kind : Kind) (d : ℕ) (t : Table) (parts low count : ℕ) (run : List Facet) : Type 0 where
  pub facets : AreFacetsOf kind d run
  pub tell : TellRun kind d t (start_of (length t.entries) parts low) (start_of (length t.entries) parts (low + count)) run

-- an answer is these traces, where there was memory for them
abbrev pub GathersPieces : {E : Type 0} → Kind → ℕ → Table → ℕ → ℕ → ℕ → Result (List Facet) E → Type 0
GathersPieces kind d t parts low count answer = IfOk answer (AreTracesOfPieces kind d t parts low count)

-- the verdict on the labels of so many pieces from one on, the table's labels being in so many parts
abbrev pub IsVerdictOnPieces : List Seam → Table → ℕ → ℕ → ℕ → Verdict → Type 0
IsVerdictOnPieces ss t parts low count verdict =
    IsVerdictBetween ss t (start_of (length t.entries) parts low) (start_of (length t.entries) parts (low + count)) verdict

-- an answer is this verdict, where there was memory for it
abbrev pub JudgesPieces : {E : Type 0} → List Seam → Table → ℕ → ℕ → ℕ → Result Verdict E → Type 0
JudgesPieces ss t parts low count answer = IfOk answer (IsVerdictOnPieces ss t parts low count)

-- the first of two verdicts that is a refusal, if one is
abbrev pub first_refused : Verdict → Verdict → Verdict
first_refused Accepted right = right
first_refused (Refused label rule) right = Refused label rule
