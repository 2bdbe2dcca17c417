use Rattle.std.proofs.Common.{◌≡◌, ◌<◌, ℕ, true, slice_index_or}
use Rattle.iso_model.specs.Seams.{Seam}
use Rattle.iso_model.specs.Tables.{Table, entry_of}
use Rattle.face_tallies.specs.Tallies.{AreTallies}
use Rattle.seam_traces.specs.Traces.{keeps_seam}
use Rattle.seam_traces.specs.Kept.{TellTable}
use Rattle.seam_traces.specs.SeamLists.{seams_of}
use Rattle.seam_traces.proofs.table_traces.Traces.first_clash.Given as goal

-- the label keeps the rule at the seams so far
abbrev pub invariant-loop-seam : goal.invariant-loop-seam
invariant-loop-seam g l =
    (t : Table) → TellTable g.C.Cell.KIND g.row.D t l.self → AreTallies g.row.D (entry_of t l.label) l.tallies
    → (k : ℕ) (s : Seam) → k < l.seam-index → keeps_seam t l.label (slice_index_or (seams_of l.seams) k s) ≡ true
