-- Traces of pieces that lie one after another.
use Rattle.std.specs.Prelude.{◌≡◌, ℕ, ◌+◌, ◌-◌, ◌<◌, ◌≤◌, List, length}
use Rattle.std.proofs.Common.{ap, ◌∙◌, subst, arith}
use Rattle.iso_model.specs.declared.Kind.{Kind}
use Rattle.iso_model.specs.Cells.{label_count}
use Rattle.iso_model.specs.Tables.{Table, IsTable}
use Rattle.iso_base.specs.Parts.{start_of}
use Rattle.iso_base.proofs.PartLaws.{starts_ascend}
use Rattle.seam_traces.specs.declared.facets.Facet.{Facet}
use Rattle.seam_traces.specs.Kept.{AreFacetsOf, TellRun, TellTable, JoinRuns}
use Rattle.table_check.specs.Pieces.{AreTracesOfPieces}
use Rattle.table_check.proofs.PieceVerdicts.{first_start, last_start}

-- the traces of two runs of pieces
pub joined_traces : (kind : Kind) (d : ℕ) (t : Table) (parts low half count : ℕ) (left right both : List Facet) → 0 < parts → half ≤ count
    → AreTracesOfPieces kind d t parts low half left → AreTracesOfPieces kind d t parts (low + half) (count - half) right → AreFacetsOf kind d both
    → JoinRuns kind d left right both → AreTracesOfPieces kind d t parts low count both
joined_traces kind d t parts low half count left right both some less one two facets joins =
    let n = length t.entries in
    let e : low + half + (count - half) ≡ low + count = omega arith in
    record {
      facets = facets;
      tell =
          joins t (start_of n parts low) (start_of n parts (low + half)) (start_of n parts (low + count))
          (starts_ascend n parts low (low + half) some (omega arith)) (starts_ascend n parts (low + half) (low + count) some (omega arith)) one.tell
          (subst (λ k. TellRun kind d t (start_of n parts (low + half)) (start_of n parts k) right) e two.tell);
    }

-- the traces of all pieces are those of the table
pub whole_traces : (kind : Kind) (d : ℕ) (t : Table) (parts : ℕ) (run : List Facet) → 1 ≤ parts → t.kind ≡ kind → t.dimension ≡ d → IsTable t
    → AreTracesOfPieces kind d t parts 0 parts run → TellTable kind d t run
whole_traces kind d t parts run some k e is traces =
    let n = length t.entries in
    let all : n ≡ label_count kind d = is.whole ∙ ap (λ (b : Kind). label_count b t.dimension) k ∙ ap (λ m. label_count kind m) e in
    subst (λ m. TellRun kind d t 0 m run) all
    (subst (λ a. TellRun kind d t a n run) (first_start n parts)
    (subst (λ m. TellRun kind d t (start_of n parts 0) m run) (last_start n parts some) traces.tell))
