use Rattle.std.proofs.Common.{List, ◌∙◌, ℕ, ap, sym, subst}
use Rattle.std.proofs.lemmas.Result.{IfOk-weaker}
use Rattle.iso_model.specs.declared.Kind.{Kind}
use Rattle.iso_model.specs.Seams.{Seam, seams}
use Rattle.seam_traces.specs.SeamLists.{seams_of}
use Rattle.table_check.specs.Verdicts.{IsVerdictOn, IsVerdictOver}
use Rattle.table_check.specs.Pieces.{IsVerdictOnPieces}
use Rattle.table_check.proofs.PieceVerdicts.{whole_pieces}
use Rattle.table_check.proofs.parts.check_parts.Goals as goal

pub returns : goal.returns
returns g c =
    let t = c.args.table.now in
    let own = ap seams_of c.deref.ensures.value ∙ c.in_ok-seams.ensures.own ∙ ap (λ (k : Kind). seams k g.row.D) (sym c.requires.kind)
    ∙ ap (λ (n : ℕ). seams t.kind n) (sym c.kind-kind.ensures.dimension) in
    IfOk-weaker c.judge_parts.result (IsVerdictOnPieces (seams_of c.deref.result.now) t c.args.parts 0 c.args.parts) (IsVerdictOn t)
    (λ v is. subst (λ (ss : List Seam). IsVerdictOver ss t v) own (whole_pieces (seams_of c.deref.result.now) t c.args.parts v c.requires.some
    c.kind-kind.ensures.table is)) c.judge_parts.ensures
