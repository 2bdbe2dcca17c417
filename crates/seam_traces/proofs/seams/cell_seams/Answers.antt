use Rattle.std.proofs.Common.{List, sym, subst}
use Rattle.std.proofs.lemmas.List.Elements.{All-take}
use Rattle.iso_model.specs.Seams.{Seam, seams}
use Rattle.seam_traces.specs.SeamLists.{IsSeamOf, AreSeamsOf}
use Rattle.seam_traces.proofs.OwnSeams.{own_seams}
use Rattle.seam_traces.proofs.seams.cell_seams.Goals as goal

pub returns-clause-seams : goal.returns-clause-seams
returns-clause-seams g c =
    let law = g.met.C.Cell in
    let kind = g.C.Cell.KIND in
    subst (λ (ss : List Seam). AreSeamsOf kind g.row.D ss) (sym c.loop-number.invariant)
    (All-take (IsSeamOf kind g.row.D) c.loop-number.number (seams kind g.row.D)
    (own_seams kind g.row.D law.is_dimension law.has_dimension law.meets_corners law.keeps_edges))
