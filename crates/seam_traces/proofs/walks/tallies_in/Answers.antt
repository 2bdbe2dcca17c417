use Rattle.std.proofs.Common.{true, false, sym, ◌∙◌, ap, ◌++◌, ◌∷◌, [], get_or}
use Rattle.face_tallies.specs.declared.faces.FaceTally.{FaceTally}
use Rattle.seam_traces.specs.TallyLists.{placed}
use Rattle.seam_traces.proofs.GatheredSteps.{tallies_more, blank}
use Rattle.seam_traces.proofs.walks.tallies_in.Goals.{then-lies_in+in_ok-push, else-lies_in}
use Rattle.std.proofs.lemmas.List.{append-nil}
use Rattle.seam_traces.proofs.walks.tallies_in.Goals as goal

pub loop-tally-preserved : goal.loop-tally-preserved
loop-tally-preserved c =
    let edges = c.args.edges.now in
    let ts = c.args.tallies.now in
    let i = c.loop-tally.tally-index in
    elim c.if-lies_in.branch [
      | then-lies_in+in_ok-push w ↦
          let e = tallies_more edges ts i blank true c.loop-tally-test.true (sym w.if-lies_in.true ∙ c.lies_in.ensures edges c.requires.set) in
          ap (λ v. v.items) w.inside-is ∙ w.in_ok-push.ensures
          ∙ ap (λ (t : FaceTally). c.loop-tally.inside.items ++ t ∷ []) w.placed.ensures
          ∙ ap (λ l. l ++ placed edges (get_or ts i blank) ∷ []) c.loop-tally.invariant ∙ sym e
      | else-lies_in w ↦
          let e = tallies_more edges ts i blank false c.loop-tally-test.true (sym w.if-lies_in.false ∙ c.lies_in.ensures edges c.requires.set) in
          ap (λ v. v.items) w.inside-is ∙ c.loop-tally.invariant ∙ sym (e ∙ append-nil _)
    ]
