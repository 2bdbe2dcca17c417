use Rattle.std.proofs.Common.{true, false, sym, ◌∙◌, ap, ◌++◌, ◌∷◌, []}
use Rattle.seam_traces.proofs.GatheredSteps.{members_more}
use Rattle.seam_traces.proofs.places.members_of.Goals.{then-has_member+in_ok-push, else-has_member}
use Rattle.std.proofs.lemmas.List.{append-nil}
use Rattle.seam_traces.proofs.places.members_of.Goals as goal

pub loop-number-preserved : goal.loop-number-preserved
loop-number-preserved c =
    let n = c.loop-number.number in
    elim c.if-has_member.branch [
      | then-has_member+in_ok-push w ↦
          let e = members_more c.args.set n true (sym w.if-has_member.true ∙ c.has_member.ensures) in
          ap (λ v. v.items) w.members-is ∙ w.in_ok-push.ensures ∙ ap (λ l. l ++ n ∷ []) c.loop-number.invariant ∙ sym e
      | else-has_member w ↦
          let e = members_more c.args.set n false (sym w.if-has_member.false ∙ c.has_member.ensures) in
          ap (λ v. v.items) w.members-is ∙ c.loop-number.invariant ∙ sym (e ∙ append-nil _)
    ]
