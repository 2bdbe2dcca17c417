use Rattle.std.proofs.Common.{◌≡◌, ◌++◌, ◌∷◌, [], ◌+◌, ◌∙◌, List, ap, sym, subst}
use Rattle.seam_traces.specs.SeamLists.{seams_of}
use Rattle.table_faults.specs.declared.faults.Fault.{Fault}
use Rattle.table_faults.specs.Faults.{AreFaultsBelow}
use Rattle.table_faults.proofs.FaultLists.{kept_more, fault_more}
use Rattle.table_faults.proofs.list.faults_over.Goals.{in-Some+in_ok-push, in_default}
use Rattle.table_faults.proofs.list.faults_over.Goals as goal

pub loop-label-preserved : goal.loop-label-preserved
loop-label-preserved g c =
    let ss = seams_of c.args.seams.now in
    let t = c.args.table.now in
    let n = c.loop-label.label in
    let old = c.loop-label.faults.items in
    elim c.match-fault_of.branch [
      | in-Some+in_ok-push w ↦
          let e : old ++ w.in-Some.fault ∷ [] ≡ c.match-fault_of.faults.items = sym (ap (λ fs. fs.items) w.faults-is ∙ w.in_ok-push.ensures) in
          subst (λ (fs : List Fault). AreFaultsBelow ss t (n + 1) fs) e
          (fault_more ss t n old w.in-Some.fault c.loop-label.invariant w.in-Some.ensures.0 w.in-Some.ensures.1)
      | in_default w ↦
          subst (λ (fs : List Fault). AreFaultsBelow ss t (n + 1) fs) (sym (ap (λ fs. fs.items) w.faults-is))
          (kept_more ss t n old c.loop-label.invariant w.in_default.ensures)
    ]
