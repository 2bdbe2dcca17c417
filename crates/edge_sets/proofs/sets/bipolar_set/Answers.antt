use Rattle.std.proofs.Common.{arith, refl, true, false, get_or}
use Rattle.edge_sets.proofs.SetLaws.{bipolar_none, bipolar_more, differs_as}
use Rattle.edge_sets.proofs.sets.bipolar_set.Goals as goal
use Rattle.edge_sets.proofs.sets.bipolar_set.Goals.{then-has_member, else-has_member}

pub loop-edge-init : goal.loop-edge-init
loop-edge-init c = bipolar_none c.args.label c.args.ends.now

pub loop-edge-preserved : goal.loop-edge-preserved
loop-edge-preserved c =
    let label = c.args.label in
    let i = c.loop-edge.edge in
    let ends = c.args.ends.now in
    let s = c.loop-edge.invariant in
    let p = get_or ends i (0, 0) in
    let told = differs_as label p c.has_member.result c.has_member-in-loop-edge.result in
    elim c.if-has_member.branch [
      | then-has_member w ↦ rw w.set-is
          (bipolar_more label c.loop-edge.set w.with_edge-set.result i ends true s
          (told true c.has_member.ensures c.has_member-in-loop-edge.ensures w.if-has_member.true)
          w.with_edge-set.ensures.same w.with_edge-set.ensures.others)
      | else-has_member w ↦ rw w.set-is
          (bipolar_more label c.loop-edge.set c.loop-edge.set i ends false s
          (told false c.has_member.ensures c.has_member-in-loop-edge.ensures w.if-has_member.false)
          (s.others i (omega arith)) (λ e ne. refl))
    ]
