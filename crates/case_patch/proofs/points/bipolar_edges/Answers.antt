use Rattle.std.proofs.Common.{sym, ap, ◌∙◌}
use Rattle.iso_model.specs.Bipolar.{is_bipolar_in}
use Rattle.case_patch.proofs.AppendedLists.{kept_more, kept_same}
use Rattle.case_patch.proofs.points.bipolar_edges.Goals as goal
use Rattle.case_patch.proofs.points.bipolar_edges.Goals.{then-is_bipolar+in_ok-add_number, else-is_bipolar}

pub loop-edge-preserved : goal.loop-edge-preserved
loop-edge-preserved g c = elim c.if-is_bipolar.branch [
  | then-is_bipolar+in_ok-add_number w ↦ ap (λ v. v.items) w.edges-is
      ∙ kept_more (is_bipolar_in g.C.Cell.KIND g.row.D c.args.label) c.loop-edge.edge c.loop-edge.edges.items w.add_number.new.numbers.items
      c.loop-edge.invariant (sym c.is_bipolar.ensures ∙ w.if-is_bipolar.true) w.in_ok-add_number.ensures
  | else-is_bipolar w ↦ ap (λ v. v.items) w.edges-is
      ∙ kept_same (is_bipolar_in g.C.Cell.KIND g.row.D c.args.label) c.loop-edge.edge c.loop-edge.edges.items c.loop-edge.invariant
      (sym c.is_bipolar.ensures ∙ w.if-is_bipolar.false)
]
