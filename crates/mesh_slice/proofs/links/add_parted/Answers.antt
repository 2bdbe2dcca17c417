use Rattle.std.proofs.Common.{◌++◌, ℕ, [], ◌∷◌, ap, ◌∙◌}
use Rattle.std.specs.Prelude.{if◌then◌else◌}
use Rattle.cut_laws.specs.declared.Link.{Link}
use Rattle.cut_laws.specs.Cuts.{edge_of}
use Rattle.cut_laws.specs.CutSteps.{is_parted}
use Rattle.mesh_slice.specs.Slices.{late_by}
use Rattle.mesh_slice.proofs.GrowingLists.{chosen_more}
use Rattle.mesh_slice.proofs.links.add_parted.Goals as goal

pub loop-edge-preserved : goal.loop-edge-preserved
loop-edge-preserved c =
    let p = is_parted (late_by c.args.late.now) in
    let f : ℕ → Link = edge_of c.args.corners.now in
    let next = λ (l : Link). c.loop-edge.links.items ++ (if p l then l ∷ [] else []) in
    chosen_more p f c.loop-edge.edge c.args.links.now.items c.loop-edge.links.items c.add_if_parted.new.links.items c.loop-edge.invariant
    (c.in_ok-add_if_parted.ensures ∙ ap next c.edge_of.ensures)
