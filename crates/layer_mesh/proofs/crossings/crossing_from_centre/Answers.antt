use Rattle.std.proofs.Common.{rules, subst, sym, ◌≡◌, true, pos, ◌*ℤ◌}
use Rattle.iso_model.specs.Bipolar.{differ}
use Rattle.iso_model.specs.Values.{is_positive}
use Rattle.edge_middles.specs.MiddleVertices.{centre_end}
use Rattle.edge_vertex.specs.EdgeEnds.{AreNear}
use Rattle.layer_mesh.proofs.CrossedEnds.{centre_differs, near_corner}
use Rattle.layer_mesh.proofs.crossings.crossing_from_centre.Goals as goal

pub crossing-requires : goal.crossing-requires
crossing-requires g c =
    let near : AreNear c.centre_end.result c.corner_end.result =
    subst (λ p. AreNear p c.corner_end.result) (sym c.centre_end.ensures)
    (subst (λ q. AreNear (centre_end c.args.middle.now) q) (sym c.corner_end.ensures) (near_corner c.args.middle.now)) in
    let eighth : c.eighths.result ≡ pos 8 *ℤ c.args.corner = search rules in
    let differs : differ (is_positive c.args.iso c.args.sum) (is_positive c.args.iso c.eighths.result) ≡ true =
    subst (λ e. differ (is_positive c.args.iso c.args.sum) (is_positive c.args.iso e) ≡ true) (sym eighth)
    (centre_differs c.args.iso c.args.sum c.args.corner c.requires.bipolar) in
    search (rules, near, differs)
