use Rattle.std.proofs.Common.{rules, subst, sym, ◌≡◌, true, pos, ◌*ℤ◌}
use Rattle.iso_model.specs.Bipolar.{differ}
use Rattle.iso_model.specs.Values.{is_positive}
use Rattle.edge_middles.specs.MiddleVertices.{corner_end}
use Rattle.edge_vertex.specs.EdgeEnds.{AreNear}
use Rattle.layer_mesh.proofs.CrossedEnds.{corner_differs, near_centre}
use Rattle.layer_mesh.proofs.crossings.crossing_from_corner.Goals as goal

pub crossing-requires : goal.crossing-requires
crossing-requires g c =
    let near : AreNear c.corner_end.result c.centre_end.result =
    subst (λ p. AreNear p c.centre_end.result) (sym c.corner_end.ensures)
    (subst (λ q. AreNear (corner_end c.args.middle.now) q) (sym c.centre_end.ensures) (near_centre c.args.middle.now)) in
    let eighth : c.eighths.result ≡ pos 8 *ℤ c.args.corner = search rules in
    let differs : differ (is_positive c.args.iso c.eighths.result) (is_positive c.args.iso c.args.sum) ≡ true =
    subst (λ e. differ (is_positive c.args.iso e) (is_positive c.args.iso c.args.sum) ≡ true) (sym eighth)
    (corner_differs c.args.iso c.args.corner c.args.sum c.requires.bipolar) in
    search (rules, near, differs)
