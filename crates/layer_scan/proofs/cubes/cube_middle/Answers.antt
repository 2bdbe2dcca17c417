use Rattle.std.proofs.Common.{ap, arith, length, sym, ◌∙◌, ◌≡◌, ◌<◌}
use Rattle.iso_model.specs.Cells.{edge_ends}
use Rattle.iso_model.specs.Points.{plus}
use Rattle.iso_model.specs.Splits.{corner_offset}
use Rattle.lists.proofs.Contained.{any_default}
use Rattle.edge_middles.proofs.GridEdges.{long_offset}
use Rattle.layer_scan.proofs.CubePlaces.{plus_made}
use Rattle.layer_scan.proofs.cubes.cube_middle.Goals as goal

pub returns-clause-middle : goal.returns-clause-middle
returns-clause-middle g c =
    let ends = c.edge_ends-first.ensures.ends in
    let from : c.offset-from.result ≡ corner_offset g.C.Cell.KIND g.row.D c.args.rank (edge_ends g.C.Cell.KIND g.row.D c.args.edge).0 =
    c.offset-from.ensures.offset ∙ ap (λ p. corner_offset g.C.Cell.KIND g.row.D c.args.rank p.0) ends in
    let to : c.offset-to.result ≡ corner_offset g.C.Cell.KIND g.row.D c.args.rank (edge_ends g.C.Cell.KIND g.row.D c.args.edge).1 =
    c.offset-to.ensures.offset ∙ ap (λ p. corner_offset g.C.Cell.KIND g.row.D c.args.rank p.1) ends in
    let long : length c.offset-from.result ≡ g.row.D =
    ap length from ∙ long_offset g.C.Cell.KIND g.row.D c.args.rank (edge_ends g.C.Cell.KIND g.row.D c.args.edge).0 g.met.C.Cell.has_dimension in
    let wide : length c.offset-to.result ≡ g.row.D =
    ap length to ∙ long_offset g.C.Cell.KIND g.row.D c.args.rank (edge_ends g.C.Cell.KIND g.row.D c.args.edge).1 g.met.C.Cell.has_dimension in
    plus_made c.offset-from.result c.offset-to.result c.loop-axis.middle (c.loop-axis.invariant.0 ∙ sym long) (wide ∙ sym long)
    (λ k h. c.loop-axis.invariant.1 k (omega (arith, h, long, c.loop-axis-test.false)))
    ∙ (λ t. plus (from t) (to t))

pub returns-clause-small : goal.returns-clause-small
returns-clause-small g c = λ k d h.
    let lt : k < c.loop-axis.axis = omega (arith, h, c.loop-axis.invariant.0, c.loop-axis-test.false) in
    let is = any_default c.loop-axis.middle k d 0 h in
    omega (arith, is, c.loop-axis.invariant.1 k lt, c.offset-from.ensures.small k, c.offset-to.ensures.small k)
