use Rattle.std.proofs.Common.{rules, ◌≡◌, ℕ, length, pos, w64, FitsSigned, to_z, of_z, arith, ◌∙◌, ap, sym}
use Rattle.std.specs.Prelude.{map}
use Rattle.std.proofs.lemmas.Int.{to_z-of_z}
use Rattle.std.proofs.lemmas.List.FromFn.{fill_by_all}
use Rattle.iso_model.specs.Points.{axes}
use Rattle.edge_vertex.specs.EdgeEnds.{coordinate_between}
use Rattle.lists.proofs.MemberLaws.{set_next}
use Rattle.edge_vertex.proofs.crossings.point_between.Goals as goal

pub coordinate-requires-clause-near : goal.coordinate-requires-clause-near
coordinate-requires-clause-near g c = c.requires.near c.loop-axis.axis (omega arith)

pub loop-axis-preserved : goal.loop-axis-preserved
loop-axis-preserved g c =
    let fits : FitsSigned w64 c.coordinate.result = search rules in
    set_next (coordinate_between c.args.low.now c.args.high.now c.args.part c.args.way) c.loop-axis.place c.loop-axis.axis g.row.D
    (to_z w64 (of_z w64 c.coordinate.result))
    c.loop-axis.invariant.0 c.loop-axis-test.true c.loop-axis.invariant.1 (to_z-of_z w64 c.coordinate.result fits ∙ c.coordinate.ensures)

pub returns : goal.returns
returns g c =
    let long : length c.args.low.now ≡ g.row.D = omega arith in
    fill_by_all (coordinate_between c.args.low.now c.args.high.now c.args.part c.args.way) c.loop-axis.place g.row.D (pos 0) c.loop-axis.invariant.0
    (λ i h. c.loop-axis.invariant.1 i (omega arith))
    ∙ ap (λ (n : ℕ). map (coordinate_between c.args.low.now c.args.high.now c.args.part c.args.way) (axes n)) (sym long)
