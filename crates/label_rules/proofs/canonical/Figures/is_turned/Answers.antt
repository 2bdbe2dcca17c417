use Rattle.std.proofs.Common.{◌≡◌, ◌∙◌, ◌<◌, sym, ap, arith, get_or, length, pos, ℤ, w64}
use Rattle.std.specs.Prelude.{int_le}
use Rattle.std.proofs.lemmas.Int.{to_z-of_z}
use Rattle.iso_model.specs.Acceptance.{side_turn}
use Rattle.label_rules.proofs.SideLaws.{edge_turn, turned_more, turned_fails}
use Rattle.label_rules.proofs.canonical.Figures.is_turned.Goals as goal

pub returns-then-dot-le0 : goal.returns-then-dot-le0
returns-then-dot-le0 g c =
    let w = c.args.tuple.now in
    let i = c.loop-edge.edge-index in
    let inside : i < length w = omega (arith, c.requires.0, c.loop-edge-test.true) in
    let is : side_turn c.args.self.now g.row.D c.args.label w (get_or w i 0) ≡ c.dot.result =
    edge_turn c.args.self.now g.row.D c.args.label w (get_or w i 0) c.vertices.result c.hyper-plane.result.normal c.ascent.result c.dot.result
    c.kind-kind.ensures.cell c.requires (c.requires.1 i 0 inside)
    c.vertices.ensures.midpoints c.hyper-plane.ensures.normal c.ascent.ensures.step c.dot.ensures in
    turned_fails c.args.self.now g.row.D c.args.label w i c.dot.result inside is
    (ap (λ (z : ℤ). int_le z (pos 0)) (sym (to_z-of_z w64 c.dot.result (record { sfits = c.dot.type_inv }))) ∙ c.if-dot-le0.true)

pub loop-edge-preserved : goal.loop-edge-preserved
loop-edge-preserved g c =
    let w = c.args.tuple.now in
    let i = c.loop-edge.edge-index in
    let inside : i < length w = omega (arith, c.requires.0, c.loop-edge-test.true) in
    let is : side_turn c.args.self.now g.row.D c.args.label w (get_or w i 0) ≡ c.dot.result =
    edge_turn c.args.self.now g.row.D c.args.label w (get_or w i 0) c.vertices.result c.hyper-plane.result.normal c.ascent.result c.dot.result
    c.kind-kind.ensures.cell c.requires (c.requires.1 i 0 inside)
    c.vertices.ensures.midpoints c.hyper-plane.ensures.normal c.ascent.ensures.step c.dot.ensures in
    turned_more c.args.self.now g.row.D c.args.label w i c.dot.result inside is
    (ap (λ (z : ℤ). int_le z (pos 0)) (sym (to_z-of_z w64 c.dot.result (record { sfits = c.dot.type_inv }))) ∙ c.if-dot-le0.false) c.loop-edge.invariant
