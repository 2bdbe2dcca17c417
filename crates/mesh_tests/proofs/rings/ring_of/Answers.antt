use Rattle.std.proofs.Common.{◌≡◌, ℕ, ◌<◌, length, subst, sym, arith}
use Rattle.iso_model.specs.Cells.{edge_count}
use Rattle.iso_model.specs.Splits as Splits
use Rattle.grid_split.specs.EdgeEnds.{as_edge}
use Rattle.mesh_tests.proofs.rings.ring_of.Goals as goal

pub ring-requires : goal.ring-requires
ring-requires g c =
    let three : length c.args.complex.now ≡ 3 = c.cells.ensures.axes in
    let below : c.args.edge < edge_count g.C.Cell.KIND (length c.args.complex.now) = subst
    (λ (d : ℕ). c.args.edge < edge_count g.C.Cell.KIND d) (sym three) (omega (arith, c.requires.edge, g.met.C.Cell.edges)) in
    let same : Splits.edge g.C.Cell.KIND c.args.complex.now c.args.cell c.args.edge ≡ as_edge c.edge-edge.result =
    λ i. record { low = sym c.edge-edge.ensures.low i; high = sym c.edge-edge.ensures.high i } in (
      omega arith,
      (c.args.cell, c.requires.cell, (c.args.edge, below, same)),
    )
