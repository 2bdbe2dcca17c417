use Rattle.std.proofs.Common.{◌≡◌, ℕ, ◌+◌, ◌*◌, ◌<◌, sym, ap, ◌∙◌, subst, arith}
use Rattle.iso_model.specs.Cells.{edge_ends, edge_count}
use Rattle.edge_vertex.specs.EdgeValue.{edges_of, Adds, IsBipolarOf}
use Rattle.edge_vertex.proofs.Added.{all_negative, all_positive, no_edges, next_edge}
use Rattle.edge_vertex.proofs.found.add_cell.Goals as goal

pub returns-then-label-eq0 : goal.returns-then-label-eq0
returns-then-label-eq0 g c = λ s iso number axes is.
    all_negative g.C.Cell.KIND s.sizes (number * g.C.Split.PER_CUBE + c.args.rank) c.args.label g.C.Cell.EDGES (edges_of c.args.edges.now.keys)
    c.if-label-eq0.true

pub returns-then-label-all_corners : goal.returns-then-label-all_corners
returns-then-label-all_corners g c = λ s iso number axes is.
    all_positive g.C.Cell.KIND s.sizes (number * g.C.Split.PER_CUBE + c.args.rank) c.args.label g.C.Cell.EDGES g.C.Cell.CORNERS (edges_of c.args.edges.now.keys)
    (ap (λ (n : ℕ). n + 1) c.if-label-all_corners.true ∙ c.all_corners.ensures)
    (λ k h.
    let below : k < edge_count g.C.Cell.KIND g.row.D = omega (arith, h, g.met.C.Cell.edges) in
    let ends = g.met.C.Cell.ordered_ends k below in
    subst (λ (n : ℕ). ((edge_ends g.C.Cell.KIND n k).0 < g.C.Cell.CORNERS) × ((edge_ends g.C.Cell.KIND n k).1 < g.C.Cell.CORNERS)) (sym axes)
    (omega (arith, ends.0, ends.1, g.met.C.Cell.corners), omega (arith, ends.1, g.met.C.Cell.corners)))

pub loop-edge-init : goal.loop-edge-init
loop-edge-init g c = λ s iso number axes is.
    no_edges g.C.Cell.KIND s.sizes (number * g.C.Split.PER_CUBE + c.args.rank) c.args.label (edges_of c.args.edges.now.keys)

pub loop-edge-preserved : goal.loop-edge-preserved
loop-edge-preserved g c = λ s iso number axes is.
    next_edge g.C.Cell.KIND s.sizes (number * g.C.Split.PER_CUBE + c.args.rank) c.args.label c.loop-edge.edge (edges_of c.args.edges.now.keys)
    (edges_of c.loop-edge.edges.keys) (edges_of c.add_if.new.edges.keys) (c.loop-edge.invariant s iso number axes is)
    (c.in_ok-add_if.ensures s iso number axes is)

pub returns : goal.returns
returns g c = λ s iso number axes is.
    let all : c.loop-edge.edge ≡ g.C.Cell.EDGES = omega (arith, c.loop-edge-test.false, c.loop-edge.auto.edge-end, c.EDGES-edge-end.ensures) in
    subst
    (λ (n : ℕ).
    Adds (IsBipolarOf g.C.Cell.KIND s.sizes (number * g.C.Split.PER_CUBE + c.args.rank) c.args.label n) (edges_of c.args.edges.now.keys)
    (edges_of c.loop-edge.edges.keys))
    all (c.loop-edge.invariant s iso number axes is)
