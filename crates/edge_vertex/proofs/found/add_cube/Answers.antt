use Rattle.std.proofs.Common.{◌≡◌, ℕ, ◌+◌, ◌*◌, None, refl, subst, arith}
use Rattle.iso_model.specs.Values.{volume}
use Rattle.edge_vertex.specs.EdgeValue.{edges_of, Adds, IsBipolarFrom}
use Rattle.edge_vertex.proofs.Added.{no_ranks, next_rank}
use Rattle.edge_vertex.proofs.found.add_cube.Goals as goal

pub loop-rank-init : goal.loop-rank-init
loop-rank-init g c = λ s iso number axes is.
    no_ranks (volume g.C.Cell.KIND s iso None) g.C.Cell.EDGES (number * g.C.Split.PER_CUBE) (edges_of c.args.edges.now.keys)

pub loop-rank-preserved : goal.loop-rank-preserved
loop-rank-preserved g c = λ s iso number axes is.
    next_rank (volume g.C.Cell.KIND s iso None) g.C.Cell.EDGES (number * g.C.Split.PER_CUBE) c.loop-rank.rank
    (number * g.C.Split.PER_CUBE + c.loop-rank.rank) c.label-label.result (edges_of c.args.edges.now.keys) (edges_of c.loop-rank.edges.keys)
    (edges_of c.add_cell.new.edges.keys)
    refl (c.label-label.ensures.label s iso number axes is) (c.loop-rank.invariant s iso number axes is) (c.in_ok-add_cell.ensures s iso number axes is)

pub returns : goal.returns
returns g c = λ s iso number axes is.
    let all : c.loop-rank.rank ≡ g.C.Split.PER_CUBE = omega (arith, c.loop-rank-test.false, c.loop-rank.auto.rank-end, c.PER_CUBE-rank-end.ensures) in
    subst
    (λ (n : ℕ).
    Adds (IsBipolarFrom (volume g.C.Cell.KIND s iso None) g.C.Cell.EDGES (number * g.C.Split.PER_CUBE) n) (edges_of c.args.edges.now.keys)
    (edges_of c.loop-rank.edges.keys))
    all (c.loop-rank.invariant s iso number axes is)
