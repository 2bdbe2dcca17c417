use Rattle.std.proofs.Common.{arith, ◌<◌, ◌≤◌, ℕ}
use Rattle.std.proofs.lemmas.List.Elements.{All-replicate}
use Rattle.layer_mesh.specs.declared.cells.CubeCell.{CubeCell}
use Rattle.layer_mesh.specs.CubeCells.{IsCubeCell}
use Rattle.mesh_placing.proofs.FilledLists.{set_next}
use Rattle.layer_mesh.proofs.cells.CubeCells.new.Goals as goal

pub invariant_of-cells : goal.invariant_of-cells
invariant_of-cells g c = record {
  few_corners = omega arith;
  few_edges = omega arith;
  low_points = All-replicate (λ k. k < 16) 16 0 (omega arith);
  low_places = All-replicate (λ k. k < 81) 32 0 (omega arith);
}

pub loop-rank-preserved : goal.loop-rank-preserved
loop-rank-preserved g c =
    let inside : c.loop-rank.rank < 24 =
    omega (arith, c.loop-rank-test.true, c.PER_CUBE-rank-end.ensures, g.met.C.Split.few_ranks.1) in
    let next = λ (none : CubeCell).
    set_next (IsCubeCell g.C.Cell.KIND g.row.D) none c.loop-rank.cells c.loop-rank.rank 24 c.new.result c.loop-rank.invariant.0 inside
    (λ r less. c.loop-rank.invariant.1 r less none) c.new.ensures in
    ((next c.new.result).0, λ r less none. (next none).1 r less)
