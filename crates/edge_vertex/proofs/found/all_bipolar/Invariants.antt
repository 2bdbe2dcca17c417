use Rattle.std.proofs.Common.{[], None}
use Rattle.iso_model.specs.Values.{volume}
use Rattle.edge_vertex.specs.EdgeValue.{edges_of, Adds}
use Rattle.edge_vertex.proofs.Added.{InCubes}
use Rattle.edge_vertex.proofs.CubeCells.{mixed}
use Rattle.edge_vertex.proofs.found.all_bipolar.Given as goal

abbrev pub invariant-loop-place : goal.invariant-loop-place
invariant-loop-place g l =
    Adds (InCubes (volume g.C.Cell.KIND l.grid l.iso None) g.C.Cell.EDGES g.C.Split.PER_CUBE (mixed l.grid l.iso) l.place-index) []
    (edges_of l.edges.keys)
