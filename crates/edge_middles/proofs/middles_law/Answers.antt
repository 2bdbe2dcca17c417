use Rattle.edge_middles.proofs.CubeMiddles.{edges_there, has_all}
use Rattle.edge_middles.proofs.GridEdges.{edges_moved}
use Rattle.edge_middles.proofs.GridMidpoints.{own_middles}
use Rattle.edge_middles.proofs.HeldPoints.{has_held, midpoint_moved}
use Rattle.edge_middles.proofs.MovedMiddles.{moves_edges}
use Rattle.edge_middles.proofs.middles_law.Goals as goal

pub returns : goal.returns
returns c = record {
  middles = has_all;
  edges = edges_there;
  moved = moves_edges;
  grids = edges_moved;
  own = own_middles;
  placed = midpoint_moved;
  held = has_held;
}
