use Rattle.std.proofs.Common.{◌≡◌, ◌*◌, ◌++◌, pos, map, take}
use Rattle.iso_model.specs.Cells.{corner_point, edge_midpoint}
use Rattle.case_patch.proofs.points.points_of.Given as goal

-- the midpoints, and the points of the corners so far
abbrev pub invariant-loop-corner : goal.invariant-loop-corner
invariant-loop-corner g l =
    l.points.items
    ≡ map (λ e. map pos (edge_midpoint g.C.Cell.KIND g.row.D e)) l.edges
    ++ map (λ k. map (λ x. pos (2 * x)) (corner_point g.C.Cell.KIND g.row.D k)) (take l.corner-index l.corners)
