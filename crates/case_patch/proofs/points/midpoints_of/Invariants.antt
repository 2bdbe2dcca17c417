use Rattle.std.proofs.Common.{◌≡◌, pos, map, take}
use Rattle.iso_model.specs.Cells.{edge_midpoint}
use Rattle.case_patch.proofs.points.midpoints_of.Given as goal

-- the midpoints so far
abbrev pub invariant-loop-edge : goal.invariant-loop-edge
invariant-loop-edge g l = l.points.items ≡ map (λ e. map pos (edge_midpoint g.C.Cell.KIND g.row.D e)) (take l.edge-index l.edges)
