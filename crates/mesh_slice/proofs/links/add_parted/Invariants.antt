use Rattle.std.proofs.Common.{◌≡◌, ◌++◌, map}
use Rattle.std.specs.Prelude.{filter}
use Rattle.lists.specs.Orders.{numbers}
use Rattle.cut_laws.specs.Cuts.{edge_of}
use Rattle.cut_laws.specs.CutSteps.{is_parted}
use Rattle.mesh_slice.specs.Slices.{late_by}
use Rattle.mesh_slice.proofs.links.add_parted.Given as goal

abbrev pub invariant-loop-edge : goal.invariant-loop-edge
invariant-loop-edge l = l.links.items ≡ l.initial.links.items ++ filter (is_parted (late_by l.late)) (map (edge_of l.corners) (numbers l.edge))
