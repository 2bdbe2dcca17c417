use Rattle.std.proofs.Common.{◌≡◌, filter}
use Rattle.lists.specs.Orders.{numbers}
use Rattle.iso_model.specs.Bipolar.{is_bipolar_in}
use Rattle.case_patch.proofs.points.bipolar_edges.Given as goal

-- the bipolar edges so far
abbrev pub invariant-loop-edge : goal.invariant-loop-edge
invariant-loop-edge g l = l.edges.items ≡ filter (is_bipolar_in g.C.Cell.KIND g.row.D l.label) (numbers l.edge)
