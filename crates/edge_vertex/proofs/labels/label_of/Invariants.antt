use Rattle.std.proofs.Common.{◌≡◌, None}
use Rattle.iso_model.specs.Splits.{corner}
use Rattle.iso_model.specs.Values.{volume, positive_at}
use Rattle.lists.proofs.Powers.{powers_below}
use Rattle.edge_vertex.proofs.labels.label_of.Given as goal

abbrev pub invariant-loop-corner : goal.invariant-loop-corner
invariant-loop-corner g l =
    l.label ≡ powers_below (λ k. positive_at (volume g.C.Cell.KIND l.grid l.iso None) (corner g.C.Cell.KIND l.grid.sizes l.cell k)) l.corner
