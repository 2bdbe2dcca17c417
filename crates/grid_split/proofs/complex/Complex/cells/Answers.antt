use Rattle.std.proofs.Common.{ℕ, ◌≤◌, subst}
use Rattle.iso_model.specs.Splits.{cells_per_cube}
use Rattle.grid_split.proofs.CubeNumbers.{few_cells}
use Rattle.grid_split.proofs.complex.Complex.cells.Goals as goal

pub returns-clause-few : goal.returns-clause-few
returns-clause-few g c =
    let ranks : cells_per_cube g.C.Cell.KIND g.row.D ≤ 24 = subst (λ (n : ℕ). n ≤ 24) g.met.C.Split.counted g.met.C.Split.few_ranks.1 in
    rw c.self.invariant.cells (few_cells g.C.Cell.KIND c.self.inside.sizes g.row.D c.self.invariant.long ranks c.self.invariant.some c.self.invariant.few)
