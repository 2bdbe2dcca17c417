use Rattle.std.proofs.Common.{ℕ, ◌%◌, List, arith, ◌∙◌, ap}
use Rattle.iso_model.specs.Splits.{rank_of}
use Rattle.grid_split.proofs.CubeNumbers.{rank_of_is}
use Rattle.grid_split.proofs.complex.Complex.rank_of.Goals as goal

pub returns : goal.returns
returns g c = record {
  rank =
      ap (λ (n : ℕ). c.args.cell % n) c.per_cube.ensures.count
      ∙ rank_of_is g.C.Cell.KIND c.self.inside.sizes g.row.D c.args.cell c.self.invariant.long
      ∙ ap (λ (sizes : List ℕ). rank_of g.C.Cell.KIND sizes c.args.cell) c.self.view_is;
  below = omega (arith, c.per_cube.ensures.some, c.per_cube.ensures.ranks);
  axes = rw (← c.self.view_is) c.self.invariant.long;
}
