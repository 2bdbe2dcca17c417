use Rattle.std.proofs.Common.{ℕ, slice_index_or, rules, ap, ◌∙◌}
use Rattle.iso_model.specs.Dimensions.{IsDimension}
use Rattle.std.proofs.Common.{false}
use Rattle.grid_split.specs.declared.simplices.TheConstants.{ODD}
use Rattle.grid_split.proofs.Tables.{simplex_odd}
use Rattle.grid_split.proofs.simplices.simplex_odd.Goals as goal

pub returns : goal.returns
returns g c =
    let is : IsDimension g.row.D = search rules in
    ap (λ (n : ℕ). slice_index_or ODD n false) c.order_number.ensures.number ∙ simplex_odd g.row.D is c.args.rank c.requires.rank
