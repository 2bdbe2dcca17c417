use Rattle.std.proofs.Common.{◌≡◌, ℕ, ◌+◌, ◌-◌, ◌*◌, ◌%◌, pos, rules, arith, ◌∙◌, subst}
use Rattle.std.proofs.lemmas.List.FromFn.{fill_by_all}
use Rattle.iso_model.specs.declared.Kind.TheVariants.{Cube}
use Rattle.iso_model.specs.Cells.{HasDimension}
use Rattle.iso_model.specs.Neighbours.{IsAcross}
use Rattle.iso_model.specs.Dimensions.{IsDimension}
use Rattle.split_laws.proofs.Across.{next_of}
use Rattle.split_laws.proofs.SplitTheorems.{found_across}
use Rattle.grid_split.specs.Shifts.{shift_along_axis}
use Rattle.grid_split.proofs.Tables.{cube_shift, cube_next}
use Rattle.grid_split.proofs.cubes.cube_across.Goals as goal

pub returns : goal.returns
returns g c =
    let is : IsDimension g.row.D = search rules in
    let has : HasDimension Cube g.row.D = search rules in
    let next : next_of Cube g.row.D c.args._rank c.args.facet ≡ (0, c.args.facet + 1 - 2 * (c.args.facet % 2)) =
    cube_next g.row.D c.args._rank c.args.facet c.requires.rank c.requires.facet in
    record {
      shift =
          fill_by_all (λ i. shift_along_axis i c.args.facet) c.loop-axis.shift g.row.D (pos 0) c.loop-axis.invariant.0
          (λ i h. c.loop-axis.invariant.1 i (omega arith))
          ∙ cube_shift g.row.D is c.args._rank c.args.facet c.requires.facet;
      across =
          subst (λ (n : ℕ × ℕ). IsAcross Cube g.row.D c.args._rank c.args.facet n.0 n.1) next
          (found_across Cube g.row.D is has c.args._rank c.args.facet c.requires.rank c.requires.facet);
    }
