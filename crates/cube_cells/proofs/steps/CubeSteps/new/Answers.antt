use Rattle.std.proofs.Common.{◌≡◌, ℕ, ◌-◌, List, length, take, arith, ap, sym, ◌∙◌}
use Rattle.std.specs.Prelude.{slice_index}
use Rattle.std.proofs.lemmas.List.{length-take}
use Rattle.iso_model.specs.Values.{Grid}
use Rattle.mixed_cubes.specs.CubeFaces.{corner_number}
use Rattle.cube_cells.proofs.Samples.{few_steps}
use Rattle.cube_cells.proofs.steps.CubeSteps.new.Goals as goal

pub returns : goal.returns
returns g c =
    let seen : take c.grid.inside.dims c.grid.inside.sizes ≡ c.args.grid.now.sizes = ap (λ (grid : Grid). grid.sizes) c.grid.view_is in
    let axes : c.grid.inside.dims ≡ g.row.D =
    omega (arith, ap length seen, length-take c.grid.inside.dims c.grid.inside.sizes, c.grid.invariant.four, c.requires.axes) in
    let are : take g.row.D c.grid.inside.sizes ≡ c.args.grid.now.sizes = ap (λ (n : ℕ). take n c.grid.inside.sizes) (sym axes) ∙ seen in
    record {
      spans =
          λ i h.
          c.loop-axis.invariant.1 i (omega (arith, h, c.requires.axes, c.loop-axis-test.false))
          ∙ ap (λ (sizes : List ℕ). slice_index sizes i - 1) are;
      corners =
          λ k h.
          c.corner_steps.ensures k (omega (arith, h, few_steps (length c.args.grid.now.sizes) c.requires.regular.four_axes))
          ∙ ap (λ (sizes : List ℕ). corner_number sizes k) are;
    }
