use Rattle.std.proofs.Common.{◌≡◌, ℕ, ◌-◌, ◌≤◌, ◌∷◌, List, length, take, drop, sym, ap, subst, arith}
use Rattle.std.specs.Prelude.{slice_index, All}
use Rattle.std.proofs.lemmas.List.{length-take}
use Rattle.iso_model.specs.Values.{Grid}
use Rattle.mixed_cubes.proofs.AxisSteps.{first_and_others, at_least_one}
use Rattle.mixed_cubes.proofs.cubes.mixed_cubes.Goals as goal

pub mixed_rows-requires-clause-sized : goal.mixed_rows-requires-clause-sized
mixed_rows-requires-clause-sized c =
    let seen : take c.grid.inside.dims c.grid.inside.sizes ≡ c.args.grid.now.sizes = ap (λ (g : Grid). g.sizes) c.grid.view_is in
    let two : 2 ≤ length (take c.grid.inside.dims c.grid.inside.sizes) = subst (λ (xs : List ℕ). 2 ≤ length xs) (sym seen) c.requires.regular.two_axes in
    let are : take c.grid.inside.dims c.grid.inside.sizes ≡ slice_index c.grid.inside.sizes 0 ∷ take (c.grid.inside.dims - 1) (drop 1 c.grid.inside.sizes) =
    first_and_others c.grid.inside.sizes c.grid.inside.dims (omega (arith, two, length-take c.grid.inside.dims c.grid.inside.sizes))
    (omega (arith, two, length-take c.grid.inside.dims c.grid.inside.sizes)) in
    subst (λ (xs : List ℕ). All (λ n. 1 ≤ n) xs) are
    (subst (λ (xs : List ℕ). All (λ n. 1 ≤ n) xs) (sym seen) (at_least_one c.args.grid.now.sizes c.requires.regular.sized))
