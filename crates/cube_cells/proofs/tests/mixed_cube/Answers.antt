use Rattle.std.proofs.Common.{rules, ◌≡◌, ℕ, ◌<◌, List, length, map, get_or, ℤ, pos, refl, ap, sym, ◌∙◌, subst, arith}
use Rattle.std.specs.Prelude.{filter, slice_index}
use Rattle.std.proofs.lemmas.List.{length-map, get_or-map}
use Rattle.lists.specs.Orders.{numbers}
use Rattle.iso_model.specs.Splits.{cube_count}
use Rattle.iso_model.specs.Values.{Grid}
use Rattle.mixed_cubes.specs.declared.cubes.CubePlace.{CubePlace}
use Rattle.mixed_cubes.specs.CubePlaces.{place_of}
use Rattle.mixed_cubes.specs.Mixed.{is_mixed}
use Rattle.lists.proofs.Contained.{Contains-filter, Contains-at, below_contained}
use Rattle.cube_cells.proofs.tests.mixed_cube.Goals as goal

-- a mixed cube has the number of a cube of the grid, and stands where that cube does
listed : (g : Grid) (iso : ℤ) (places : List CubePlace) (i : ℕ) (d : CubePlace)
    → places ≡ map (place_of g.sizes) (filter (is_mixed g iso) (numbers (cube_count g.sizes))) → i < length places
    → ((get_or places i d).number < cube_count g.sizes) × (get_or places i d ≡ place_of g.sizes (get_or places i d).number)
listed g iso places i d are h =
    let mixed : List ℕ = filter (is_mixed g iso) (numbers (cube_count g.sizes)) in
    let inside : i < length mixed = omega (arith, h, ap length are, length-map mixed (place_of g.sizes)) in
    let at : get_or places i d ≡ place_of g.sizes (slice_index mixed i) =
    ap (λ (xs : List CubePlace). get_or xs i d) are ∙ get_or-map (place_of g.sizes) mixed i 0 d inside in
    let below : slice_index mixed i < cube_count g.sizes =
    below_contained (cube_count g.sizes) (slice_index mixed i)
    (Contains-filter (is_mixed g iso) (numbers (cube_count g.sizes)) (slice_index mixed i) (Contains-at mixed i 0 inside)) in (
      subst (λ (p : CubePlace). p.number < cube_count g.sizes) (sym at) below,
      subst (λ (p : CubePlace). p ≡ place_of g.sizes p.number) (sym at) refl,
    )

pub read-requires : goal.read-requires
read-requires g c =
    let places : List CubePlace = c.in_ok-cubes.cubes.items in
    let first : CubePlace = c.index.result.now in
    let some : 0 < length places = search rules in
    let stands = listed c.args.grid.now (pos 109) places 0 first c.in_ok-cubes.ensures some in
    let at : first ≡ get_or places 0 first = c.index.ensures in
    search (
      rules,
      subst (λ (p : CubePlace). p.number < cube_count c.args.grid.now.sizes) (sym at) stands.0,
      subst (λ (p : CubePlace). p ≡ place_of c.args.grid.now.sizes p.number) (sym at) stands.1,
      c.requires.axes,
      c.requires.regular,
    )
