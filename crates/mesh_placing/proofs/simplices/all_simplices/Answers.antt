use Rattle.std.proofs.Common.{◌≡◌, ℕ, ◌<◌, ◌≤◌, ◌^◌, ◌++◌, List, length, map, get_or, None, ℤ, w64, to_z, of_z, sym, ap, ◌∙◌, subst, arith}
use Rattle.std.specs.Prelude.{flat_map, slice_index, unsigned_abs}
use Rattle.std.proofs.lemmas.Int.{to_z-of_z}
use Rattle.std.proofs.lemmas.List.{length-map, take_all}
use Rattle.iso_model.specs.Values.{volume, cells}
use Rattle.iso_model.specs.Bipolar.{bipolar_edges}
use Rattle.iso_model.specs.Placed.{cell_simplices}
use Rattle.mixed_cubes.specs.declared.cubes.CubePlace.{CubePlace}
use Rattle.mixed_cubes.specs.CubePlaces.{place_of}
use Rattle.iso_model.proofs.CellCounts.{few_axes}
use Rattle.edge_vertex.proofs.CubeCells.{mixed, mixed_place, mixed_place-stands}
use Rattle.mesh_placing.specs.Placing.{cube_cells}
use Rattle.mesh_placing.proofs.Cubes.{mixed_simplices}
use Rattle.mesh_placing.proofs.FilledLists.{flat_map-take_more}
use Rattle.mesh_placing.proofs.simplices.all_simplices.Goals as goal

pub new-steps-requires : goal.new-steps-requires
new-steps-requires g c =
    let few : g.row.D ≤ 4 = few_axes g.row.D g.met.C.Cell.is_dimension in
    (omega (arith, few), (c.requires.regular, c.requires.axes))

pub loop-place-init : goal.loop-place-init
loop-place-init g c = c.new-simplices.ensures.items

pub add_cube-requires : goal.add_cube-requires
add_cube-requires g c =
    let few : g.row.D ≤ 4 = few_axes g.row.D g.met.C.Cell.is_dimension in
    let are : c.deref-place-items.result.now ≡ map (place_of c.args.grid.now.sizes) (mixed c.args.grid.now (to_z w64 (of_z w64 c.args.iso))) =
    c.deref-place-items.ensures.value ∙ c.in_ok-cubes.ensures in
    let stands =
    mixed_place-stands c.args.grid.now (to_z w64 (of_z w64 c.args.iso)) c.deref-place-items.result.now c.loop-place.place-index
    (record { number = 0; sample = 0 }) are c.loop-place-test.true in
    let iso : to_z w64 (of_z w64 c.args.iso) ≡ c.args.iso = to_z-of_z w64 c.args.iso c.ranges.iso in
    let small : unsigned_abs (to_z w64 (of_z w64 c.args.iso)) ≤ 2 ^ 40 = subst (λ (z : ℤ). unsigned_abs z ≤ 2 ^ 40) (sym iso) c.requires.iso in
    let listed : c.args.edges.now ≡ bipolar_edges (volume g.C.Cell.KIND c.args.grid.now (to_z w64 (of_z w64 c.args.iso)) None) =
    c.requires.listed ∙ ap (λ (z : ℤ). bipolar_edges (volume g.C.Cell.KIND c.args.grid.now z None)) (sym iso) in (
      omega (arith, few),
      (
        omega arith,
        (
          omega arith,
          (
            omega (arith, few),
            (c.requires.fits, (c.requires.regular, (c.requires.axes, (small, (listed, (c.new-steps.ensures, (stands.0, stands.1))))))),
          ),
        ),
      ),
    )

pub loop-place-preserved : goal.loop-place-preserved
loop-place-preserved g c =
    let I : ℤ = to_z w64 (of_z w64 c.args.iso) in
    let f : ℕ → List (List ℕ) = cell_simplices (volume g.C.Cell.KIND c.args.grid.now I None) c.args.table.now c.args.edges.now in
    let are : c.deref-place-items.result.now ≡ map (place_of c.args.grid.now.sizes) (mixed c.args.grid.now I) =
    c.deref-place-items.ensures.value ∙ c.in_ok-cubes.ensures in
    let cube : ℕ = slice_index (mixed c.args.grid.now I) c.loop-place.place-index in
    let at : get_or c.deref-place-items.result.now c.loop-place.place-index (record { number = 0; sample = 0 }) ≡ place_of c.args.grid.now.sizes cube =
    mixed_place c.args.grid.now I c.deref-place-items.result.now c.loop-place.place-index (record { number = 0; sample = 0 }) are c.loop-place-test.true in
    let inside : c.loop-place.place-index < length (mixed c.args.grid.now I) =
    omega (arith, c.loop-place-test.true, ap length are, length-map (mixed c.args.grid.now I) (place_of c.args.grid.now.sizes)) in
    let added : c.add_cube.new.simplices.items ≡ c.loop-place.simplices.items ++ flat_map f (cube_cells g.C.Cell.KIND (length c.args.grid.now.sizes) cube) =
    c.in_ok-add_cube.ensures
    ∙ ap (λ (p : CubePlace). c.loop-place.simplices.items ++ flat_map f (cube_cells g.C.Cell.KIND g.row.D p.number)) at
    ∙ ap (λ (d : ℕ). c.loop-place.simplices.items ++ flat_map f (cube_cells g.C.Cell.KIND d cube)) (sym c.requires.axes) in
    flat_map-take_more (λ n. flat_map f (cube_cells g.C.Cell.KIND (length c.args.grid.now.sizes) n)) (mixed c.args.grid.now I)
    c.loop-place.place-index 0 c.loop-place.simplices.items c.add_cube.new.simplices.items inside c.loop-place.invariant added

pub returns : goal.returns
returns g c =
    let I : ℤ = to_z w64 (of_z w64 c.args.iso) in
    let iso : I ≡ c.args.iso = to_z-of_z w64 c.args.iso c.ranges.iso in
    let F : ℕ → List (List ℕ) =
    λ cube.
    flat_map (cell_simplices (volume g.C.Cell.KIND c.args.grid.now I None) c.args.table.now c.args.edges.now)
    (cube_cells g.C.Cell.KIND (length c.args.grid.now.sizes) cube) in
    let are : c.deref-place-items.result.now ≡ map (place_of c.args.grid.now.sizes) (mixed c.args.grid.now I) =
    c.deref-place-items.ensures.value ∙ c.in_ok-cubes.ensures in
    let long : length (mixed c.args.grid.now I) ≤ c.loop-place.place-index =
    omega (arith, c.loop-place-test.false, ap length are, length-map (mixed c.args.grid.now I) (place_of c.args.grid.now.sizes)) in
    c.loop-place.invariant ∙ ap (flat_map F) (take_all c.loop-place.place-index (mixed c.args.grid.now I) long)
    ∙ mixed_simplices g.C.Cell.KIND c.args.grid.now I c.args.table.now c.args.edges.now c.requires.fits
    ∙ ap
    (λ (z : ℤ).
    flat_map (cell_simplices (volume g.C.Cell.KIND c.args.grid.now z None) c.args.table.now c.args.edges.now)
    (cells (volume g.C.Cell.KIND c.args.grid.now z None)))
    iso
