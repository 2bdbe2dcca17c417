use Rattle.std.proofs.Common.{rules, ◌≡◌, ℕ, ◌<◌, ◌≤◌, List, [], length, map, get_or, None, ℤ, w64, to_z, of_z, sym, ap, ◌∙◌, subst, arith}
use Rattle.std.specs.Prelude.{slice_index, Contains, ◌↔◌}
use Rattle.std.proofs.lemmas.Int.{to_z-of_z}
use Rattle.std.proofs.lemmas.List.{length-map}
use Rattle.grid_split.specs.declared.split.Edge.{Edge}
use Rattle.iso_model.specs.Cells.{HasDimension, edge_count, edge_ends, corner_count}
use Rattle.iso_model.specs.Splits as Splits
use Rattle.iso_model.specs.Splits.{cell_count, cells_per_cube}
use Rattle.iso_model.specs.Values.{Volume, volume}
use Rattle.mixed_cubes.specs.declared.cubes.CubePlace.{CubePlace}
use Rattle.mixed_cubes.specs.CubePlaces.{place_of}
use Rattle.cube_cells.specs.SignedCubes.{IsSignedCube}
use Rattle.edge_vertex.specs.EdgeValue.{edges_of, Adds, IsBipolarEdge}
use Rattle.edge_vertex.proofs.Added.{InCubes, no_cubes, next_cube, from_nothing}
use Rattle.edge_vertex.proofs.Listed.{both_ways}
use Rattle.iso_model.proofs.CellCounts.{few_axes}
use Rattle.edge_vertex.proofs.CubeCells.{mixed, mixed_place, mixed_place-stands, all_in_mixed}
use Rattle.edge_vertex.proofs.found.all_bipolar.Goals as goal

pub new-steps-requires : goal.new-steps-requires
new-steps-requires g c =
    let few : g.row.D ≤ 4 = few_axes g.row.D g.met.C.Cell.is_dimension in
    (omega (arith, few), (c.requires.regular, c.requires.axes))

pub read-cube-requires : goal.read-cube-requires
read-cube-requires g c =
    let few : g.row.D ≤ 4 = few_axes g.row.D g.met.C.Cell.is_dimension in
    let are : c.deref-place-items.result.now ≡ map (place_of c.args.grid.now.sizes) (mixed c.args.grid.now (to_z w64 (of_z w64 c.args.iso))) =
    c.deref-place-items.ensures.value ∙ c.in_ok-cubes.ensures in
    let stands =
    mixed_place-stands c.args.grid.now (to_z w64 (of_z w64 c.args.iso)) c.deref-place-items.result.now c.loop-place.place-index
    (record { number = 0; sample = 0 }) are c.loop-place-test.true in (
      omega (arith, few),
      (omega (arith, few), (c.requires.regular, (c.requires.axes, (c.new-steps.ensures, (stands.0, (stands.1, search (rules, c.requires.iso))))))),
    )

pub loop-place-init : goal.loop-place-init
loop-place-init g c =
    let v : Volume = volume g.C.Cell.KIND c.args.grid.now (to_z w64 (of_z w64 c.args.iso)) None in
    subst
    (λ (keys : List (Edge g.row.D)).
    Adds (InCubes v g.C.Cell.EDGES g.C.Split.PER_CUBE (mixed c.args.grid.now (to_z w64 (of_z w64 c.args.iso))) 0) [] (edges_of keys))
    (sym c.in_ok-edges.ensures) (no_cubes v g.C.Cell.EDGES g.C.Split.PER_CUBE (mixed c.args.grid.now (to_z w64 (of_z w64 c.args.iso))))

pub loop-place-preserved : goal.loop-place-preserved
loop-place-preserved g c =
    let I : ℤ = to_z w64 (of_z w64 c.args.iso) in
    let are : c.deref-place-items.result.now ≡ map (place_of c.args.grid.now.sizes) (mixed c.args.grid.now I) =
    c.deref-place-items.ensures.value ∙ c.in_ok-cubes.ensures in
    let cube : ℕ = slice_index (mixed c.args.grid.now I) c.loop-place.place-index in
    let at : get_or c.deref-place-items.result.now c.loop-place.place-index (record { number = 0; sample = 0 }) ≡ place_of c.args.grid.now.sizes cube =
    mixed_place c.args.grid.now I c.deref-place-items.result.now c.loop-place.place-index (record { number = 0; sample = 0 }) are c.loop-place-test.true in
    let signed : IsSignedCube c.args.grid.now I cube c.read-cube.result =
    subst (λ (p : CubePlace). IsSignedCube c.args.grid.now I p.number c.read-cube.result) at c.read-cube.ensures.cube in
    next_cube (volume g.C.Cell.KIND c.args.grid.now I None) g.C.Cell.EDGES g.C.Split.PER_CUBE (mixed c.args.grid.now I) c.loop-place.place-index
    (edges_of c.loop-place.edges.keys) (edges_of c.add_cube.new.edges.keys) c.loop-place.invariant
    (c.in_ok-add_cube.ensures c.args.grid.now I cube c.requires.axes signed)

pub returns : goal.returns
returns g c =
    let I : ℤ = to_z w64 (of_z w64 c.args.iso) in
    let iso : I ≡ c.args.iso = to_z-of_z w64 c.args.iso c.ranges.iso in
    let v : Volume = volume g.C.Cell.KIND c.args.grid.now I None in
    let axes : length c.args.grid.now.sizes ≡ g.row.D = c.requires.axes in
    let are : c.deref-place-items.result.now ≡ map (place_of c.args.grid.now.sizes) (mixed c.args.grid.now I) =
    c.deref-place-items.ensures.value ∙ c.in_ok-cubes.ensures in
    let long : length c.deref-place-items.result.now ≡ length (mixed c.args.grid.now I) =
    ap length are ∙ length-map (mixed c.args.grid.now I) (place_of c.args.grid.now.sizes) in
    let all : c.loop-place.place-index ≡ length (mixed c.args.grid.now I) = omega (arith, c.loop-place-test.false, c.loop-place.auto.place-index-end, long) in
    let in_mixed : Adds (InCubes v g.C.Cell.EDGES g.C.Split.PER_CUBE (mixed c.args.grid.now I) (length (mixed c.args.grid.now I))) []
    (edges_of c.loop-place.edges.keys) =
    subst (λ (k : ℕ). Adds (InCubes v g.C.Cell.EDGES g.C.Split.PER_CUBE (mixed c.args.grid.now I) k) [] (edges_of c.loop-place.edges.keys)) all
    c.loop-place.invariant in
    let has : HasDimension g.C.Cell.KIND (length c.args.grid.now.sizes) = subst (HasDimension g.C.Cell.KIND) (sym axes) g.met.C.Cell.has_dimension in
    let counted : g.C.Split.PER_CUBE ≡ cells_per_cube g.C.Cell.KIND (length c.args.grid.now.sizes) =
    g.met.C.Split.counted ∙ ap (cells_per_cube g.C.Cell.KIND) (sym axes) in
    let at_d : (k : ℕ) → k < g.C.Cell.EDGES
    → ((edge_ends g.C.Cell.KIND g.row.D k).0 < corner_count g.C.Cell.KIND g.row.D)
    × ((edge_ends g.C.Cell.KIND g.row.D k).1 < corner_count g.C.Cell.KIND g.row.D) =
    λ k h. let below : k < edge_count g.C.Cell.KIND g.row.D =
    omega (arith, h, g.met.C.Cell.edges) in let o = g.met.C.Cell.ordered_ends k below in (omega (arith, o.0, o.1), o.1) in
    let inside : (k : ℕ) → k < g.C.Cell.EDGES
    → ((edge_ends g.C.Cell.KIND (length c.args.grid.now.sizes) k).0 < corner_count g.C.Cell.KIND (length c.args.grid.now.sizes))
    × ((edge_ends g.C.Cell.KIND (length c.args.grid.now.sizes) k).1 < corner_count g.C.Cell.KIND (length c.args.grid.now.sizes)) =
    subst
    (λ (n : ℕ).
    (k : ℕ) → k < g.C.Cell.EDGES
    → ((edge_ends g.C.Cell.KIND n k).0 < corner_count g.C.Cell.KIND n) × ((edge_ends g.C.Cell.KIND n k).1 < corner_count g.C.Cell.KIND n))
    (sym axes) at_d in
    let found : (e : Splits.Edge)
    → Contains (edges_of c.loop-place.edges.keys) e ↔ IsBipolarEdge v g.C.Cell.EDGES (cell_count g.C.Cell.KIND c.args.grid.now.sizes) e =
    λ e.
    both_ways (Contains (edges_of c.loop-place.edges.keys) e)
    (InCubes v g.C.Cell.EDGES g.C.Split.PER_CUBE (mixed c.args.grid.now I) (length (mixed c.args.grid.now I)) e)
    (IsBipolarEdge v g.C.Cell.EDGES (cell_count g.C.Cell.KIND c.args.grid.now.sizes) e)
    (from_nothing (InCubes v g.C.Cell.EDGES g.C.Split.PER_CUBE (mixed c.args.grid.now I) (length (mixed c.args.grid.now I)))
    (edges_of c.loop-place.edges.keys) in_mixed e)
    (all_in_mixed g.C.Cell.KIND c.args.grid.now I g.C.Cell.EDGES g.C.Split.PER_CUBE counted (omega (arith, g.met.C.Split.few_ranks.0)) has inside e) in
    subst
    (λ (z : ℤ).
    (e : Splits.Edge)
    → Contains (edges_of c.loop-place.edges.keys) e
    ↔ IsBipolarEdge (volume g.C.Cell.KIND c.args.grid.now z None) g.C.Cell.EDGES (cell_count g.C.Cell.KIND c.args.grid.now.sizes) e)
    iso found
