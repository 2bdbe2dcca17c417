use Rattle.std.proofs.Common.{◌≡◌, ℕ, ◌+◌, ◌*◌, ◌^◌, ◌<◌, ◌≤◌, true, ◌++◌, List, length, None, ℤ, w64, to_z, of_z, sym, ap, ◌∙◌, subst, arith}
use Rattle.std.specs.Prelude.{flat_map, Contains}
use Rattle.std.specs.List.{range_with_len}
use Rattle.std.proofs.lemmas.Int.{to_z-of_z}
use Rattle.iso_model.specs.Cells.{HasDimension, label_count}
use Rattle.iso_model.specs.Splits.{Edge, cell_count, cells_per_cube}
use Rattle.iso_model.specs.Values.{Volume, volume, cells, label_of}
use Rattle.iso_model.specs.Bipolar.{bipolar_edges}
use Rattle.iso_model.specs.Tables.{entry_of}
use Rattle.iso_model.specs.Acceptance.{rule_edges}
use Rattle.iso_model.specs.Placed.{cell_simplices}
use Rattle.iso_model.proofs.CellCounts.{few_axes}
use Rattle.mesh_placing.specs.Placing.{ListsEdges, HasListedEdges, placed_tuples}
use Rattle.mesh_placing.proofs.Cubes.{cube_inside}
use Rattle.mesh_placing.proofs.FilledLists.{flat_map-range_more}
use Rattle.mesh_placing.proofs.Shapes.{cells-all, lists_edges}
use Rattle.lists.proofs.Contained.{contained_below}
use Rattle.mesh_placing.proofs.simplices.add_cube.Goals as goal

pub add_cell-requires : goal.add_cell-requires
add_cell-requires g c =
    let I : ℤ = to_z w64 (of_z w64 c.args.iso) in
    let iso : I ≡ c.args.iso = to_z-of_z w64 c.args.iso c.ranges.iso in
    let v : Volume = volume g.C.Cell.KIND c.args.grid.now I None in
    let few : g.row.D ≤ 4 = few_axes g.row.D g.met.C.Cell.is_dimension in
    let axes : length c.args.grid.now.sizes ≡ g.row.D = c.requires.axes in
    let has : HasDimension g.C.Cell.KIND (length c.args.grid.now.sizes) = subst (HasDimension g.C.Cell.KIND) (sym axes) g.met.C.Cell.has_dimension in
    let per : g.C.Split.PER_CUBE ≡ cells_per_cube g.C.Cell.KIND (length c.args.grid.now.sizes) =
    g.met.C.Split.counted ∙ ap (cells_per_cube g.C.Cell.KIND) (sym axes) in
    let cell : ℕ = c.args.place.number * g.C.Split.PER_CUBE + c.loop-rank.rank in
    let inside : c.args.place.number * g.C.Split.PER_CUBE + g.C.Split.PER_CUBE ≤ cell_count g.C.Cell.KIND c.args.grid.now.sizes =
    subst (λ (n : ℕ). c.args.place.number * n + n ≤ cell_count g.C.Cell.KIND c.args.grid.now.sizes) (sym per)
    (cube_inside g.C.Cell.KIND c.args.grid.now.sizes c.args.place.number c.requires.cube) in
    let rank : c.loop-rank.rank < g.C.Split.PER_CUBE = omega (arith, c.loop-rank-test.true, c.PER_CUBE-rank-end.ensures) in
    let in_grid : cell < cell_count g.C.Cell.KIND c.args.grid.now.sizes = omega (arith, inside, rank) in
    let label : c.label-label.result < label_count g.C.Cell.KIND g.row.D =
    subst (λ (n : ℕ). c.label-label.result < 2 ^ n) g.met.C.Cell.corners c.label-label.ensures.few in
    let labelled : c.label-label.result ≡ label_of v cell = c.label-label.ensures.label c.args.grid.now I c.args.place.number axes c.read-cube.ensures.cube in
    let kept : Contains (cells v) cell =
    subst (λ (xs : List ℕ). Contains xs cell) (sym (cells-all g.C.Cell.KIND c.args.grid.now I))
    (contained_below (cell_count g.C.Cell.KIND c.args.grid.now.sizes) cell in_grid) in
    let by_label : ListsEdges g.C.Cell.KIND (length c.args.grid.now.sizes) c.args.grid.now.sizes (bipolar_edges v) cell c.label-label.result =
    subst (λ (n : ℕ). ListsEdges g.C.Cell.KIND (length c.args.grid.now.sizes) c.args.grid.now.sizes (bipolar_edges v) cell n) (sym labelled)
    (lists_edges v has cell kept) in
    let edges_are : bipolar_edges v ≡ c.args.edges.now =
    ap (λ (z : ℤ). bipolar_edges (volume g.C.Cell.KIND c.args.grid.now z None)) iso ∙ sym c.requires.listed in
    let by_edges : ListsEdges g.C.Cell.KIND (length c.args.grid.now.sizes) c.args.grid.now.sizes c.args.edges.now cell c.label-label.result =
    subst (λ (es : List Edge). ListsEdges g.C.Cell.KIND (length c.args.grid.now.sizes) c.args.grid.now.sizes es cell c.label-label.result) edges_are by_label in
    let by_axes : ListsEdges g.C.Cell.KIND g.row.D c.args.grid.now.sizes c.args.edges.now cell c.label-label.result =
    subst (λ (n : ℕ). ListsEdges g.C.Cell.KIND n c.args.grid.now.sizes c.args.edges.now cell c.label-label.result) axes by_edges in
    let listed : HasListedEdges g.C.Cell.KIND g.C.Split.PER_CUBE c.args.edges.now c.read-cube.result c.loop-rank.rank c.label-label.result = record {
      grid = c.args.grid.now;
      iso = I;
      number = c.args.place.number;
      axes = axes;
      was_read = c.read-cube.ensures.cube;
      listed = by_axes;
    } in
    let rule : rule_edges g.C.Cell.KIND g.row.D c.label-label.result (entry_of c.args.table.now c.label-label.result) ≡ true =
    subst
    (λ (d : ℕ).
    c.label-label.result < label_count g.C.Cell.KIND d
    → rule_edges g.C.Cell.KIND d c.label-label.result (entry_of c.args.table.now c.label-label.result) ≡ true)
    axes (c.requires.fits.keeps_edges c.label-label.result) label in (
      omega (arith, few),
      (omega arith, (omega arith, (omega (arith, few), (c.requires.fits.same_kind, (c.read-cube.ensures.few, (rank, (label, (rule, listed)))))))),
    )

pub loop-rank-preserved : goal.loop-rank-preserved
loop-rank-preserved g c =
    let I : ℤ = to_z w64 (of_z w64 c.args.iso) in
    let v : Volume = volume g.C.Cell.KIND c.args.grid.now I None in
    let f : ℕ → List (List ℕ) = cell_simplices v c.args.table.now c.args.edges.now in
    let first : ℕ = c.args.place.number * g.C.Split.PER_CUBE in
    let cell : ℕ = first + c.loop-rank.rank in
    let labelled : c.label-label.result ≡ label_of v cell =
    c.label-label.ensures.label c.args.grid.now I c.args.place.number c.requires.axes c.read-cube.ensures.cube in
    let placed : placed_tuples g.C.Cell.KIND c.args.grid.now.sizes c.args.edges.now cell (entry_of c.args.table.now c.label-label.result) ≡ f cell =
    ap (λ (n : ℕ). placed_tuples g.C.Cell.KIND c.args.grid.now.sizes c.args.edges.now cell (entry_of c.args.table.now n)) labelled in
    let added : c.add_cell.new.simplices.items ≡ c.loop-rank.simplices.items ++ f cell =
    c.in_ok-add_cell.ensures c.args.grid.now I c.args.place.number c.requires.axes c.read-cube.ensures.cube
    ∙ ap (λ (ws : List (List ℕ)). c.loop-rank.simplices.items ++ ws) placed in
    flat_map-range_more f first c.loop-rank.rank c.args.simplices.now.items c.loop-rank.simplices.items c.add_cell.new.simplices.items
    c.loop-rank.invariant added

pub returns : goal.returns
returns g c =
    let iso : to_z w64 (of_z w64 c.args.iso) ≡ c.args.iso = to_z-of_z w64 c.args.iso c.ranges.iso in
    let all : c.loop-rank.rank ≡ g.C.Split.PER_CUBE = omega (arith, c.loop-rank-test.false, c.loop-rank.auto.rank-end, c.PER_CUBE-rank-end.ensures) in
    c.loop-rank.invariant
    ∙ ap
    (λ (z : ℤ).
    c.args.simplices.now.items
    ++ flat_map (cell_simplices (volume g.C.Cell.KIND c.args.grid.now z None) c.args.table.now c.args.edges.now)
    (range_with_len (c.args.place.number * g.C.Split.PER_CUBE) c.loop-rank.rank))
    iso
    ∙ ap
    (λ (n : ℕ).
    c.args.simplices.now.items
    ++ flat_map (cell_simplices (volume g.C.Cell.KIND c.args.grid.now c.args.iso None) c.args.table.now c.args.edges.now)
    (range_with_len (c.args.place.number * g.C.Split.PER_CUBE) n))
    all
    ∙ ap
    (λ (n : ℕ).
    c.args.simplices.now.items
    ++ flat_map (cell_simplices (volume g.C.Cell.KIND c.args.grid.now c.args.iso None) c.args.table.now c.args.edges.now)
    (range_with_len (c.args.place.number * n) n))
    g.met.C.Split.counted
