use Rattle.std.proofs.Common.{rules, arith, ◌≡◌, ◌<◌, ◌+◌, ◌*◌, ◌^◌, ℕ, subst}
use Rattle.std.specs.Prelude.{slice_index_or}
use Rattle.iso_model.specs.Cells.{label_count}
use Rattle.iso_model.specs.Splits.{cells_per_cube}
use Rattle.iso_model.specs.Values.{Volume}
use Rattle.layer_mesh.specs.CellNumbers.{TellsCell}
use Rattle.layer_mesh.specs.CubeCells.{IsCubeCell, TellsCube}
use Rattle.layer_mesh.specs.declared.cells.CubeCell.{CubeCell}
use Rattle.layer_mesh.proofs.CubesOfCells.{cell_told}
use Rattle.layer_mesh.proofs.cubes.add_ranked.Goals as goal

pub add_cell-requires : goal.add_cell-requires
add_cell-requires g c =
    let cell : CubeCell = slice_index_or c.args.cells.now.cells c.args.rank c.index-cells-rank.result in
    let low : c.args.rank < cells_per_cube c.args.table.now.kind g.row.D = omega (arith, c.requires.rank, c.requires.cells.count) in
    let is : IsCubeCell c.args.table.now.kind g.row.D c.args.rank cell = c.requires.cells.each c.args.rank low c.index-cells-rank.result in
    let label : c.label-label.result < label_count c.args.table.now.kind g.row.D =
    subst (λ n. c.label-label.result < 2 ^ n) is.corners c.label-label.ensures.few in
    let v : Volume = c.requires.told.0 in
    let cube : ℕ = c.requires.told.1 in
    let told : (v : Volume) × (n : ℕ) × TellsCell v n g.row.D c.args.table.now c.label-label.result c.numbers.result cell.odd = (
      v,
      cube * cells_per_cube v.kind g.row.D + c.args.rank,
      cell_told v cube g.row.D c.args.table.now c.args.signs c.args.numbers.now c.requires.told.2
          c.args.rank cell c.label-label.result c.numbers.result low is c.label-label.ensures.label c.numbers.ensures,
    ) in
    search (rules, label, told)

pub returns : goal.returns
returns g c v cube t =
    let cell : CubeCell = slice_index_or c.args.cells.now.cells c.args.rank c.index-cells-rank.result in
    let low : c.args.rank < cells_per_cube c.args.table.now.kind g.row.D = omega (arith, c.requires.rank, c.requires.cells.count) in
    let is : IsCubeCell c.args.table.now.kind g.row.D c.args.rank cell = c.requires.cells.each c.args.rank low c.index-cells-rank.result in
    c.add_cell.ensures v (cube * cells_per_cube v.kind g.row.D + c.args.rank)
    (cell_told v cube g.row.D c.args.table.now c.args.signs c.args.numbers.now t c.args.rank cell c.label-label.result c.numbers.result low is
    c.label-label.ensures.label c.numbers.ensures)
