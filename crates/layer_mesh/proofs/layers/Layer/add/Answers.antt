use Rattle.std.proofs.Common.{arith, ap, ◌∙◌, ◌≡◌, ◌++◌, ℕ}
use Rattle.std.specs.Prelude.{flat_map}
use Rattle.lists.specs.Orders.{numbers}
use Rattle.grid_rows.specs.RowNumbers.{cube_rows}
use Rattle.layer_mesh.specs.LayerCubes.{row_simplices}
use Rattle.layer_mesh.proofs.PlacesOfWords.{one_number_more}
use Rattle.layer_mesh.proofs.layers.Layer.add.Goals as goal

pub loop-number-preserved : goal.loop-number-preserved
loop-number-preserved g c v s t =
    let h = row_simplices v c.args.self.now.table.now c.args.self.now.planes.now.rows s in
    c.in_ok-add_row.ensures v s t
    ∙ ap (λ ws. ws ++ h c.loop-number.number) (c.loop-number.invariant v s t) ∙ one_number_more h c.args.simplices.now.items c.loop-number.number

pub returns : goal.returns
returns g c v s t =
    let h = row_simplices v c.args.self.now.table.now c.args.self.now.planes.now.rows s in
    let end : c.loop-number.number ≡ cube_rows c.args.self.now.planes.now.rows =
    omega (arith, c.loop-number-test.false, c.loop-number.auto.number-end, c.cube_rows-number-end.ensures) in
    c.loop-number.invariant v s t ∙ ap (λ n. c.args.simplices.now.items ++ flat_map h (numbers n)) end
