use Rattle.std.proofs.Common.{rules, ◌≡◌, ◌≤◌, length, refl}
use Rattle.iso_cli.proofs.Demonstrating.{all_distinct, demonstrated, few_samples, grid_axes}
use Rattle.iso_cli.proofs.demo.counts_by.Goals as goal
use Rattle.iso_model.proofs.CellCounts.{axes_between}

pub make_grid-requires : goal.make_grid-requires
make_grid-requires g c =
    let is = g.met.C.Cell.is_dimension in
    let limits = axes_between g.row.D is in
    let few = few_samples g.row.D c.args.size is c.requires.few in
    search (rules, limits.0, limits.1, c.requires.sized, few)

pub extract-requires : goal.extract-requires
extract-requires g c =
    let axes : length c.in_ok-grid.grid.sizes ≡ g.row.D = grid_axes g.row.D c.args.size c.args.seed c.in_ok-grid.grid c.in_ok-grid.ensures.grid in
    search (rules, c.in_ok-grid.ensures.regular, axes)

pub count_mesh-requires : goal.count_mesh-requires
count_mesh-requires g c =
    let is = g.met.C.Cell.is_dimension in
    let distinct = all_distinct _ _ c.in_ok-mesh.ensures.surface.closed in
    search (rules, is, distinct)

pub returns : goal.returns
returns g c =
    demonstrated g.C.Cell.KIND g.row.D c.args.size c.args.seed _ c.args.table.now c.in_ok-grid.grid c.in_ok-mesh.mesh c.count_mesh.result
    c.requires.made c.requires.accepted c.in_ok-grid.ensures.grid refl c.in_ok-mesh.ensures.mesh c.count_mesh.ensures
