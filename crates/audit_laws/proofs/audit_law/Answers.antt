use Rattle.std.proofs.Common.{◌≡◌, ℕ, List, None, length, ap, sym, ◌∙◌}
use Rattle.iso_model.specs.Placed.{placed_mesh}
use Rattle.iso_model.specs.Values.{volume}
use Rattle.surface_laws.proofs.GridSurface.{suits_grid, isosurface, linked_by_walks}
use Rattle.audit_laws.proofs.CleanMeshes.{clean}
use Rattle.audit_laws.proofs.audit_law.Goals as goal

pub returns : goal.returns
returns g c =
    let suits = suits_grid g.C.Cell.KIND g.row.D c.args.complex.now c.args.grid.now c.args.table.now c.table.result.now
    c.requires.regular c.table.ensures.whole c.table.ensures.accepted c.table.ensures.kind c.table.ensures.dimension c.table.ensures.same
    c.cells.ensures.axes c.requires.sizes in
    let axes : length c.args.grid.now.sizes ≡ g.row.D = sym (ap (λ (s : List ℕ). length s) c.requires.sizes) ∙ c.cells.ensures.axes in
    let v = volume g.C.Cell.KIND c.args.grid.now c.args.iso None in
    clean g.row.D v (placed_mesh v c.args.table.now) (isosurface g.C.Cell.KIND c.args.grid.now c.args.table.now c.args.iso suits)
    (λ three. linked_by_walks g.C.Cell.KIND c.args.grid.now c.args.table.now c.args.iso suits (axes ∙ three))
