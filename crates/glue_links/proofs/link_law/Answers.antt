use Rattle.std.proofs.Common.{◌≡◌, ℕ, List, length, ap, sym, ◌∙◌}
use Rattle.surface_laws.proofs.GridSurface.{suits_grid}
use Rattle.surface_laws.proofs.KeptSurface.{linked, linked_by_walks}
use Rattle.glue_links.proofs.link_law.Goals as goal

pub returns : goal.returns
returns g c =
    let suits = suits_grid g.C.Cell.KIND 3 c.args.complex.now c.args.grid.now c.args.table.now c.table.result.now
    c.requires.regular c.table.ensures.whole c.table.ensures.accepted c.table.ensures.kind c.table.ensures.dimension c.table.ensures.same
    c.cells.ensures.axes c.requires.sizes in
    let three : length c.args.grid.now.sizes ≡ 3 = sym (ap (λ (s : List ℕ). length s) c.requires.sizes) ∙ c.cells.ensures.axes in
    record {
      linked = linked g.C.Cell.KIND c.args.grid.now c.args.table.now c.args.iso c.args.blank suits three;
      walks = λ all. linked_by_walks g.C.Cell.KIND c.args.grid.now c.args.table.now c.args.iso c.args.blank suits three all;
    }
