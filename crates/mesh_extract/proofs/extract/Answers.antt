use Rattle.std.proofs.Common.{rules, FitsSigned, ◌≡◌, ◌∙◌, w64, to_z, of_z}
use Rattle.std.proofs.lemmas.Int.{to_z-of_z}
use Rattle.iso_model.specs.Faces.{Mesh}
use Rattle.iso_model.specs.Isosurfaces.{IsIsosurface}
use Rattle.iso_model.specs.Links.{IsLinkedByWalks}
use Rattle.iso_model.specs.Surface.{FacesAreOuter}
use Rattle.iso_model.specs.Values.{Volume}
use Rattle.surface_laws.proofs.GridSurface.{isosurface, linked_by_walks, outer}
use Rattle.mesh_extract.proofs.Accepted.{keeps_edges}
use Rattle.mesh_extract.proofs.PlacedSurfaces.{suits, holds_of}
use Rattle.mesh_extract.proofs.extract.Goals as goal

pub place-requires : goal.place-requires
place-requires g c =
    let edges = keeps_edges c.table.result.now g.C.Cell.KIND g.row.D c.table.ensures.accepted c.table.ensures.kind c.table.ensures.dimension in
    search (rules, c.table.ensures.kind, edges, c.requires.regular, c.requires.axes, c.requires.iso)

pub returns-clause-surface : goal.returns-clause-surface
returns-clause-surface g c =
    let fits : FitsSigned w64 c.args.iso = search rules in
    let same : to_z w64 (of_z w64 c.args.iso) ≡ c.args.iso = to_z-of_z w64 c.args.iso fits in
    let suited = suits g.C.Cell.KIND g.row.D c.args.grid.now c.table.result.now c.requires.regular c.table.ensures.whole c.table.ensures.accepted
    c.table.ensures.kind c.table.ensures.dimension c.requires.axes in
    holds_of IsIsosurface g.C.Cell.KIND c.args.grid.now c.table.result.now c.args.iso (to_z w64 (of_z w64 c.args.iso)) c.place.result same
    c.place.ensures.mesh (isosurface g.C.Cell.KIND c.args.grid.now c.table.result.now (to_z w64 (of_z w64 c.args.iso)) suited)

pub returns-clause-outer : goal.returns-clause-outer
returns-clause-outer g c =
    let fits : FitsSigned w64 c.args.iso = search rules in
    let same : to_z w64 (of_z w64 c.args.iso) ≡ c.args.iso = to_z-of_z w64 c.args.iso fits in
    let suited = suits g.C.Cell.KIND g.row.D c.args.grid.now c.table.result.now c.requires.regular c.table.ensures.whole c.table.ensures.accepted
    c.table.ensures.kind c.table.ensures.dimension c.requires.axes in
    holds_of (λ (v : Volume) (m : Mesh). FacesAreOuter v m.simplices) g.C.Cell.KIND c.args.grid.now c.table.result.now c.args.iso
    (to_z w64 (of_z w64 c.args.iso)) c.place.result same c.place.ensures.mesh
    (outer g.C.Cell.KIND c.args.grid.now c.table.result.now (to_z w64 (of_z w64 c.args.iso)) suited)

pub returns-clause-walks : goal.returns-clause-walks
returns-clause-walks g c three =
    let fits : FitsSigned w64 c.args.iso = search rules in
    let same : to_z w64 (of_z w64 c.args.iso) ≡ c.args.iso = to_z-of_z w64 c.args.iso fits in
    let suited = suits g.C.Cell.KIND g.row.D c.args.grid.now c.table.result.now c.requires.regular c.table.ensures.whole c.table.ensures.accepted
    c.table.ensures.kind c.table.ensures.dimension c.requires.axes in
    holds_of (λ (v : Volume) (m : Mesh). IsLinkedByWalks v m.simplices) g.C.Cell.KIND c.args.grid.now c.table.result.now c.args.iso
    (to_z w64 (of_z w64 c.args.iso)) c.place.result same c.place.ensures.mesh
    (linked_by_walks g.C.Cell.KIND c.args.grid.now c.table.result.now (to_z w64 (of_z w64 c.args.iso)) suited (c.requires.axes ∙ three))
