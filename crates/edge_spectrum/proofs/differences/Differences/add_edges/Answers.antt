use Rattle.std.proofs.Common.{ap, arith, sym, subst, ◌∙◌, ◌-◌, ◌≡◌, ℕ, List, length, take}
use Rattle.std.specs.Prelude.{slice_index}
use Rattle.iso_model.specs.Cells.{HasDimension}
use Rattle.iso_model.specs.Values.{Grid}
use Rattle.grid_rows.specs.MiddleAxes.{AreFewRows, axis_of}
use Rattle.nrrd_raw.specs.Shapes.{axes-stated}
use Rattle.edge_spectrum.proofs.RowRoom.{few_rows}
use Rattle.edge_spectrum.proofs.Walked.{edges_grown}
use Rattle.edge_spectrum.proofs.differences.Differences.add_edges.Goals as goal

pub new-rows-requires-clause-few : goal.new-rows-requires-clause-few
new-rows-requires-clause-few g c =
    let sizes : List ℕ = c.args.grid.now.sizes in
    let view : take c.grid.inside.dims c.grid.inside.sizes ≡ sizes = ap (λ (o : Grid). o.sizes) c.grid.view_is in
    let dims : c.grid.inside.dims ≡ g.row.D = sym (axes-stated c.grid.inside.dims c.grid.inside.sizes c.grid.invariant) ∙ ap length view ∙ c.requires.axes in
    let same : take g.row.D c.grid.inside.sizes ≡ sizes = ap (λ d. take d c.grid.inside.sizes) (sym dims) ∙ view in
    subst (λ xs. AreFewRows (axis_of xs 1) (axis_of xs 2)) (sym same)
    (few_rows sizes c.requires.regular.two_axes c.requires.regular.four_axes c.requires.cubes c.requires.regular.few)

pub returns : goal.returns
returns g c =
    let sizes : List ℕ = c.args.grid.now.sizes in
    let view : take c.grid.inside.dims c.grid.inside.sizes ≡ sizes = ap (λ (o : Grid). o.sizes) c.grid.view_is in
    let dims : c.grid.inside.dims ≡ g.row.D = sym (axes-stated c.grid.inside.dims c.grid.inside.sizes c.grid.invariant) ∙ ap length view ∙ c.requires.axes in
    let same : take g.row.D c.grid.inside.sizes ≡ sizes = ap (λ d. take d c.grid.inside.sizes) (sym dims) ∙ view in
    let last : slice_index (take g.row.D c.grid.inside.sizes) (g.row.D - 1) ≡ slice_index sizes (length sizes - 1) =
    (λ i. slice_index (same i) (sym c.requires.axes i - 1)) in
    let fits : HasDimension c.args.kind (length sizes) = subst (HasDimension c.args.kind) (sym c.requires.axes) c.requires.fits in
    edges_grown c.args.kind c.args.grid.now _ c.args.self.now c.add_layers.new.self c.add_plane.new.self fits c.add_layers.ensures c.add_plane.ensures
    (omega (arith, last))
