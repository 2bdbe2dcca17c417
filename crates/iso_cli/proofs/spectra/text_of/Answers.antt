use Rattle.std.proofs.Common.{◌≡◌, ◌∙◌, ℤ, ap, length, subst, sym, w64, to_z, of_z}
use Rattle.std.specs.Prelude.{flat_map, slice_index, IfOk}
use Rattle.lists.specs.Orders.{numbers}
use Rattle.iso_model.specs.Values.{Grid}
use Rattle.nrrd_raw.specs.Shapes.{axes-stated}
use Rattle.edge_spectrum.specs.Spectrum.{iso_after, spectrum_of}
use Rattle.iso_cli.specs.Spectra.{count_line}
use Rattle.iso_cli.proofs.Counting.{counts_few, isovalue_is, lines_put}
use Rattle.iso_cli.proofs.spectra.text_of.Goals as goal

pub counts_of-requires-clause-axes : goal.counts_of-requires-clause-axes
counts_of-requires-clause-axes c =
    ap (λ (x : Grid). length x.sizes) (sym c.grid.view_is) ∙ axes-stated c.grid.inside.dims c.grid.inside.sizes c.grid.invariant

pub lines-requires-clause-few : goal.lines-requires-clause-few
lines-requires-clause-few c =
    let from = isovalue_is c.args.from c.requires.from in
    let to = isovalue_is c.args.to c.requires.to in
    let are : c.as_slice.result.now ≡ spectrum_of c.args.kind c.args.grid.now c.args.from c.args.to =
    c.as_slice.ensures.value ∙ c.in_ok-counts.ensures ∙ (λ i. spectrum_of c.args.kind c.args.grid.now (from i) (to i)) in
    counts_few c.args.kind c.args.grid.now c.args.from c.args.to c.as_slice.result.now c.requires.range are

pub returns : goal.returns
returns c =
    let from = isovalue_is c.args.from c.requires.from in
    let to = isovalue_is c.args.to c.requires.to in
    let are : c.as_slice.result.now ≡ spectrum_of c.args.kind c.args.grid.now c.args.from c.args.to =
    c.as_slice.ensures.value ∙ c.in_ok-counts.ensures ∙ (λ i. spectrum_of c.args.kind c.args.grid.now (from i) (to i)) in
    lines_put c.args.kind c.args.grid.now c.args.from c.args.to c.as_slice.result.now c.lines.result are
    (subst
    (λ (z : ℤ).
    IfOk c.lines.result
    (λ bytes.
    bytes.items
    ≡ flat_map (λ i. count_line (iso_after z i) (slice_index c.as_slice.result.now i)) (numbers (length c.as_slice.result.now))))
    from c.lines.ensures)
