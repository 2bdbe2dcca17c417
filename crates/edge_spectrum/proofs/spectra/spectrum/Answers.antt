use Rattle.std.proofs.Common.{ap, sym, subst, ◌∙◌, ◌+◌, ◌≡◌, length, w64, to_z, of_z}
use Rattle.std.specs.Prelude.{replicate}
use Rattle.iso_model.specs.declared.Kind.{Kind}
use Rattle.iso_model.specs.Cells.{HasDimension}
use Rattle.edge_spectrum.specs.Growing.{Grows, IsNew}
use Rattle.edge_spectrum.specs.Spectrum.{edges_at, isovalues}
use Rattle.edge_spectrum.proofs.AllCounted.{counted_all}
use Rattle.edge_spectrum.proofs.StepSums.{small_fits}
use Rattle.edge_spectrum.proofs.spectra.spectrum.Goals as goal
use Rattle.std.proofs.lemmas.Result.{IfOk-weaker}

pub returns : goal.returns
returns g c =
    let kind = g.C.Cell.KIND in
    let grid = c.args.grid.now in
    let axes : length grid.sizes ≡ g.row.D = ap length (sym c.requires.sizes) ∙ c.cells-has_cells.ensures.axes in
    let fits : HasDimension kind (length grid.sizes) = subst (HasDimension kind) (sym axes) g.met.C.Cell.has_dimension in
    let from : to_z w64 (of_z w64 c.args.from) ≡ c.args.from = small_fits c.args.from c.requires.from in
    let to : to_z w64 (of_z w64 c.args.to) ≡ c.args.to = small_fits c.args.to c.requires.to in
    let count : c.isovalues.result ≡ isovalues c.args.from c.args.to = c.isovalues.ensures.is ∙ (λ i. isovalues (from i) (to i)) in
    let new = c.in_ok-differences.ensures in
    let made : IsNew c.args.from (isovalues c.args.from c.args.to) c.in_ok-differences.differences =
    (new.0 ∙ from, new.1 ∙ count, new.2 ∙ ap (λ n. replicate (n + 1) 0) count) in
    IfOk-weaker c.counts.result _ _
    (λ counts is.
    is ∙ counted_all kind grid c.args.from c.args.to c.in_ok-differences.differences c.add_all.new.self c.requires.regular fits made
    (subst (λ (k : Kind). Grows c.in_ok-differences.differences c.add_all.new.self (edges_at k grid)) c.KIND.ensures c.add_all.ensures))
    c.counts.ensures
