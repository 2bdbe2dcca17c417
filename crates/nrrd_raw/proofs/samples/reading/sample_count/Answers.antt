use Rattle.std.proofs.Common.{◌≤◌, length, rules, sym, ap, ◌∙◌, subst, List, ℕ}
use Rattle.iso_model.specs.Values.{product}
use Rattle.iso_formats.specs.GridFile.{Header}
use Rattle.nrrd_raw.specs.Shapes.{AreSizes}
use Rattle.nrrd_raw.proofs.SizeProducts.{counts}
use Rattle.nrrd_raw.proofs.samples.reading.sample_count.Goals as goal

pub overflow_mul-result : goal.overflow_mul-result
overflow_mul-result c =
    let sizes = ap (λ (h : Header). h.sizes) c.header.view_is in
    let known = counts c.header.inside.dims c.header.inside.sizes c.header.invariant
    (subst (λ (ns : List ℕ). 2 ≤ length ns) (sym sizes) c.requires.two_axes) (subst AreSizes (sym sizes) c.requires.sized) in
    let fits = known.fits in
    rw (c.area.ensures, c.area-2.ensures) (search rules)

pub returns : goal.returns
returns c =
    let sizes = ap (λ (h : Header). h.sizes) c.header.view_is in
    let known = counts c.header.inside.dims c.header.inside.sizes c.header.invariant
    (subst (λ (ns : List ℕ). 2 ≤ length ns) (sym sizes) c.requires.two_axes) (subst AreSizes (sym sizes) c.requires.sized) in
    rw (c.area.ensures, c.area-2.ensures) (known.same ∙ ap product sizes)
