use Rattle.std.proofs.Common.{rules}
use Rattle.nrrd_raw.proofs.GridLaws.{counts-all}
use Rattle.nrrd_raw.proofs.samples.grids.count_of.Goals as goal

pub overflow_mul-result : goal.overflow_mul-result
overflow_mul-result c =
    let known = counts-all c.args.sizes.now c.requires.two_axes c.requires.four_axes c.requires.sized in
    let fits = known.fits in
    rw (c.area.ensures, c.area-2.ensures, c.four_places-places.ensures) (search rules)

pub returns : goal.returns
returns c =
    let known = counts-all c.args.sizes.now c.requires.two_axes c.requires.four_axes c.requires.sized in
    rw (c.area.ensures, c.area-2.ensures, c.four_places-places.ensures) known.same
