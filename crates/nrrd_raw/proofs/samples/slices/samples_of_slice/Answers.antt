use Rattle.std.proofs.Common.{◌≡◌, ◌-◌, ◌≤◌, length, get_or, arith}
use Rattle.nrrd_raw.proofs.SliceLaws.{slice-size}
use Rattle.nrrd_raw.proofs.samples.slices.samples_of_slice.Goals as goal

pub returns : goal.returns
returns c =
    let sizes = c.args.header.now.sizes in
    let some : 1 ≤ length sizes = omega (arith, c.requires.regular.two_axes) in
    let last : (1 ≤ get_or sizes (length sizes - 1) 0) × (get_or sizes (length sizes - 1) 0 ≤ 4294967295) =
    c.requires.regular.sized (length sizes - 1) 0 (omega (arith, some)) in
    rw (c.sample_count.ensures, c.from.ensures, c.number_of_slices.ensures) (slice-size sizes some last.0)
