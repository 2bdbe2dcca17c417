use Rattle.std.proofs.Common.{◌≡◌, ℕ, ◌<◌, length, slice_index}
use Rattle.iso_cli.proofs.spectra.sizes_of.Given as goal

abbrev pub invariant-loop-axis : goal.invariant-loop-axis
invariant-loop-axis g l = (length l.sizes ≡ g.row.D) × ((i : ℕ) → i < l.axis → slice_index l.sizes i ≡ slice_index l.stated i)
