use Rattle.std.proofs.Common.{◌≡◌}
use Rattle.std.specs.Prelude.{flat_map, slice_index}
use Rattle.lists.specs.Orders.{numbers}
use Rattle.edge_spectrum.specs.Spectrum.{iso_after}
use Rattle.iso_cli.specs.Spectra.{count_line}
use Rattle.iso_cli.proofs.spectra.lines.Given as goal

abbrev pub invariant-loop-i : goal.invariant-loop-i
invariant-loop-i l = l.bytes.items ≡ flat_map (λ i. count_line (iso_after l.from i) (slice_index l.counts i)) (numbers l.i)
