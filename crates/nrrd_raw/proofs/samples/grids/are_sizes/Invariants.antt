use Rattle.std.proofs.Common.{take}
use Rattle.nrrd_raw.specs.Shapes.{AreSizes}
use Rattle.nrrd_raw.proofs.samples.grids.are_sizes.Given as goal

abbrev pub invariant-loop-size : goal.invariant-loop-size
invariant-loop-size l = AreSizes (take l.size-index l.sizes)
