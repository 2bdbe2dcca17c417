use Rattle.std.proofs.Common.{take}
use Rattle.std.specs.Prelude.{All}
use Rattle.nrrd_raw.specs.Shapes.{InRange}
use Rattle.nrrd_raw.proofs.samples.grids.are_samples.Given as goal

abbrev pub invariant-loop-sample : goal.invariant-loop-sample
invariant-loop-sample l = All InRange (take l.sample-index l.samples)
