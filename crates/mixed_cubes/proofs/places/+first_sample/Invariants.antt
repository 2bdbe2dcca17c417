use Rattle.std.proofs.Common.{length}
use Rattle.mixed_cubes.proofs.places.+first_sample.Given as goal

abbrev pub decreases-first_sample : goal.decreases-first_sample
decreases-first_sample l = length l.sizes.now
