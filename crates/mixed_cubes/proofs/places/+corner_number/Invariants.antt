use Rattle.std.proofs.Common.{length}
use Rattle.mixed_cubes.proofs.places.+corner_number.Given as goal

abbrev pub decreases-corner_number : goal.decreases-corner_number
decreases-corner_number l = length l.sizes.now
