use Rattle.std.proofs.Common.{length}
use Rattle.mixed_cubes.proofs.places.+cube_count.Given as goal

abbrev pub decreases-cube_count : goal.decreases-cube_count
decreases-cube_count l = length l.sizes.now
