use Rattle.pulling_tri.proofs.PointSetLaws.{points-first}
use Rattle.pulling_tri.proofs.sets.first_point.Goals as goal

pub returns-clause-least : goal.returns-clause-least
returns-clause-least c = points-first c.args.set c.requires c.ranges.set.fits
