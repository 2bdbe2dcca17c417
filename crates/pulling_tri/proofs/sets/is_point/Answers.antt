use Rattle.pulling_tri.proofs.PointSetLaws.{shift-point, point-shift}
use Rattle.lists.proofs.Tests.{equal_of, of_equal}
use Rattle.pulling_tri.proofs.sets.is_point.Goals as goal

pub returns : goal.returns
returns c = (
  λ t. shift-point c.args.set c.requires c.ranges.set.fits (equal_of c.args.set _ t),
  λ l. of_equal c.args.set _ (point-shift c.args.set c.requires c.ranges.set.fits l),
)
