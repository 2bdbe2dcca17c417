use Rattle.std.proofs.Common.{Result, Ok, Err, IfOk}
use Rattle.pulling_tri.proofs.FaceSets.{next_sets}
use Rattle.std.proofs.lemmas.Result.{IfOk-weaker}
use Rattle.pulling_tri.proofs.faces.faces_without_first.Goals as goal

pub returns : goal.returns
returns c =
    IfOk-weaker c.maximal_meets.result _ _
    (λ faces e facets are.
    next_sets facets c.args.set c.args.meets.now faces.items c.first_point.result c.ranges.set.fits c.first_point.ensures.below
    c.first_point.ensures.least are e)
    c.maximal_meets.ensures
