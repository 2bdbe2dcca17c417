-- A sort only changes the order, and each number is kept once.
use Rattle.std.proofs.lemmas.List.Filters.{dedup_is}
use Rattle.pulling_tri.proofs.FaceSets.{meets_once}
use Rattle.pulling_tri.proofs.faces.proper_meets.Goals as goal

pub returns : goal.returns
returns c =
    meets_once c.args.facets.now c.args.set c.in_ok-meets.meets.items c.sort_unstable.new.self.items c.dedup.new.self.items c.in_ok-meets.ensures
    c.sort_unstable.ensures.permutation
    (dedup_is _ _ _ c.dedup.ensures.filtered)
