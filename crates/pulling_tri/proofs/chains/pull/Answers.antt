-- The simplices of all chains from the face, sorted, each once.
use Rattle.std.proofs.Common.{ℕ, List, [], map, Contains, subst}
use Rattle.std.proofs.lemmas.List.Filters.{dedup_is}
use Rattle.pulling_tri.specs.PointSets.{point_set}
use Rattle.pulling_tri.specs.Pulling.{AddsPulled}
use Rattle.pulling_tri.proofs.PointSetLaws.{points-ascend}
use Rattle.pulling_tri.proofs.PulledTuples.{pulled_list}
use Rattle.pulling_tri.proofs.chains.pull.Goals as goal

pub returns : goal.returns
returns g c =
    pulled_list (Contains (map point_set c.args.facets.now)) g.row.D (point_set c.args.face) c.go_on.new.simplices.items
    c.sort_unstable.new.self.items c.dedup.new.self.items
    (points-ascend c.args.face)
    (subst (λ (old : List (List ℕ)). AddsPulled (Contains (map point_set c.args.facets.now)) g.row.D [] (point_set c.args.face) old c.go_on.new.simplices.items)
    c.new-simplices.ensures.items c.in_ok-go_on.ensures)
    c.sort_unstable.ensures.permutation c.sort_unstable.ensures.sorted (dedup_is _ _ _ c.dedup.ensures.filtered)
