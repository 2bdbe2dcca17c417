use Rattle.std.proofs.lemmas.List.Filters.{dedup_is}
use Rattle.case_patch.proofs.OrderedTuples.{ordered_list}
use Rattle.case_patch.proofs.patches.put_in_order.Goals as goal

pub returns : goal.returns
returns g c =
    ordered_list g.row.D c.args.tuples.now.items c.sort_unstable.new.self.items c.dedup.new.self.items c.requires.wide
    c.sort_unstable.ensures.permutation c.sort_unstable.ensures.sorted (dedup_is _ _ _ c.dedup.ensures.filtered)
