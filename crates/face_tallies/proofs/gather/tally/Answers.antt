use Rattle.face_tallies.proofs.AddedParts.{adds_permutation}
use Rattle.face_tallies.proofs.TallyLaws.{tallies_of_merge}
use Rattle.face_tallies.proofs.gather.tally.Goals as goal

pub merge-requires-clause-weighed : goal.merge-requires-clause-weighed
merge-requires-clause-weighed g c = rw c.deref.ensures.value (adds_permutation _ _ _ _ c.in_ok-gather.ensures.adds c.sort.ensures.reordered).weighed

pub returns : goal.returns
returns g c =
    tallies_of_merge g.row.D c.args.tuples.now c.gather.new.parts.items c.sort.new.parts.items c.merge.new.tallies.items c.in_ok-gather.ensures.wide
    c.requires.edges
    c.in_ok-gather.ensures.adds c.sort.ensures.reordered (rw c.deref.ensures.value at c.in_ok-merge.ensures.adds) c.in_ok-merge.ensures.ascending
