use Rattle.face_tallies.proofs.AddedParts.{put_adds}
use Rattle.face_tallies.proofs.gather.add_part.Goals as goal

pub returns-then-slot-places : goal.returns-then-slot-places
returns-then-slot-places c = rw c.in_ok-put.ensures (put_adds _ c.args.part c.args.parts.now.items c.requires.weighed c.requires.one_weighed)

pub returns-then-len-end : goal.returns-then-len-end
returns-then-len-end c = rw c.in_ok-put-2.ensures (put_adds _ c.args.part c.args.parts.now.items c.requires.weighed c.requires.one_weighed)

pub returns-else-len-end : goal.returns-else-len-end
returns-else-len-end c = rw c.in_ok-put-2.ensures (put_adds _ c.args.part c.args.parts.now.items c.requires.weighed c.requires.one_weighed)
