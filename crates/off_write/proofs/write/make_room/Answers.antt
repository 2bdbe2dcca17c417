use Rattle.off_write.proofs.Waiting.{waits_all, waits_none}
use Rattle.off_write.proofs.write.make_room.Goals as goal

pub returns-in_ok-put_page-clause-waits : goal.returns-in_ok-put_page-clause-waits
returns-in_ok-put_page-clause-waits g c = rw c.in_ok-put_page.ensures.empty (waits_none _ _ _ c.in_ok-put_page.ensures.all)

pub returns-else-len-clause-waits : goal.returns-else-len-clause-waits
returns-else-len-clause-waits g c = waits_all _ _
