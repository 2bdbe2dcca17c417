use Rattle.std.proofs.Common.{append_assoc}
use Rattle.off_write.specs.Pages.{head}
use Rattle.off_write.proofs.lines.push_head.Goals as goal

pub returns : goal.returns
unfolding head
returns c =
    record {
      text = rw (c.push_all.ensures, c.push_number-2.ensures.text, c.push.ensures, c.push_number.ensures.text, c.push_format.ensures.text)
          (simp append_assoc);
    }
