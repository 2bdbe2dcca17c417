use Rattle.std.proofs.Common.{append_assoc}
use Rattle.off_write.specs.Pages.{format_lines}
use Rattle.off_write.proofs.Parts.{format_not_three}
use Rattle.off_write.proofs.lines.push_format.Goals as goal

pub returns-then-dimension-eq3-clause-text : goal.returns-then-dimension-eq3-clause-text
unfolding format_lines
returns-then-dimension-eq3-clause-text c = rw c.if-dimension-eq3.true c.push_all.ensures

pub returns-else-dimension-eq3-clause-text : goal.returns-else-dimension-eq3-clause-text
returns-else-dimension-eq3-clause-text c =
    rw (format_not_three c.args.dimension c.if-dimension-eq3.false, c.push.ensures, c.push_number.ensures.text, c.push_all-else-dimension-eq3.ensures)
    (simp append_assoc)
