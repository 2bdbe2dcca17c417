use Rattle.std.proofs.Common.{rules}
use Rattle.iso_cli.proofs.Counting.{one_line}
use Rattle.iso_cli.proofs.spectra.lines.Goals as goal

pub loop-i-preserved : goal.loop-i-preserved
loop-i-preserved c =
    one_line _ c.args.counts.now c.loop-i.i c.loop-i.bytes.items c.extend_from_slice.new.self.items c.as_bytes.result.now c.loop-i.invariant
    c.in-Ok.ensures.items (search (rules, c.as_bytes.ensures.value, c.as_str.ensures.value, c.line_of-line.ensures))
