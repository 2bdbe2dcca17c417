use Rattle.std.proofs.Common.{◌++◌, take, arith}
use Rattle.std.proofs.lemmas.Grind.{common_steps}
use Rattle.std.proofs.KnownBytes.{Consumes-trans}
use Rattle.iso_cli.proofs.read.read_front.Goals as goal

pub returns-in_err-extend_from_slice-clause-taken :
    goal.returns-in_err-extend_from_slice-clause-taken
returns-in_err-extend_from_slice-clause-taken g c = (
  c.loop-piece.bytes.items ++ take c.in_ok-count.count c.take.new.buf,
  grind (arith, common_steps),
  Consumes-trans _ _ _ _ _ c.loop-piece.invariant.taken c.in_ok-count.ensures.taken.0,
)
