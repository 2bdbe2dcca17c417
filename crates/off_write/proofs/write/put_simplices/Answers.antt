use Rattle.std.proofs.Common.{arith, ◌∷◌, map, append-nil}
use Rattle.std.specs.Fmt.{decimal}
use Rattle.iso_formats.specs.MeshText.{line}
use Rattle.off_write.specs.Pages.{simplex_lines}
use Rattle.off_write.proofs.Waiting.{waits_all, lines_front, lines_more, on_err}
use Rattle.off_write.proofs.write.put_simplices.Goals as goal

pub loop-simplex-init : goal.loop-simplex-init
unfolding simplex_lines
loop-simplex-init g c = (omega arith, rw (append-nil c.args.page.now) (waits_all _ _))

pub returns-in_err-make_room-clause-front : goal.returns-in_err-make_room-clause-front
unfolding simplex_lines
returns-in_err-make_room-clause-front g c =
    on_err c.from_residual.result
    (lines_front (λ w. line (decimal g.row.D ∷ map decimal w)) _ _ _ c.args.page.now _ c.loop-simplex.simplex-index c.args.simplices.now
    c.loop-simplex.invariant.1 c.in_err-make_room.ensures.front)

pub loop-simplex-preserved : goal.loop-simplex-preserved
unfolding simplex_lines
loop-simplex-preserved g c = (
  omega (arith, c.in_ok-make_room.ensures.faults.later, c.loop-simplex.invariant.0),
  rw c.push_simplex.ensures.text
      (lines_more (λ w. line (decimal g.row.D ∷ map decimal w)) _ _ _ c.args.page.now _ _ c.loop-simplex.simplex-index c.args.simplices.now _
      c.loop-simplex-test.true c.simplex-item.is c.loop-simplex.invariant.1 c.in_ok-make_room.ensures.waits),
)
