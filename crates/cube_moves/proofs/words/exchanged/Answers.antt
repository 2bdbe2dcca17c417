use Rattle.cube_moves.proofs.ExchangeBits.{exchanged_below, exchanged_signs}
use Rattle.cube_moves.proofs.ExchangeChecks.{small_label}
use Rattle.cube_moves.proofs.words.exchanged.Goals as goal

pub returns-clause-below : goal.returns-clause-below
returns-clause-below g c =
    exchanged_below g.row.D c.args.label c.args.by.now (small_label g.row.D c.args.label c.requires.dimension c.requires.label) c.requires.label c.requires.by

pub returns-clause-signs : goal.returns-clause-signs
returns-clause-signs g c =
    exchanged_signs g.row.D c.args.label c.args.by.now (small_label g.row.D c.args.label c.requires.dimension c.requires.label) c.requires.by
