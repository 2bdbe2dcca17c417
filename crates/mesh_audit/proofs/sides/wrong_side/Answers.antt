use Rattle.std.proofs.Common.{sym, ◌∙◌}
use Rattle.mesh_audit.proofs.SignedKeyLists.{once_glued}
use Rattle.mesh_audit.proofs.sides.wrong_side.Goals as goal

pub returns-then-are_all_once-clause-none : goal.returns-then-are_all_once-clause-none
returns-then-are_all_once-clause-none g c =
    once_glued c.args.simplices.now c.args.keys.now c.requires.distinct c.requires.keys (sym c.are_all_once.ensures ∙ c.if-are_all_once.true)
