use Rattle.std.proofs.Common.{refl, subst}
use Rattle.iso_model.specs.OrderedAcceptance.{ordered_seams}
use Rattle.table_check.specs.Verdicts.{IsVerdictOver}
use Rattle.table_check.proofs.ordered.certify_ordered.Goals as goal

pub returns-in-Ok-Refused-clause-handed_back : goal.returns-in-Ok-Refused-clause-handed_back
returns-in-Ok-Refused-clause-handed_back c = (refl, subst (IsVerdictOver ordered_seams c.args.table) c.in-Ok-Refused.field-0-is c.in-Ok-Refused.ensures)
