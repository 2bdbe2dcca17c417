use Rattle.mixed_cubes.proofs.OneSign.{has_plain_label}
use Rattle.mixed_cubes.proofs.laws.plain_label_law.Goals as goal

pub returns : goal.returns
returns c = record { law = has_plain_label }
