use Rattle.iso_words.proofs.NumberLemmas.{isovalue_fits}
use Rattle.iso_words.proofs.values.isovalue.Goals as goal

pub returns-in_default : goal.returns-in_default
returns-in_default c = λ n h. c.in_default.ensures n (isovalue_fits n h.1 h.2) h.0
