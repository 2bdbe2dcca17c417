use Rattle.std.specs.Prelude.{pos}
use Rattle.iso_words.proofs.NumberLemmas.{short_fits}
use Rattle.iso_words.proofs.values.seed.Goals as goal

pub returns-in_default : goal.returns-in_default
returns-in_default c = λ n h. c.in_default.ensures (pos n) (short_fits n h.1) h.0
