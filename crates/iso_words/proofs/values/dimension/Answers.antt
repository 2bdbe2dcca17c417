use Rattle.std.specs.Prelude.{pos}
use Rattle.std.proofs.Common.{arith}
use Rattle.iso_words.proofs.NumberLemmas.{short_fits}
use Rattle.iso_words.proofs.values.dimension.Goals as goal

pub returns-in_default : goal.returns-in_default
returns-in_default c = λ d h. c.in_default.ensures (pos d) (short_fits d (omega (arith, h.2))) h.0
