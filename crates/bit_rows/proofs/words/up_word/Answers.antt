use Rattle.bit_rows.proofs.WordBits.{up_high, up_low}
use Rattle.bit_rows.proofs.words.up_word.Goals as goal

pub returns-clause-bits : goal.returns-clause-bits
returns-clause-bits c = λ k low. up_high c.args.word c.args.previous k c.ranges.previous.fits low

pub returns-clause-first : goal.returns-clause-first
returns-clause-first c = up_low c.args.word c.args.previous
