use Rattle.bit_rows.proofs.WordBits.{down_low, down_high}
use Rattle.bit_rows.proofs.words.down_word.Goals as goal

pub returns-clause-bits : goal.returns-clause-bits
returns-clause-bits c = λ k low. down_low c.args.word c.args.next k low

pub returns-clause-last : goal.returns-clause-last
returns-clause-last c = down_high c.args.word c.args.next c.ranges.word.fits
