use Rattle.halfspace.proofs.DivisorLaws.{quotient_is}
use Rattle.halfspace.proofs.lowest_terms.quotient.Goals as goal

pub returns : goal.returns
returns c = quotient_is c.args.number c.args.divisor c.requires.not_zero c.requires.small c.requires.divides c.ranges.number
