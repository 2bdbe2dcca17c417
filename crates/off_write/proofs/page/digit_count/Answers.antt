use Rattle.std.proofs.Common.{arith}
use Rattle.std.proofs.lemmas.Fmt.{length-decimal-le}
use Rattle.off_write.proofs.Texts.{length_one, length_two, length_three, length_short, length_four}
use Rattle.off_write.proofs.page.digit_count.Goals as goal

pub loop-left-init : goal.loop-left-init
loop-left-init c = (omega arith, length-decimal-le 20 c.args.number (omega arith) (omega arith) (omega arith))

pub loop-left-preserved : goal.loop-left-preserved
loop-left-preserved c = (omega (arith, length_four c.loop-left.left c.loop-left-test.true c.loop-left.auto.left-fits.fits), c.loop-left.invariant.1)

pub returns-then-left-lt10 : goal.returns-then-left-lt10
returns-then-left-lt10 c = omega (arith, length_one c.loop-left.left c.if-left-lt10.true)

pub returns-then-left-lt100 : goal.returns-then-left-lt100
returns-then-left-lt100 c = omega (arith, length_two c.loop-left.left c.if-left-lt10.false c.if-left-lt100.true)

pub returns-then-left-lt1000 : goal.returns-then-left-lt1000
returns-then-left-lt1000 c = omega (arith, length_three c.loop-left.left c.if-left-lt100.false c.if-left-lt1000.true)

pub returns-else-left-lt1000 : goal.returns-else-left-lt1000
returns-else-left-lt1000 c = omega (arith, length_short c.loop-left.left c.if-left-lt1000.false (omega arith))
