use Rattle.std.proofs.Common.{arith, rules, ◌≡◌}
use Rattle.small_turn.proofs.TurnLaws.{without-last_of_four}
use Rattle.small_turn.proofs.minor_of_four.Goals as goal

pub returns-in_default : goal.returns-in_default
returns-in_default c = let e : c.args.k ≡ 3 = omega arith in rw e (search (rules, without-last_of_four c.args.row.now c.told-row))
