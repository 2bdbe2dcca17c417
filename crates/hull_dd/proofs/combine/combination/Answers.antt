use Rattle.hull_dd.proofs.Products.{products}
use Rattle.hull_dd.proofs.combine.combination.Goals as goal

pub overflow_sub-result : goal.overflow_sub-result
overflow_sub-result g c =
    (products c.args.p c.args.one.now.bound c.args.q c.args.other.now.bound c.requires.p_small c.requires.one_constant c.requires.q_small
    c.requires.other_constant).both

pub returns-clause-bound : goal.returns-clause-bound
returns-clause-bound g c =
    (products c.args.p c.args.one.now.bound c.args.q c.args.other.now.bound c.requires.p_small c.requires.one_constant c.requires.q_small
    c.requires.other_constant).value

pub returns-clause-constant : goal.returns-clause-constant
returns-clause-constant g c =
    (products c.args.p c.args.one.now.bound c.args.q c.args.other.now.bound c.requires.p_small c.requires.one_constant c.requires.q_small
    c.requires.other_constant).read_small
