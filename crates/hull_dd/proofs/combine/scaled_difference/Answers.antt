-- Nothing wraps, and the row is written number by number.
use Rattle.std.proofs.Common.{◌≡◌, ◌<◌, ◌*ℤ◌, ◌-ℤ◌, ◌∙◌, ℕ, get_or, pos, length, length-set, arith, sym}
use Rattle.polynomials.proofs.SmallLaws.{written_more}
use Rattle.hull_dd.proofs.Products.{Products, products, factors_back, row_is, row_small, coefficient, back}
use Rattle.hull_dd.proofs.combine.scaled_difference.Given as given
use Rattle.hull_dd.proofs.combine.scaled_difference.Goals as goal

facts : (g : given.Over) (c : goal.After-row-in-loop-i-1 g)
    → Products c.args.p (get_or c.args.xs.now c.loop-i.i (pos 0)) c.args.q (get_or c.args.ys.now c.loop-i.i (pos 0))
facts g c =
    products c.args.p (get_or c.args.xs.now c.loop-i.i (pos 0)) c.args.q (get_or c.args.ys.now c.loop-i.i (pos 0))
    c.requires.p_small (coefficient c.args.xs.now c.loop-i.i c.requires.xs_small (omega arith)) c.requires.q_small
    (coefficient c.args.ys.now c.loop-i.i c.requires.ys_small (omega arith))

pub overflow_mul-row-in-loop-i : goal.overflow_mul-row-in-loop-i
overflow_mul-row-in-loop-i g c = (facts g c).second

pub overflow_sub-row : goal.overflow_sub-row
overflow_sub-row g c = (facts g c).both

pub loop-i-preserved : goal.loop-i-preserved
loop-i-preserved g c = record {
  all = length-set _ _ _ ∙ c.loop-i.invariant.all;
  same = written_more c.loop-i.row c.loop-i.i _ (λ k. back c.args.p *ℤ get_or c.args.xs.now k (pos 0) -ℤ back c.args.q *ℤ get_or c.args.ys.now k (pos 0))
      (omega arith)
      ((facts g c).value ∙ sym (factors_back c.args.p (get_or c.args.xs.now c.loop-i.i (pos 0)) c.args.q (get_or c.args.ys.now c.loop-i.i (pos 0))
      c.requires.p_small c.requires.q_small))
      c.loop-i.invariant.same;
}

same : (g : given.Over) (c : goal.After-loop-i g) (k : ℕ) → k < length c.args.xs.now
    → get_or c.loop-i.row k (pos 0) ≡ c.args.p *ℤ get_or c.args.xs.now k (pos 0) -ℤ c.args.q *ℤ get_or c.args.ys.now k (pos 0)
same g c k l =
    c.loop-i.invariant.same k (omega arith)
    ∙ factors_back c.args.p (get_or c.args.xs.now k (pos 0)) c.args.q (get_or c.args.ys.now k (pos 0)) c.requires.p_small c.requires.q_small

pub returns-clause-value : goal.returns-clause-value
returns-clause-value g c = row_is c.args.p c.args.q c.loop-i.row c.args.xs.now c.args.ys.now (omega arith) (omega arith) (same g c)

pub returns-clause-small : goal.returns-clause-small
returns-clause-small g c =
    row_small c.args.p c.args.q c.loop-i.row c.args.xs.now c.args.ys.now (omega arith) (omega arith) c.requires.p_small c.requires.q_small
    c.requires.xs_small c.requires.ys_small (same g c)
