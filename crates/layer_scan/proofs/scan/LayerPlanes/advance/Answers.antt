use Rattle.std.proofs.Common.{◌∙◌}
use Rattle.layer_scan.proofs.StatesTold.{stands_moved}
use Rattle.layer_scan.proofs.scan.LayerPlanes.advance.Goals as goal

pub returns-clause-moved : goal.returns-clause-moved
returns-clause-moved c = λ i. record c.args.self.now {
  below_signs = c.swap.ensures.x_after i;
  lower_signs = (c.swap-2.ensures.x_after i);
  upper_signs = (c.swap-2.ensures.y_after ∙ c.swap.ensures.y_after) i;
  lower_clear = c.swap-3.ensures.x_after i;
  upper_clear = c.swap-3.ensures.y_after i;
  kept_below = c.swap-4.ensures.x_after i;
  kept = c.swap-4.ensures.y_after i;
}

pub returns-clause-told : goal.returns-clause-told
returns-clause-told c = λ v s stands. stands_moved v s c.args.self.now _ (returns-clause-moved c) stands
