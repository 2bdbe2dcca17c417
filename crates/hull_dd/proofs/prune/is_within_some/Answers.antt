use Rattle.std.proofs.Common.{sym, arith}
use Rattle.std.proofs.lemmas.List.Folds.{list_any_none}
use Rattle.hull_dd.specs.declared.generators.Generator.{Generator}
use Rattle.hull_dd.specs.Generators.{is_within}
use Rattle.hull_dd.proofs.prune.is_within_some.Goals as goal

pub returns : goal.returns
returns g c = sym (list_any_none (λ (x : Generator g.row.D). is_within c.args.set x.tight) c.args.generators.now
    (λ k d l. c.loop-generator.invariant k d (omega arith)))
