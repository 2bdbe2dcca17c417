-- Those that lie within the new one are dropped, and it is added.
use Rattle.std.proofs.Common.{◌≡◌, ◌∷◌, [], ◌++◌, List, ap, ◌∙◌, subst, false}
use Rattle.hull_dd.specs.declared.generators.Generator.{Generator}
use Rattle.hull_dd.specs.Generators.{is_within_some}
use Rattle.hull_dd.proofs.Kept.{kept_new}
use Rattle.hull_dd.proofs.prune.keep.Goals as goal

pub returns-in-Ok : goal.returns-in-Ok
returns-in-Ok g c =
    c.in-Ok.ensures.items ∙ ap (λ (xs : List (Generator g.row.D)). xs ++ c.args.new ∷ []) c.drop_within.ensures
    ∙ kept_new g.row.D c.args.new c.args.generators.now.items
    (subst (λ (xs : List (Generator g.row.D)). false ≡ is_within_some c.args.new.tight xs) c.deref.ensures.value c.if-is_within_some.ensures)
