use Rattle.std.proofs.Common.{◌<◌, List, All, ℕ, arith, subst, sym, take}
use Rattle.std.proofs.lemmas.List.{take_more_set}
use Rattle.std.proofs.lemmas.List.Elements.{All-push}
use Rattle.halfspace.proofs.choices.with_next.Goals as goal

pub returns-clause-more : goal.returns-clause-more
returns-clause-more g c = take_more_set c.args.chosen.now c.args.filled c.args.next (omega arith)

pub returns-clause-inside : goal.returns-clause-inside
returns-clause-inside g c =
    λ n h k. subst (λ (xs : List ℕ). All (λ i. i < n) xs) (sym (take_more_set c.args.chosen.now c.args.filled c.args.next (omega arith)))
    (All-push (λ i. i < n) (take c.args.filled c.args.chosen.now) c.args.next h k)
