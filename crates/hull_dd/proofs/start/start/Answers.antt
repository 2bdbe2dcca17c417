-- One generator after the other, and all.
use Rattle.std.proofs.Common.{rules, ◌≡◌, ◌∙◌, ◌∷◌, [], ◌++◌, ◌<◌, ℕ, List, length, ap, subst, arith}
use Rattle.std.proofs.lemmas.List.Elements.{All-set}
use Rattle.lists.proofs.Tests.{not_empty}
use Rattle.hull_dd.specs.declared.generators.Generator.{Generator}
use Rattle.hull_dd.proofs.Starts.{HasOpposites, opposites_first, opposites_more, start_generates}
use Rattle.hull_dd.proofs.start.start.Goals as goal

pub loop-k-init : goal.loop-k-init
loop-k-init g c =
    opposites_first g.row.D c.args.points.now c.spread-corners.result c.push.new.generators.items c.in-Some.first
    (not_empty (length c.args.points.now) c.is_empty.result c.is_empty.ensures c.if-is_empty.false) c.in-Some.ensures
    (c.in_ok-push.ensures ∙ ap (λ (xs : List (Generator g.row.D)). xs ++ c.in-Some.first ∷ []) c.clear.ensures.items)

pub opposite-requires-in-loop-k : goal.opposite-requires-in-loop-k
opposite-requires-in-loop-k g c = (
  search rules,
  (
    search rules,
    (
      search rules,
      (
        c.requires.least,
        (
          c.requires.greatest,
          (
            c.requires.number,
            (
              c.requires.small,
              (
                c.requires.wide,
                (
                  All-set (λ i. i < length c.args.points.now) c.spread-corners.result c.loop-k.k 0
                      (not_empty (length c.args.points.now) c.is_empty.result c.is_empty.ensures c.if-is_empty.false) c.spread-corners.ensures,
                  c.spread-corners.ensures c.loop-k.k 0 (omega arith),
                ),
              ),
            ),
          ),
        ),
      ),
    ),
  ),
)

pub loop-k-preserved : goal.loop-k-preserved
loop-k-preserved g c =
    opposites_more g.row.D c.args.points.now c.spread-corners.result c.loop-k.generators.items c.push-in-loop-k.new.generators.items c.loop-k.k
    c.in-Some-opposite.next (omega arith) c.spread-corners.ensures
    c.in-Some-opposite.ensures c.loop-k.invariant c.in_ok-push-2.ensures

pub returns : goal.returns
returns g c =
    start_generates g.row.D c.args.points.now c.spread-corners.result c.set_of.result c.loop-k.generators.items c.set_of.ensures
    (subst (λ (n : ℕ). HasOpposites g.row.D c.args.points.now c.spread-corners.result n c.loop-k.generators.items) (omega arith) c.loop-k.invariant)
    c.spread-corners.ensures
    (not_empty (length c.args.points.now) c.is_empty.result c.is_empty.ensures c.if-is_empty.false)
