use Rattle.std.proofs.Common.{◌≡◌, ◌≢◌, ℕ, ◌<◌, true, false, All}
use Rattle.iso_model.specs.declared.Kind.{Kind}
use Rattle.iso_model.specs.Tables.{IsTuple}
use Rattle.path_rule.specs.PathRule.{reaches, SuitsEdge, SuitsPair}
use Rattle.lists.specs.Bits.{is_set}
use Rattle.path_rule.proofs.rule.leads_across.Given as goal

abbrev pub invariant-loop-start : goal.invariant-loop-start
invariant-loop-start g l =
    (kind : Kind) (f h : ℕ) → All (IsTuple kind 3) l.tuples → SuitsPair kind f h l.first l.second l.edge → SuitsEdge kind l.edge l.tuples
    → (x : ℕ) → x < l.start → x ≢ l.edge → is_set l.first x ≡ true → reaches kind l.edge h x l.tuples ≡ false
