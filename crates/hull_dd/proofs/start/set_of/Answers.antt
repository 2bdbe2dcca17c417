-- One point more, and all.
use Rattle.std.proofs.Common.{ℕ, List, arith, subst}
use Rattle.std.proofs.lemmas.List.{take_all}
use Rattle.hull_dd.specs.Starts.{IsSetOf}
use Rattle.hull_dd.proofs.GeneratorLists.{set_more}
use Rattle.hull_dd.proofs.start.set_of.Goals as goal

pub loop-i-preserved : goal.loop-i-preserved
loop-i-preserved g c = set_more c.args.choice.now c.loop-i.i-index c.loop-i.set (omega arith) (c.requires c.loop-i.i-index 0 (omega arith)) c.loop-i.invariant

pub returns : goal.returns
returns g c = subst (λ (xs : List ℕ). IsSetOf xs c.loop-i.set) (take_all c.loop-i.i-index c.args.choice.now (omega arith)) c.loop-i.invariant
