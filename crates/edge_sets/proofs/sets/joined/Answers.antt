use Rattle.std.proofs.Common.{ap, ◌∙◌, ◌==◌}
use Rattle.std.proofs.lemmas.Nat.Bits.{bit_at_or}
use Rattle.edge_sets.proofs.SetLaws.{set_or}
use Rattle.edge_sets.proofs.sets.joined.Goals as goal

pub returns : goal.returns
returns c = λ e. ap (λ n. n == 1) (bit_at_or c.args.set c.args.other e) ∙ set_or c.args.set c.args.other e
