use Rattle.std.proofs.Common.{ap, ◌==◌, w32}
use Rattle.std.proofs.lemmas.Nat.Bits.{bit_at_clear_same}
use Rattle.face_tallies.proofs.DistinctSets.{cleared_other}
use Rattle.face_tallies.proofs.signs.without_edge.Goals as goal

pub returns-clause-same : goal.returns-clause-same
returns-clause-same c = ap (λ n. n == 1) (bit_at_clear_same w32 c.args.set c.args.edge c.requires)

pub returns-clause-others : goal.returns-clause-others
returns-clause-others c = λ e n. cleared_other c.args.set c.args.edge e c.ranges.set.fits c.requires n
