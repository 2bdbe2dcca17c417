use Rattle.std.proofs.Common.{◌<◌, length, slice_index, arith}
use Rattle.std.proofs.lemmas.List.Elements.{All-from_get_or}
use Rattle.lists.proofs.MemberLaws.{mapped_from}
use Rattle.case_patch.proofs.patches.named.Goals as goal

pub returns-clause-named : goal.returns-clause-named
returns-clause-named g c = (
  All-from_get_or (λ i. i < length c.args.edges.now) c.args.simplex.now 0 (λ k h. c.loop-place.invariant.inside k (omega arith)),
  mapped_from (slice_index c.args.edges.now) c.args.simplex.now c.loop-place.tuple (omega arith) (λ k h. c.loop-place.invariant.same k (omega arith)),
)
