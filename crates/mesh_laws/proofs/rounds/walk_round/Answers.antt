use Rattle.std.proofs.Common.{ap, nat_eq, length, rules, ◌≡◌}
use Rattle.mesh_laws.proofs.RoundWalks.{is_walk}
use Rattle.mesh_laws.proofs.rounds.walk_round.Goals as goal

pub returns : goal.returns
returns c =
    let n : c.len.result ≡ length c.meet.new.order.items = search rules in
    is_walk c.args.corners.now c.meet.new.order.items c.in_ok-trail-inside.field-0 _ c.in_ok-trail-inside.ensures
    (ap (λ n. nat_eq n (length c.args.corners.now)) n)
