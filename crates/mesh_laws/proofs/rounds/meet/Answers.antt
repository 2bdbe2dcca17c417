use Rattle.std.proofs.Common.{rules, sym, subst, ◌≡◌, ℕ, List, length, false, nat_eq}
use Rattle.std.specs.Option.{option_map_or}
use Rattle.mesh_laws.specs.Rounds.{IsMeeting, IsStart, ps_of, qs_of}
use Rattle.mesh_laws.proofs.RoundWalks.{is_meeting, meets_none, under, closes_by}
use Rattle.mesh_laws.proofs.rounds.meet.Goals as goal

pub returns-in_default : goal.returns-in_default
returns-in_default c =
    let none : length c.args.corners.now ≡ 0 = search rules in
    subst (λ (o : List ℕ). IsMeeting c.args.corners.now o false) (sym c.clear.ensures.items) (meets_none c.args.corners.now none)

pub returns : goal.returns
returns c =
    let closed : c.eq.result ≡ option_map_or (nat_eq c.in-Some.first) c.in_ok-next.next false =
    closes_by c.in_ok-next.next c.in-Some.first c.eq.result c.eq.ensures in
    let start : IsStart (ps_of c.args.corners.now) (qs_of c.args.corners.now) c.in-Some.first = search rules in
    is_meeting c.args.corners.now c.in-Some.first c.follow.new.order.items c.in_ok-next.next c.eq.result start
    (under c.args.corners.now c.in_ok-next.next c.in_ok-next.ensures.inside) c.in_ok-next.ensures.walks closed
