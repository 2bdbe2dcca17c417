-- The facts of the half-space through the points.
use Rattle.std.proofs.Common.{rules, refl, ◌∷◌, [], lit≤}
use Rattle.small_turn.proofs.SpanLaws.{plane_facts}
use Rattle.small_turn.proofs.plane_of_four.Goals as goal

pub returns-clause-turns : goal.returns-clause-turns
returns-clause-turns g c =
    (plane_facts 4 g.row.D (lit≤ tt) (lit≤ tt) c.requires.alike c.plane_at.result.normal c.plane_at.result.bound c.args.p.now
    (c.args.q.now ∷ c.args.r.now ∷ c.args.s.now ∷ [])
    (search rules) (search rules) refl c.told-p (c.told-q, (c.told-r, (c.told-s, tt)))).turns

pub returns-clause-spans : goal.returns-clause-spans
returns-clause-spans g c =
    (plane_facts 4 g.row.D (lit≤ tt) (lit≤ tt) c.requires.alike c.plane_at.result.normal c.plane_at.result.bound c.args.p.now
    (c.args.q.now ∷ c.args.r.now ∷ c.args.s.now ∷ [])
    (search rules) (search rules) refl c.told-p (c.told-q, (c.told-r, (c.told-s, tt)))).spans
