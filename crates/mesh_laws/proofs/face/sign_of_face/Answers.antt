use Rattle.std.proofs.Common.{sym, ◌∙◌}
use Rattle.std.specs.Prelude.{count_by, nat_lt}
use Rattle.lists.specs.Orders.{inversions}
use Rattle.mesh_laws.proofs.FaceOf.{sign_none, sign_of_free, sign_odd, sign_even}
use Rattle.lists.proofs.MemberLaws.{In_of_has, not_In_of_has}
use Rattle.mesh_laws.proofs.face.sign_of_face.Goals as goal

pub returns-then-not-has_face-clause-value : goal.returns-then-not-has_face-clause-value
returns-then-not-has_face-clause-value g c = sym (sign_none c.args.face.now c.args.simplex.now (sym c.if-not-has_face.ensures))

pub returns-then-order-rank-eq1-clause-value : goal.returns-then-order-rank-eq1-clause-value
returns-then-order-rank-eq1-clause-value g c =
    let x = c.free_number-free.result in
    let w = c.args.simplex.now in
    let sign =
    sign_of_free c.args.face.now w x (sym c.if-not-has_face.ensures) (In_of_has w x c.free_number-free.ensures.within)
    (not_In_of_has c.args.face.now x c.free_number-free.ensures.free) in
    sym
    (sign
    ∙ sign_odd (inversions w) (count_by (λ y. nat_lt y x) w)
    (rw (c.order_parity-order.ensures, c.count_below-rank.ensures) at c.if-order-rank-eq1.true))

pub returns-else-order-rank-eq1-clause-value : goal.returns-else-order-rank-eq1-clause-value
returns-else-order-rank-eq1-clause-value g c =
    let x = c.free_number-free.result in
    let w = c.args.simplex.now in
    let sign =
    sign_of_free c.args.face.now w x (sym c.if-not-has_face.ensures) (In_of_has w x c.free_number-free.ensures.within)
    (not_In_of_has c.args.face.now x c.free_number-free.ensures.free) in
    sym
    (sign
    ∙ sign_even (inversions w) (count_by (λ y. nat_lt y x) w)
    (rw (c.order_parity-order.ensures, c.count_below-rank.ensures) at c.if-order-rank-eq1.false))
