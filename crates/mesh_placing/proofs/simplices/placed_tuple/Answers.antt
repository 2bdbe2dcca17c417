use Rattle.std.proofs.Common.{◌≡◌, ℕ, ◌+◌, ◌-◌, List, length, map, sym, ap, ◌∙◌, arith}
use Rattle.std.specs.Prelude.{slice_index}
use Rattle.std.specs.List.{swap}
use Rattle.std.proofs.lemmas.List.{length-map}
use Rattle.lists.specs.Orders.{exchange_last}
use Rattle.mesh_placing.proofs.FilledLists.{exchange_last-is}
use Rattle.lists.proofs.MemberLaws.{mapped_from}
use Rattle.mesh_placing.proofs.simplices.placed_tuple.Goals as goal

pub returns-then-odd : goal.returns-then-odd
returns-then-odd g c =
    let f : ℕ → ℕ = λ e. slice_index c.args.places.now e in
    let long : length c.args.tuple.now ≡ g.row.D = omega arith in
    let all : c.loop-place.simplex ≡ map f c.args.tuple.now =
    mapped_from f c.args.tuple.now c.loop-place.simplex (c.loop-place.invariant.0 ∙ sym long)
    (λ i h. c.loop-place.invariant.1 i (omega (arith, h, long, c.loop-place-test.false))) in
    let last : g.row.D - 2 + 1 ≡ g.row.D - 1 = omega (arith, c.requires.two) in
    let whole : length (map f c.args.tuple.now) ≡ g.row.D - 2 + 2 = omega (arith, length-map c.args.tuple.now f, long, c.requires.two) in
    let exchanged : exchange_last (map f c.args.tuple.now) ≡ swap (map f c.args.tuple.now) (g.row.D - 2) (g.row.D - 1) =
    exchange_last-is (g.row.D - 2) (map f c.args.tuple.now) whole ∙ ap (swap (map f c.args.tuple.now) (g.row.D - 2)) last in
    rw c.if-odd.true (c.swap.ensures.after ∙ ap (λ (xs : List ℕ). swap xs (g.row.D - 2) (g.row.D - 1)) all ∙ sym exchanged)

pub returns-else-odd : goal.returns-else-odd
returns-else-odd g c =
    let long : length c.args.tuple.now ≡ g.row.D = omega arith in
    rw c.if-odd.false
    (mapped_from (λ e. slice_index c.args.places.now e) c.args.tuple.now c.loop-place.simplex (c.loop-place.invariant.0 ∙ sym long)
    (λ i h. c.loop-place.invariant.1 i (omega (arith, h, long, c.loop-place-test.false))))
