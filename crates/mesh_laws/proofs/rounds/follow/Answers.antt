use Rattle.std.proofs.Common.{arith, rules, ap, sym, subst, ◌≡◌, ◌∙◌, ◌<◌, ◌∷◌, ◌++◌, ◌+◌, ℕ, List, [], length, true, false, slice_index_or, slice_set}
use Rattle.std.specs.Prelude.{Option, Some, None, IfSome, slice_index}
use Rattle.std.proofs.lemmas.List.{length-set, length_push}
use Rattle.mesh_laws.specs.declared.rounds.Corner.{Corner}
use Rattle.mesh_laws.specs.Rounds.{IsFirstWith, ps_of, qs_of, numbers_of}
use Rattle.mesh_laws.proofs.RoundWalks.{UnderWay, under, goes_further, meets_again, met_all, number_is, q_at, length_ps}
use Rattle.mesh_laws.proofs.rounds.follow.Goals as goal

found_inside : (ps : List ℕ) (p n : ℕ) (next : Option ℕ) → length ps ≡ n → IsFirstWith ps p next → IfSome next (λ place. place < n)
found_inside ps p n (Some j) e f = omega (arith, f.0, e)
found_inside ps p n None e f = tt

pub returns-then-met-place-clause-walks : goal.returns-then-met-place-clause-walks
returns-then-met-place-clause-walks c =
    let next : c.loop.next ≡ Some c.in-Some.place = search rules in
    let inside = under c.args.corners.now c.loop.next c.loop.invariant.inside c.in-Some.place next in
    let marked : slice_index_or c.loop.met c.in-Some.place false ≡ true = search rules in
    meets_again c.args.corners.now c.args.first c.loop.met c.loop.order.items c.in-Some.place inside marked
    (subst (λ (o : Option ℕ). UnderWay c.args.corners.now c.args.first c.loop.met c.loop.order.items o) next c.loop.invariant.under_way)

pub loop-preserved : goal.loop-preserved
loop-preserved c =
    let corners = c.args.corners.now in
    let place = c.in-Some.place in
    let d : Corner = record { triangle = 0; p = 0; q = 0 } in
    let next : c.loop.next ≡ Some place = search rules in
    let inside = under corners c.loop.next c.loop.invariant.inside place next in
    let clear : slice_index_or c.loop.met place false ≡ false = search rules in
    let found : IsFirstWith (ps_of corners) (slice_index (qs_of corners) place) c.place_with-next.result =
    subst (λ (q : ℕ). IsFirstWith (ps_of corners) q c.place_with-next.result) (sym (q_at corners place d inside))
    (c.place_with-next.ensures (ps_of corners) c.requires.begins) in
    let further =
    goes_further corners c.args.first c.loop.met c.loop.order.items place c.place_with-next.result inside c.loop.invariant.marks clear found
    (subst (λ (o : Option ℕ). UnderWay corners c.args.first c.loop.met c.loop.order.items o) next c.loop.invariant.under_way) in
    let pushed : c.push.new.items.items ≡ c.loop.order.items ++ slice_index (numbers_of corners) place ∷ [] =
    c.in_ok-push.ensures ∙ ap (λ (t : ℕ). c.loop.order.items ++ t ∷ []) (sym (number_is corners place d inside)) in
    record {
      inside = found_inside (ps_of corners) _ (length corners) c.place_with-next.result (length_ps corners) found;
      marks = length-set c.loop.met place true ∙ c.loop.invariant.marks;
      counted = ap length c.in_ok-push.ensures ∙ length_push c.loop.order.items _ ∙ ap (λ (n : ℕ). n + 1) c.loop.invariant.counted;
      under_way = subst (λ (o : List ℕ). UnderWay corners c.args.first (slice_set c.loop.met place true) o c.place_with-next.result) (sym pushed) further;
    }

pub returns-clause-walks : goal.returns-clause-walks
returns-clause-walks c =
    met_all c.args.corners.now c.args.first c.loop.met c.loop.order.items c.loop.next (omega (arith, c.loop.invariant.counted))
    (under c.args.corners.now c.loop.next c.loop.invariant.inside) c.loop.invariant.under_way
