use Rattle.std.proofs.Common.{sym, ◌∙◌, ◌≡◌, ◌<◌, length, get_or, arith, refl}
use Rattle.std.proofs.lemmas.List.{get_or_default}
use Rattle.face_tallies.proofs.DistinctSets.{distinct_more, repeated}
use Rattle.edge_sets.proofs.SetLaws.{set_none, set_more}
use Rattle.face_tallies.proofs.signs.distinct_set.Goals as goal

pub loop-edge-init : goal.loop-edge-init
loop-edge-init g c = record { distinct = refl; set = set_none }

pub loop-edge-preserved : goal.loop-edge-preserved
loop-edge-preserved g c =
    let w = c.args.tuple.now in
    let i = c.loop-edge.edge-index in
    let x = get_or w i 0 in
    let inside : i < length w = omega (arith, c.told-tuple, c.loop-edge-test.true) in
    let read : x ≡ get_or w i x = get_or_default w i 0 x inside in
    record {
      distinct = distinct_more w i x inside read c.loop-edge.invariant.distinct (sym (c.loop-edge.invariant.set x) ∙ sym c.if-has_member.ensures);
      set =
          set_more c.loop-edge.set c.with_edge-set.result w i x inside read c.loop-edge.invariant.set c.with_edge-set.ensures.same
          c.with_edge-set.ensures.others;
    }

pub returns-then-has_member-clause-repeated : goal.returns-then-has_member-clause-repeated
returns-then-has_member-clause-repeated g c =
    let w = c.args.tuple.now in
    let i = c.loop-edge.edge-index in
    let x = get_or w i 0 in
    let inside : i < length w = omega (arith, c.told-tuple, c.loop-edge-test.true) in
    repeated w i x inside (get_or_default w i 0 x inside) (sym (c.loop-edge.invariant.set x) ∙ sym c.if-has_member.ensures)
