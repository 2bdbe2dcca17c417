use Rattle.std.proofs.Common.{rules, arith, length, [], ◌<◌, ℕ, List, subst, sym}
use Rattle.std.specs.Prelude.{All}
use Rattle.std.proofs.lemmas.List.Elements.{All-nil}
use Rattle.face_tallies.specs.Parts.{IsWeighed}
use Rattle.face_tallies.proofs.AddedParts.{adds_none, adds_more, tuples_more, wide_more, few_faces}
use Rattle.face_tallies.proofs.gather.gather.Goals as goal

pub loop-tuple-init : goal.loop-tuple-init
loop-tuple-init g c = rw c.clear.ensures.items (record { wide = λ k d h. absurd (omega arith); few = omega arith; adds = adds_none [] (All-nil IsWeighed) })

pub loop-tuple-preserved : goal.loop-tuple-preserved
loop-tuple-preserved g c = record {
  wide =
      wide_more g.row.D c.args.tuples.now c.loop-tuple.tuple-index c.tuple-item.result c.loop-tuple-test.true c.tuple-item.is
      c.in_ok-add_faces.ensures.wide c.loop-tuple.invariant.wide;
  few = omega (arith, c.in_ok-add_faces.ensures.few, c.loop-tuple.invariant.few);
  adds =
      rw (tuples_more c.args.tuples.now c.loop-tuple.tuple-index c.tuple-item.result c.loop-tuple-test.true c.tuple-item.is)
      (adds_more _ _ _ _ _ c.loop-tuple.invariant.adds c.in_ok-add_faces.ensures.adds);
}

pub add_faces-requires : goal.add_faces-requires
add_faces-requires g c = (
  search rules,
  (
    subst (λ (w : List ℕ). All (λ e. e < 32) w) (sym c.tuple-item.is) (c.requires.edges c.loop-tuple.tuple-index c.tuple-item.result c.loop-tuple-test.true),
    (
      omega (
        arith,
        few_faces g.row.D c.loop-tuple.tuple-index (length c.args.tuples.now) c.requires.dimension c.loop-tuple-test.true c.requires.few,
        c.loop-tuple.invariant.few,
      ),
      c.loop-tuple.invariant.adds.weighed,
    ),
  ),
)
