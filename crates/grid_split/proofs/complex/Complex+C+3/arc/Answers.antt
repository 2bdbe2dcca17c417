use Rattle.std.proofs.Common.{◌≡◌, ℕ, ◌+◌, ◌<◌, ◌≤◌, List, [], ◌∷◌, ◌++◌, length, slice_index_or, arith, refl, sym, ◌∙◌, ap, subst, rules, true, false, Bool}
use Rattle.std.specs.Prelude.{take, Contains, slice_index}
use Rattle.std.specs.List.{list_all}
use Rattle.std.specs.Result.{IsOk, OnOk}
use Rattle.std.specs.declared.result.Result.{Result}
use Rattle.std.specs.declared.result.Result.TheVariants.{Ok, Err}
use Rattle.std.proofs.lemmas.List.{take_more, take_all}
use Rattle.iso_model.specs.declared.Kind.{Kind}
use Rattle.iso_model.specs.Splits.{cells_per_cube}
use Rattle.grid_split.specs.Strides.{IsComplex}
use Rattle.lists.proofs.Contained.{Contains-at}
use Rattle.split_checks.specs.declared.rounds.Place.{Place}
use Rattle.split_checks.specs.CellsRound.{arc_of, stands, before_gap, after_gap}
use Rattle.split_laws.specs.RoundEdges.{AreAt, IsArc, StandsAt, IsMissing, sides_at}
use Rattle.split_laws.proofs.PlacesThere.{missing_out}
use Rattle.grid_split.proofs.ArcSteps.{Progress, step_before, step_after, step_gap, there_in, at_join}
use Rattle.grid_split.proofs.complex.Complex+C+3.arc.Goals as goal
use Rattle.grid_split.proofs.complex.Complex+C+3.arc.Goals.{in-Some, in-Some-2, in-None}

pub cell_at-requires : goal.cell_at-requires
cell_at-requires g c =
    let p : Place = slice_index_or c.args.places.now c.loop-place.place-index (record { rank = 0; back = [] }) in
    let has = c.requires.fit.ranks p (Contains-at c.args.places.now c.loop-place.place-index (record { rank = 0; back = [] }) c.loop-place-test.true) in
    (omega arith, subst (λ (n : ℕ). p.rank < n) (sym g.met.C.Split.counted) has)

module _ (kind : Kind) (sizes cube : List ℕ) where
  -- the same, in equal lists
  with_equal : (ps ps' : List Place) (b b' cs cs' : List ℕ) (cl cl' : Bool) → Progress kind sizes cube ps b cs cl → ps ≡ ps' → b ≡ b' → cs ≡ cs'
      → cl ≡ cl' → Progress kind sizes cube ps' b' cs' cl'
  with_equal ps ps' b b' cs cs' cl cl' done p q r s =
      subst (λ (x : List Place). Progress kind sizes cube x b' cs' cl') p
      (subst (λ (x : List ℕ). Progress kind sizes cube ps x cs' cl') q
      (subst (λ (x : List ℕ). Progress kind sizes cube ps b x cl') r (subst (Progress kind sizes cube ps b cs) s done)))

pub loop-place-preserved : goal.loop-place-preserved
loop-place-preserved g c =
    let kind : Kind = g.C.Cell.KIND in
    let sizes : List ℕ = c.args.self.now in
    let cube : List ℕ = c.args.cube.now in
    let d : Place = record { rank = 0; back = [] } in
    let index : ℕ = c.loop-place.place-index in
    let p : Place = slice_index_or c.args.places.now index d in
    let ps : List Place = take index c.args.places.now in
    let done : Progress kind sizes cube ps c.loop-place.before.items c.loop-place.cells.items c.loop-place.closed =
    record { before_is = c.loop-place.invariant.before; cells_are = c.loop-place.invariant.cells; closed_is = c.loop-place.invariant.closed } in
    let more : ps ++ p ∷ [] ≡ take (index + 1) c.args.places.now = sym (take_more c.args.places.now index d c.loop-place-test.true) in
    let listed = Contains-at c.args.places.now index d c.loop-place-test.true in
    let backs = c.requires.fit.backs p listed in
    elim c.match-cell_at.branch [
      | in-Some w ↦ (let at : StandsAt kind sizes cube p w.in-Some.cell = w.in-Some.ensures.some in
          let there = there_in sizes cube kind p w.in-Some.cell c.requires.fit.axes backs.0 backs.1 at in
          let n =
          with_equal kind sizes cube (ps ++ p ∷ []) (take (index + 1) c.args.places.now) (c.loop-place.before.items ++ w.in-Some.cell ∷ [])
          c.match-cell_at.before.items c.loop-place.cells.items c.match-cell_at.cells.items true c.match-cell_at.closed
          (step_before kind sizes cube ps p c.loop-place.before.items c.loop-place.cells.items w.in-Some.cell
          (subst (Progress kind sizes cube ps c.loop-place.before.items c.loop-place.cells.items) w.if-closed.true done) there at)
          more (sym (ap (λ v. v.items) w.before-is ∙ w.push.ensures.items)) (sym (ap (λ v. v.items) w.cells-is))
          (sym (w.closed-is ∙ w.if-closed.true)) in
          record {
            before = n.before_is;
            cells = n.cells_are;
            closed = n.closed_is;
            room =
                omega (
                  arith,
                  c.loop-place.invariant.room,
                  w.push.ensures.len,
                  ap (λ v. length v.items) w.before-is,
                  ap (λ v. length v.items) w.cells-is,
                );
          })
      | in-Some-2 w ↦ (let at : StandsAt kind sizes cube p w.in-Some.cell = w.in-Some.ensures.some in
          let there = there_in sizes cube kind p w.in-Some.cell c.requires.fit.axes backs.0 backs.1 at in
          let n =
          with_equal kind sizes cube (ps ++ p ∷ []) (take (index + 1) c.args.places.now) c.loop-place.before.items
          c.match-cell_at.before.items (c.loop-place.cells.items ++ w.in-Some.cell ∷ []) c.match-cell_at.cells.items false c.match-cell_at.closed
          (step_after kind sizes cube ps p c.loop-place.before.items c.loop-place.cells.items w.in-Some.cell
          (subst (Progress kind sizes cube ps c.loop-place.before.items c.loop-place.cells.items) w.if-closed.false done) there at)
          more (sym (ap (λ v. v.items) w.before-is)) (sym (ap (λ v. v.items) w.cells-is ∙ w.push-in-Some-2.ensures.items))
          (sym (w.closed-is ∙ w.if-closed.false)) in
          record {
            before = n.before_is;
            cells = n.cells_are;
            closed = n.closed_is;
            room =
                omega (
                  arith,
                  c.loop-place.invariant.room,
                  w.push-in-Some-2.ensures.len,
                  ap (λ v. length v.items) w.before-is,
                  ap (λ v. length v.items) w.cells-is,
                );
          })
      | in-None w ↦ (let out = missing_out sizes cube p backs.0 backs.1 c.requires.fit.inside w.in-None.ensures.none in
          let n =
          with_equal kind sizes cube (ps ++ p ∷ []) (take (index + 1) c.args.places.now) c.loop-place.before.items
          c.match-cell_at.before.items c.loop-place.cells.items c.match-cell_at.cells.items false c.match-cell_at.closed
          (step_gap kind sizes cube ps p c.loop-place.before.items c.loop-place.cells.items c.loop-place.closed done out)
          more (sym (ap (λ v. v.items) w.before-is)) (sym (ap (λ v. v.items) w.cells-is)) (sym w.closed-is) in
          record {
            before = n.before_is;
            cells = n.cells_are;
            closed = n.closed_is;
            room = omega (arith, c.loop-place.invariant.room, ap (λ v. length v.items) w.before-is, ap (λ v. length v.items) w.cells-is);
          })
    ]

of_ok : {T E : Type 0} {P : Type 0} (r : Result T E) → IsOk r → OnOk r P → P
of_ok (Ok x) is p = p
of_ok (Err e) is p = absurd (cc)

pub returns : goal.returns
returns g c =
    let kind : Kind = g.C.Cell.KIND in
    let sizes : List ℕ = c.args.self.now in
    let cube : List ℕ = c.args.cube.now in
    let whole : take c.loop-place.place-index c.args.places.now ≡ c.args.places.now =
    take_all c.loop-place.place-index c.args.places.now c.loop-place-test.false in
    let before_is = subst (λ (ps : List Place). AreAt kind sizes cube (before_gap (sides_at sizes cube) ps) c.loop-place.before.items) whole
    c.loop-place.invariant.before in
    let cells_are = subst (λ (ps : List Place). AreAt kind sizes cube (after_gap (sides_at sizes cube) ps) c.loop-place.cells.items) whole
    c.loop-place.invariant.cells in
    let room : length c.loop-place.cells.items + length c.as_slice.result.now ≤ 8 =
    omega (
      arith,
      c.loop-place.invariant.room,
      c.loop-place.auto.place-index-end,
      c.requires.fit.few,
      ap (λ (xs : List ℕ). length xs) c.as_slice.ensures.value,
    ) in
    let added = of_ok c.try_extend_from_slice.result (c.try_extend_from_slice.ensures.variant.1 room) c.try_extend_from_slice.ensures.ok in
    let items : c.try_extend_from_slice.new.self.items ≡ c.loop-place.cells.items ++ c.loop-place.before.items =
    added ∙ ap (λ (xs : List ℕ). c.loop-place.cells.items ++ xs) c.as_slice.ensures.value in
    record {
      arc = record {
        at =
            subst (AreAt kind sizes cube (arc_of (sides_at sizes cube) c.args.places.now)) (sym items)
            (at_join kind sizes cube (after_gap (sides_at sizes cube) c.args.places.now) (before_gap (sides_at sizes cube) c.args.places.now)
            c.loop-place.cells.items c.loop-place.before.items cells_are before_is);
        whole =
            c.loop-place.invariant.closed
            ∙ ap (λ (ps : List Place). list_all (λ (p : Place). stands (sides_at sizes cube) p.back) ps) whole;
      };
    }
