use Rattle.std.proofs.Common.{rules, append-nil, ap, sym, ◌∙◌, ◌≡◌, ◌<◌, ◌++◌, ◌+◌, ◌*◌, ℕ, length, true}
use Rattle.std.proofs.lemmas.Iterator.Consumers.{YieldsList-end, YieldsList-from_first, YieldsList-turn}
use Rattle.std.proofs.lemmas.List.{flat_map_more, map-id}
use Rattle.std.specs.Prelude.{flat_map}
use Rattle.lists.specs.Bits.{is_set}
use Rattle.iso_model.specs.Values.{Volume}
use Rattle.bit_rows.specs.Rows.{places}
use Rattle.bit_rows.proofs.SetPlaces.{no_places}
use Rattle.grid_rows.specs.declared.grids.GridRows.{GridRows}
use Rattle.layer_scan.specs.declared.edges.LayerEdges.{LayerEdges}
use Rattle.layer_scan.specs.declared.scan.LayerPlanes.{LayerPlanes}
use Rattle.layer_scan.specs.CubeNumbers.{cube_number}
use Rattle.layer_mesh.specs.CubeCells.{TellsCube}
use Rattle.layer_mesh.specs.LayerCubes.{is_mixed_at, place_simplices}
use Rattle.layer_mesh.proofs.CubesTold.{cube_told, inside_row}
use Rattle.layer_mesh.proofs.PlacesOfWords.{place_below, place_set}
use Rattle.layer_mesh.proofs.RowsOfCubes.{mixed_place, word_by_places}
use Rattle.layer_mesh.proofs.layers.Layer.add_word.Goals as goal

pub returns-then-mixed-eq0 : goal.returns-then-mixed-eq0
returns-then-mixed-eq0 g c v s t =
    let planes : LayerPlanes = c.args.self.now.planes.now in
    let h = λ (k : ℕ). place_simplices v c.args.self.now.table.now planes.rows s c.args.number (64 * c.args.w + k) in
    let all = word_by_places v g.row.D c.args.self.now.table.now s planes c.args.self.now.edges.now t c.args.number c.requires.number c.args.w c.args.mixed
    c.requires.mixed in
    let zero : c.args.mixed ≡ 0 = c.if-mixed-eq0.true in
    sym (append-nil c.args.simplices.now.items)
    ∙ ap (λ ws. c.args.simplices.now.items ++ ws) (sym (ap (λ n. flat_map h (places n)) zero ∙ ap (flat_map h) no_places) ∙ all)

pub count-requires-clause-place : goal.count-requires-clause-place
count-requires-clause-place g c =
    let all = places c.of-place-items.result.rest in
    let turn = YieldsList-turn (YieldsList-from_first (λ (k : ℕ). k) (λ s. places s.rest) all (search rules)) c.loop-place.yielded _ c.loop-place.yielded_by _ _
    c.in-Some.place c.in-Some.is c.next.ensures.steps in
    place_below c.of-place-items.result.rest (length c.loop-place.yielded) c.in-Some.place turn.0 turn.1

pub count-requires-clause-told : goal.count-requires-clause-told
count-requires-clause-told g c =
    let v : Volume = c.requires.told.0 in
    let s : ℕ = c.requires.told.1 in
    (v, c.args.self.now.planes.now.rows, s, c.args.number, c.args.w, c.new-slots.ensures.told v s c.requires.told.2.cubes)

pub at-requires : goal.at-requires
at-requires g c =
    let all = places c.of-place-items.result.rest in
    let turn = YieldsList-turn (YieldsList-from_first (λ (k : ℕ). k) (λ s. places s.rest) all (search rules)) c.loop-place.yielded _ c.loop-place.yielded_by _ _
    c.in-Some.place c.in-Some.is c.next.ensures.steps in
    record { place = place_below c.of-place-items.result.rest (length c.loop-place.yielded) c.in-Some.place turn.0 turn.1 }

pub add_cube-requires : goal.add_cube-requires
add_cube-requires g c =
    let all = places c.of-place-items.result.rest in
    let turn = YieldsList-turn (YieldsList-from_first (λ (k : ℕ). k) (λ s. places s.rest) all (search rules)) c.loop-place.yielded _ c.loop-place.yielded_by _ _
    c.in-Some.place c.in-Some.is c.next.ensures.steps in
    let k : ℕ = c.in-Some.place in
    let low : k < 64 = place_below c.of-place-items.result.rest (length c.loop-place.yielded) k turn.0 turn.1 in
    let word : c.of-place-items.result.rest ≡ c.args.mixed = search rules in
    let set : is_set c.args.mixed k ≡ true =
    ap (λ n. is_set n k) (sym word) ∙ place_set c.of-place-items.result.rest (length c.loop-place.yielded) k turn.0 turn.1 in
    let planes : LayerPlanes = c.args.self.now.planes.now in
    let edges : LayerEdges = c.args.self.now.edges.now in
    let v : Volume = c.requires.told.0 in
    let s : ℕ = c.requires.told.1 in
    let t = c.requires.told.2 in
    let mixed : is_mixed_at planes c.args.number (64 * c.args.w + k) ≡ true = sym (c.requires.mixed k low) ∙ set in
    let inside = inside_row v g.row.D c.args.self.now.table.now s planes edges t c.args.number c.requires.number c.args.w k low mixed in
    let counted = c.count.ensures.numbers v planes.rows s c.args.number c.args.w (c.new-slots.ensures.told v s t.cubes) inside in
    let told : (v : Volume) × (cube : ℕ) × TellsCube v cube g.row.D c.args.self.now.table.now c.at.result c.count.new.numbers = (
      v,
      cube_number planes.rows s c.args.number (64 * c.args.w + k),
      cube_told v g.row.D c.args.self.now.table.now s planes edges t c.args.number c.requires.number c.args.w k low mixed c.sign_words-signs.result
          c.sign_words-signs.ensures c.at.result c.at.ensures c.count.new.numbers counted,
    ) in
    search (rules, c.requires.cells, told)

pub loop-place-preserved : goal.loop-place-preserved
loop-place-preserved g c =
    let all = places c.of-place-items.result.rest in
    let turn = YieldsList-turn (YieldsList-from_first (λ (k : ℕ). k) (λ s. places s.rest) all (search rules)) c.loop-place.yielded _ c.loop-place.yielded_by _ _
    c.in-Some.place c.in-Some.is c.next.ensures.steps in
    let k : ℕ = c.in-Some.place in
    let low : k < 64 = place_below c.of-place-items.result.rest (length c.loop-place.yielded) k turn.0 turn.1 in
    let word : c.of-place-items.result.rest ≡ c.args.mixed = search rules in
    let set : is_set c.args.mixed k ≡ true =
    ap (λ n. is_set n k) (sym word) ∙ place_set c.of-place-items.result.rest (length c.loop-place.yielded) k turn.0 turn.1 in
    let planes : LayerPlanes = c.args.self.now.planes.now in
    let edges : LayerEdges = c.args.self.now.edges.now in
    let mixed : is_mixed_at planes c.args.number (64 * c.args.w + k) ≡ true = sym (c.requires.mixed k low) ∙ set in (
      tt,
      tt,
      λ v s t.
          let h = λ (j : ℕ). place_simplices v c.args.self.now.table.now planes.rows s c.args.number (64 * c.args.w + j) in
          let inside = inside_row v g.row.D c.args.self.now.table.now s planes edges t c.args.number c.requires.number c.args.w k low mixed in
          let counted = c.count.ensures.numbers v planes.rows s c.args.number c.args.w (c.new-slots.ensures.told v s t.cubes) inside in
          c.in_ok-add_cube.ensures v (cube_number planes.rows s c.args.number (64 * c.args.w + k))
          (cube_told v g.row.D c.args.self.now.table.now s planes edges t c.args.number c.requires.number c.args.w k low mixed c.sign_words-signs.result
          c.sign_words-signs.ensures c.at.result c.at.ensures c.count.new.numbers counted)
          ∙ ap (λ ws. c.loop-place.simplices.items ++ ws)
          (sym (mixed_place v g.row.D c.args.self.now.table.now s planes edges t c.args.number c.requires.number (64 * c.args.w + k) mixed))
          ∙ ap (λ ws. ws ++ h k) (c.loop-place.invariant.2 v s t) ∙ flat_map_more h c.args.simplices.now.items c.loop-place.yielded k,
    )

pub returns : goal.returns
returns g c v s t =
    let all = places c.of-place-items.result.rest in
    let end = YieldsList-end (YieldsList-from_first (λ (k : ℕ). k) (λ s. places s.rest) all (search rules)) c.loop-place.yielded _ c.loop-place.yielded_by _ _
    c.in-None.is c.next.ensures.steps in
    let planes : LayerPlanes = c.args.self.now.planes.now in
    let h = λ (k : ℕ). place_simplices v c.args.self.now.table.now planes.rows s c.args.number (64 * c.args.w + k) in
    let word : c.of-place-items.result.rest ≡ c.args.mixed = search rules in
    c.loop-place.invariant.2 v s t
    ∙ ap (λ ws. c.args.simplices.now.items ++ ws) (ap (flat_map h) (sym (map-id c.loop-place.yielded) ∙ end.0 ∙ ap places word)
    ∙ word_by_places v g.row.D c.args.self.now.table.now s planes c.args.self.now.edges.now t c.args.number c.requires.number c.args.w c.args.mixed
    c.requires.mixed)
