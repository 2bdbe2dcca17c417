use Rattle.std.proofs.Common.{rules, ap, sym, ◌∙◌, ◌≡◌, ◌<◌, ◌++◌, ℕ, length}
use Rattle.std.specs.Prelude.{bit_or, flat_map}
use Rattle.std.proofs.lemmas.Iterator.Consumers.{YieldsList-end, YieldsList-from_first, YieldsList-turn}
use Rattle.std.proofs.lemmas.List.{flat_map_more, map-id}
use Rattle.bit_rows.specs.Rows.{places}
use Rattle.layer_mesh.specs.RowVertices.{place_vertices, word_vertices}
use Rattle.layer_mesh.proofs.PlacesOfWords.{place_below}
use Rattle.layer_mesh.proofs.WordVertices.{by_places}
use Rattle.layer_mesh.proofs.rows.add_word.Goals as goal

pub add_place-requires : goal.add_place-requires
add_place-requires g c =
    let all = places c.of-place-items.result.rest in
    let turn = YieldsList-turn (YieldsList-from_first (λ (k : ℕ). k) (λ s. places s.rest) all (search rules)) c.loop-place.yielded _ c.loop-place.yielded_by _ _
    c.in-Some.place c.in-Some.is c.next.ensures.steps in
    let below : c.in-Some.place < 64 = place_below c.of-place-items.result.rest (length c.loop-place.yielded) c.in-Some.place turn.0 turn.1 in
    search (rules, below, c.requires.sound, c.requires.crossed)

pub loop-place-preserved : goal.loop-place-preserved
loop-place-preserved g c =
    let h = place_vertices c.args.ends.now c.args.w c.args.word.now in
    let added : c.add_place.new.vertices.items ≡ c.loop-place.vertices.items ++ h c.in-Some.place = search (rules, c.in_ok-add_place.ensures) in (
      tt,
      tt,
      added ∙ ap (λ vs. vs ++ h c.in-Some.place) c.loop-place.invariant.2 ∙ flat_map_more h c.args.vertices.now.items c.loop-place.yielded c.in-Some.place,
    )

pub returns : goal.returns
returns g c =
    let all = places c.of-place-items.result.rest in
    let end = YieldsList-end (YieldsList-from_first (λ (k : ℕ). k) (λ s. places s.rest) all (search rules)) c.loop-place.yielded _ c.loop-place.yielded_by _ _
    c.in-None.is c.next.ensures.steps in
    let h = place_vertices c.args.ends.now c.args.w c.args.word.now in
    let word : c.of-place-items.result.rest ≡ bit_or c.args.word.now.first c.args.word.now.second = search rules in
    let seen : flat_map h c.loop-place.yielded ≡ word_vertices c.args.ends.now c.args.w c.args.word.now =
    ap (flat_map h) (sym (map-id c.loop-place.yielded) ∙ end.0 ∙ ap places word) ∙ by_places c.args.ends.now c.args.w c.args.word.now in
    c.loop-place.invariant.2 ∙ ap (λ vs. c.args.vertices.now.items ++ vs) seen
