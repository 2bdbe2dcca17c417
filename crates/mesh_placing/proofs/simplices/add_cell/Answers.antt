use Rattle.std.proofs.Common.{◌≡◌, ℕ, ◌+◌, ◌*◌, ◌<◌, ◌≤◌, true, ◌++◌, List, map, sym, ap, ◌∙◌, subst, arith, inl, inr}
use Rattle.std.specs.Prelude.{All, slice_index, slice_index_or}
use Rattle.iso_model.specs.declared.Kind.{Kind}
use Rattle.iso_model.specs.Cells.{edge_count}
use Rattle.iso_model.specs.Splits.{is_odd_cell}
use Rattle.iso_model.specs.Tables.{IsEntry, entry_of}
use Rattle.iso_model.specs.Acceptance.{rule_edges}
use Rattle.iso_model.specs.Placed.{placed_tuple}
use Rattle.iso_model.proofs.DimensionLaws.{is_small_cell, dimension_cases}
use Rattle.iso_model.proofs.CellCounts.{few_axes}
use Rattle.mesh_placing.specs.Placing.{ArePlaces, placed_tuples}
use Rattle.mesh_placing.proofs.Cubes.{odd_in_cube}
use Rattle.mesh_placing.proofs.PlacedTuples.{placed_by_places}
use Rattle.lists.proofs.Results.{OnOk-weaker}
use Rattle.mesh_placing.proofs.simplices.add_cell.Goals as goal

pub add_tuples-requires : goal.add_tuples-requires
add_tuples-requires g c =
    let small = is_small_cell g.C.Cell.KIND g.row.D g.met.C.Cell.has_dimension in
    let sound : IsEntry g.C.Cell.KIND g.row.D c.tuples-tuples.result.now =
    subst (λ (k : Kind). IsEntry k g.row.D c.tuples-tuples.result.now) c.requires.kind c.tuples-tuples.ensures.sound in
    let two : 2 ≤ g.row.D =
    elim (dimension_cases g.C.Cell.KIND g.row.D g.met.C.Cell.has_dimension) as (λ _. 2 ≤ g.row.D)
    [ inl h ↦ omega (arith, h) | inr (inl h) ↦ omega (arith, h) | inr (inr h) ↦ omega (arith, h) ] in
    let few : g.row.D ≤ 4 = few_axes g.row.D g.met.C.Cell.is_dimension in
    let below : All (All (λ e. e < 32)) c.tuples-tuples.result.now =
    λ k w h j e i.
    let here : slice_index_or (slice_index_or c.tuples-tuples.result.now k w) j e < edge_count g.C.Cell.KIND g.row.D =
    (sound.1 k w h).1 j e i in
    omega (arith, here, small.edges) in
    (omega (arith, few), (omega (arith, few), (two, below)))

pub returns : goal.returns
returns g c = λ s iso number axes is.
    let cell : ℕ = number * g.C.Split.PER_CUBE + c.args.rank in
    let sound : IsEntry g.C.Cell.KIND g.row.D c.tuples-tuples.result.now =
    subst (λ (k : Kind). IsEntry k g.row.D c.tuples-tuples.result.now) c.requires.kind c.tuples-tuples.ensures.sound in
    let are : ArePlaces g.C.Cell.KIND g.row.D s.sizes c.args.edges.now cell c.args.label (edge_count g.C.Cell.KIND g.row.D) c.cell_places-places.result =
    subst (λ (n : ℕ). ArePlaces g.C.Cell.KIND g.row.D s.sizes c.args.edges.now cell c.args.label n c.cell_places-places.result) g.met.C.Cell.edges
    (c.cell_places-places.ensures s iso number axes is) in
    let rule : rule_edges g.C.Cell.KIND g.row.D c.args.label c.tuples-tuples.result.now ≡ true =
    ap (rule_edges g.C.Cell.KIND g.row.D c.args.label) c.tuples-tuples.ensures.tuples ∙ c.requires.sound in
    let odd : c.odd.result ≡ is_odd_cell g.C.Cell.KIND s.sizes cell =
    c.odd.ensures
    ∙ sym (odd_in_cube g.C.Cell.KIND g.row.D s.sizes number g.C.Split.PER_CUBE c.args.rank axes g.met.C.Split.counted c.requires.rank) in
    let placed : map (placed_tuple c.odd.result (λ e. slice_index c.cell_places-places.result e)) c.tuples-tuples.result.now
    ≡ placed_tuples g.C.Cell.KIND s.sizes c.args.edges.now cell (entry_of c.args.table.now c.args.label) =
    ap (λ b. map (placed_tuple b (λ e. slice_index c.cell_places-places.result e)) c.tuples-tuples.result.now) odd
    ∙ placed_by_places g.C.Cell.KIND g.row.D s.sizes c.args.edges.now cell c.args.label c.cell_places-places.result c.tuples-tuples.result.now rule
    (λ k w h. (sound.1 k w h).1) are
    ∙ ap (placed_tuples g.C.Cell.KIND s.sizes c.args.edges.now cell) c.tuples-tuples.ensures.tuples in
    OnOk-weaker c.add_tuples.result
    (c.add_tuples.new.simplices.items
    ≡ c.args.simplices.now.items ++ map (placed_tuple c.odd.result (λ e. slice_index c.cell_places-places.result e)) c.tuples-tuples.result.now)
    (c.add_tuples.new.simplices.items
    ≡ c.args.simplices.now.items ++ placed_tuples g.C.Cell.KIND s.sizes c.args.edges.now cell (entry_of c.args.table.now c.args.label))
    (λ is. is ∙ ap (λ (ws : List (List ℕ)). c.args.simplices.now.items ++ ws) placed) c.add_tuples.ensures
