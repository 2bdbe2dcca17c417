use Rattle.std.proofs.Common.{◌≡◌, ℕ, ◌<◌, ◌≤◌, ◌++◌, List, map, sym, ap, ◌∙◌, subst, arith, inl, inr}
use Rattle.std.specs.Prelude.{All, slice_index, slice_index_or}
use Rattle.lists.proofs.Results.{OnOk-weaker}
use Rattle.iso_model.specs.declared.Kind.{Kind}
use Rattle.iso_model.specs.Bipolar.{bipolar_edges}
use Rattle.iso_model.specs.Cells.{HasDimension, edge_count}
use Rattle.iso_model.specs.Placed.{cell_simplices, placed_tuple}
use Rattle.iso_model.specs.Tables.{IsEntry}
use Rattle.iso_model.proofs.DimensionLaws.{dimension_cases, is_small_cell}
use Rattle.layer_mesh.proofs.CountedCells.{cell_counted}
use Rattle.layer_mesh.proofs.simplices.add_cell.Goals as goal

pub add_tuples-requires : goal.add_tuples-requires
add_tuples-requires g c =
    let v = c.requires.told.0 in
    let t = c.requires.told.2 in
    let kind : Kind = c.args.table.now.kind in
    let fits : HasDimension kind g.row.D = subst (λ k. HasDimension k g.row.D) (sym t.kind) (subst (HasDimension v.kind) t.axes t.fits) in
    let small = is_small_cell kind g.row.D fits in
    let sound : IsEntry kind g.row.D c.tuples-tuples.result.now = c.tuples-tuples.ensures.sound in
    let two : 2 ≤ g.row.D =
    elim (dimension_cases kind g.row.D fits) as (λ _. 2 ≤ g.row.D)
    [ inl h ↦ omega (arith, h) | inr (inl h) ↦ omega (arith, h) | inr (inr h) ↦ omega (arith, h) ] in
    let few : g.row.D ≤ 4 =
    elim (dimension_cases kind g.row.D fits) as (λ _. g.row.D ≤ 4)
    [ inl h ↦ omega (arith, h) | inr (inl h) ↦ omega (arith, h) | inr (inr h) ↦ omega (arith, h) ] in
    let below : All (All (λ e. e < 32)) c.tuples-tuples.result.now =
    λ k w h j e i.
    let here : slice_index_or (slice_index_or c.tuples-tuples.result.now k w) j e < edge_count kind g.row.D = (sound.1 k w h).1 j e i in
    omega (arith, here, small.edges) in
    (omega (arith, few), (omega (arith, few), (two, below)))

pub returns : goal.returns
returns g c = λ v cell t.
    let placed : map (placed_tuple c.args.odd (λ e. slice_index c.args.numbers.now e)) c.tuples-tuples.result.now
    ≡ cell_simplices v c.args.table.now (bipolar_edges v) cell =
    ap (map (placed_tuple c.args.odd (λ e. slice_index c.args.numbers.now e))) c.tuples-tuples.ensures.tuples
    ∙ cell_counted v cell g.row.D c.args.table.now c.args.label c.args.numbers.now c.args.odd t in
    OnOk-weaker c.add_tuples.result
    (c.add_tuples.new.simplices.items
    ≡ c.args.simplices.now.items ++ map (placed_tuple c.args.odd (λ e. slice_index c.args.numbers.now e)) c.tuples-tuples.result.now)
    (c.add_tuples.new.simplices.items ≡ c.args.simplices.now.items ++ cell_simplices v c.args.table.now (bipolar_edges v) cell)
    (λ is. is ∙ ap (λ (ws : List (List ℕ)). c.args.simplices.now.items ++ ws) placed) c.add_tuples.ensures
