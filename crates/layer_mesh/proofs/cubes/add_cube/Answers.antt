use Rattle.std.proofs.Common.{arith, ap, sym, ◌∙◌, ◌≡◌, ◌++◌, ◌+◌, ◌*◌, ℕ, length}
use Rattle.std.proofs.lemmas.List.Folds.{flat_map-map}
use Rattle.std.specs.Prelude.{flat_map}
use Rattle.lists.specs.Orders.{numbers}
use Rattle.iso_model.specs.Bipolar.{bipolar_edges}
use Rattle.iso_model.specs.Placed.{cell_simplices}
use Rattle.iso_model.specs.Splits.{cells_per_cube}
use Rattle.layer_mesh.proofs.PlacesOfWords.{one_number_more}
use Rattle.layer_mesh.proofs.cubes.add_cube.Goals as goal

pub loop-rank-preserved : goal.loop-rank-preserved
loop-rank-preserved g c v cube t =
    let h = λ (rank : ℕ). cell_simplices v c.args.table.now (bipolar_edges v) (cube * cells_per_cube v.kind g.row.D + rank) in
    c.in_ok-add_ranked.ensures v cube t
    ∙ ap (λ ws. ws ++ h c.loop-rank.rank) (c.loop-rank.invariant v cube t) ∙ one_number_more h c.args.simplices.now.items c.loop-rank.rank

pub returns : goal.returns
returns g c v cube t =
    let h = λ (n : ℕ). λ (rank : ℕ). cell_simplices v c.args.table.now (bipolar_edges v) (cube * n + rank) in
    let per : ℕ = cells_per_cube v.kind (length v.sizes) in
    let all : c.loop-rank.rank ≡ cells_per_cube c.args.table.now.kind g.row.D =
    omega (arith, c.loop-rank-test.false, c.loop-rank.auto.rank-end, c.requires.cells.count) in
    c.loop-rank.invariant v cube t
    ∙ ap (λ n. c.args.simplices.now.items ++ flat_map (h (cells_per_cube v.kind g.row.D)) (numbers n)) (all ∙ ap (λ k. cells_per_cube k g.row.D) t.kind)
    ∙ ap (λ d. c.args.simplices.now.items ++ flat_map (h (cells_per_cube v.kind d)) (numbers (cells_per_cube v.kind d))) (sym t.axes)
    ∙ ap (λ ws. c.args.simplices.now.items ++ ws)
    (sym (flat_map-map (cell_simplices v c.args.table.now (bipolar_edges v)) (λ rank. cube * per + rank) (numbers per)))
