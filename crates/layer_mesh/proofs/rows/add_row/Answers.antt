use Rattle.std.proofs.Common.{rules, ap, ◌∙◌, ◌≡◌, ◌++◌, ℕ, slice_index_or}
use Rattle.grid_rows.specs.Planes.{no_edge}
use Rattle.layer_mesh.specs.RowVertices.{word_vertices}
use Rattle.layer_mesh.proofs.PlacesOfWords.{one_number_more}
use Rattle.layer_mesh.proofs.rows.add_row.Goals as goal

pub loop-w-preserved : goal.loop-w-preserved
loop-w-preserved g c =
    let h = λ (w : ℕ). word_vertices c.args.ends.now w (slice_index_or c.args.row.now w no_edge) in
    let added : c.add_word.new.vertices.items ≡ c.loop-w.vertices.items ++ h c.loop-w.w = search (rules, c.in_ok-add_word.ensures) in
    added ∙ ap (λ vs. vs ++ h c.loop-w.w) c.loop-w.invariant ∙ one_number_more h c.args.vertices.now.items c.loop-w.w
