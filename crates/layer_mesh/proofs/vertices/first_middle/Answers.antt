use Rattle.std.proofs.Common.{ap, arith, ◌∙◌, ◌+◌, ◌*◌, ◌%◌, ◌==◌, if◌then◌else◌, ℕ, [], ◌∷◌, slice_index}
use Rattle.std.specs.Prelude.{map}
use Rattle.std.proofs.lemmas.List.FromFn.{fill_by_all}
use Rattle.lists.specs.Orders.{numbers}
use Rattle.grid_rows.specs.MiddleAxes.{edge_span}
use Rattle.layer_mesh.proofs.vertices.first_middle.Goals as goal

abbrev at_axis : ℕ → ℕ → ℕ → ℕ → ℕ → ℕ
at_axis d height i j axis = if axis + 1 == d then height else slice_index (0 ∷ 2 * i ∷ 2 * j ∷ []) axis

pub returns : goal.returns
returns g c =
    fill_by_all (at_axis g.row.D c.args.height c.edge_place-i.result.0 c.edge_place-i.result.1) c.loop-axis.middle g.row.D 0 c.loop-axis.invariant.0
    (λ k h. c.loop-axis.invariant.1 k (omega arith))
    ∙ ap (λ (i : ℕ). map (at_axis g.row.D c.args.height i c.edge_place-i.result.1) (numbers g.row.D)) c.edge_place-i.ensures.first
    ∙ ap (λ (j : ℕ). map (at_axis g.row.D c.args.height (c.args.number % edge_span c.args.rows.now.second) j) (numbers g.row.D)) c.edge_place-i.ensures.second
