use Rattle.std.proofs.Common.{ℕ, ◌≡◌, min, max, sym, ap, ◌∙◌, subst}
use Rattle.iso_model.specs.declared.Kind.TheVariants.{Cube}
use Rattle.iso_model.specs.Cells.{edge_ends, edge_between}
use Rattle.iso_model.specs.Moves.{Move, move_corner}
use Rattle.cube_moves.specs.Joined.{IsJoined}
use Rattle.cube_moves.proofs.MovedEdges.{moved_joined}
use Rattle.cube_moves.proofs.moves.move_edge.Goals as goal

pub edge_of-requires-clause-joined : goal.edge_of-requires-clause-joined
edge_of-requires-clause-joined g c =
    let by : Move = record { axes = c.args.by.now.axes; flips = c.args.by.now.flips } in
    let first : c.move_corner-from.result ≡ move_corner g.row.D by (edge_ends Cube g.row.D c.args.edge).0 =
    c.move_corner-from.ensures.value ∙ ap (λ (p : ℕ × ℕ). move_corner g.row.D by p.0) c.cube_edge-first.ensures.ends in
    let second : c.move_corner-to.result ≡ move_corner g.row.D by (edge_ends Cube g.row.D c.args.edge).1 =
    c.move_corner-to.ensures.value ∙ ap (λ (p : ℕ × ℕ). move_corner g.row.D by p.1) c.cube_edge-first.ensures.ends in
    let low = c.min.ensures ∙ ap (λ (k : ℕ). min k c.move_corner-to.result) first
    ∙ ap (λ (k : ℕ). min (move_corner g.row.D by (edge_ends Cube g.row.D c.args.edge).0) k) second in
    let high = c.max.ensures ∙ ap (λ (k : ℕ). max k c.move_corner-to.result) first
    ∙ ap (λ (k : ℕ). max (move_corner g.row.D by (edge_ends Cube g.row.D c.args.edge).0) k) second in
    subst (λ (k : ℕ). IsJoined g.row.D k c.max.result) (sym low)
    (subst (λ (k : ℕ). IsJoined g.row.D
    (min (move_corner g.row.D by (edge_ends Cube g.row.D c.args.edge).0) (move_corner g.row.D by (edge_ends Cube g.row.D c.args.edge).1)) k) (sym high)
    (moved_joined g.row.D c.requires.dimension by c.requires.is_move c.args.edge c.requires.edge))

pub returns-clause-value : goal.returns-clause-value
returns-clause-value g c =
    let by : Move = record { axes = c.args.by.now.axes; flips = c.args.by.now.flips } in
    let first : c.move_corner-from.result ≡ move_corner g.row.D by (edge_ends Cube g.row.D c.args.edge).0 =
    c.move_corner-from.ensures.value ∙ ap (λ (p : ℕ × ℕ). move_corner g.row.D by p.0) c.cube_edge-first.ensures.ends in
    let second : c.move_corner-to.result ≡ move_corner g.row.D by (edge_ends Cube g.row.D c.args.edge).1 =
    c.move_corner-to.ensures.value ∙ ap (λ (p : ℕ × ℕ). move_corner g.row.D by p.1) c.cube_edge-first.ensures.ends in
    let low = c.min.ensures ∙ ap (λ (k : ℕ). min k c.move_corner-to.result) first
    ∙ ap (λ (k : ℕ). min (move_corner g.row.D by (edge_ends Cube g.row.D c.args.edge).0) k) second in
    let high = c.max.ensures ∙ ap (λ (k : ℕ). max k c.move_corner-to.result) first
    ∙ ap (λ (k : ℕ). max (move_corner g.row.D by (edge_ends Cube g.row.D c.args.edge).0) k) second in
    c.edge_of.ensures.value ∙ ap (λ (k : ℕ). edge_between Cube g.row.D k c.max.result) low
    ∙ ap (edge_between Cube g.row.D
    (min (move_corner g.row.D by (edge_ends Cube g.row.D c.args.edge).0) (move_corner g.row.D by (edge_ends Cube g.row.D c.args.edge).1))) high
