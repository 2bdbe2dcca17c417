use Rattle.std.proofs.Common.{◌≡◌, ℕ, List, ◌<◌, length, None, ℤ, w64, to_z, of_z, sym, ap, ◌∙◌, subst, arith, refl}
use Rattle.std.specs.Prelude.{Contains, ◌↔◌}
use Rattle.std.proofs.lemmas.Int.{to_z-of_z}
use Rattle.iso_model.specs.Cells.{HasDimension, edge_ends, edge_count, corner_count}
use Rattle.iso_model.specs.Splits as Splits
use Rattle.iso_model.specs.Splits.{cell_count, cells_per_cube}
use Rattle.iso_model.specs.Values.{volume}
use Rattle.iso_model.specs.Dimensions.{IsDimension}
use Rattle.edge_vertex.specs.EdgeValue.{edges_of, IsBipolarEdge}
use Rattle.edge_vertex.proofs.Listed.{are_listed, reordered_members, both_ways}
use Rattle.edge_vertex.proofs.EdgeCount.{IsGridEdge, grid_edge_midpoint, few_edges}
use Rattle.edge_vertex.proofs.found.bipolar.Goals as goal

pub returns : goal.returns
returns g c =
    let iso : to_z w64 (of_z w64 c.args.iso) ≡ c.args.iso = to_z-of_z w64 c.args.iso c.ranges.iso in
    let axes : length c.args.grid.now.sizes ≡ g.row.D = ap length (sym c.requires.sizes) ∙ c.know_axes.ensures in
    let at_d : (e : ℕ) → e < edge_count g.C.Cell.KIND g.row.D
    → ((edge_ends g.C.Cell.KIND g.row.D e).0 < corner_count g.C.Cell.KIND g.row.D)
    × ((edge_ends g.C.Cell.KIND g.row.D e).1 < corner_count g.C.Cell.KIND g.row.D) =
    λ e h. let o = g.met.C.Cell.ordered_ends e h in (omega (arith, o.0, o.1), o.1) in
    let found : (e : Splits.Edge)
    → Contains (edges_of c.in_ok-edges.edges.keys) e
    ↔ IsBipolarEdge (volume g.C.Cell.KIND c.args.grid.now c.args.iso None) g.C.Cell.EDGES (cell_count g.C.Cell.KIND c.args.grid.now.sizes) e
    =
    subst
    (λ (z : ℤ).
    (e : Splits.Edge)
    → Contains (edges_of c.in_ok-edges.edges.keys) e
    ↔ IsBipolarEdge (volume g.C.Cell.KIND c.args.grid.now z None) g.C.Cell.EDGES (cell_count g.C.Cell.KIND c.args.grid.now.sizes) e)
    iso c.in_ok-edges.ensures in
    are_listed (volume g.C.Cell.KIND c.args.grid.now c.args.iso None) g.C.Cell.EDGES (g.met.C.Cell.edges ∙ ap (edge_count g.C.Cell.KIND) (sym axes)) (λ x. refl)
    (subst
    (λ (n : ℕ).
    (e : ℕ) → e < edge_count g.C.Cell.KIND n
    → ((edge_ends g.C.Cell.KIND n e).0 < corner_count g.C.Cell.KIND n)
    × ((edge_ends g.C.Cell.KIND n e).1 < corner_count g.C.Cell.KIND n))
    (sym axes) at_d)
    {D = g.row.D} c.sort_edges.new.edges.keys (g.met.C.Split.own_midpoints c.args.grid.now.sizes axes)
    (λ e.
    both_ways (Contains (edges_of c.sort_edges.new.edges.keys) e) (Contains (edges_of c.in_ok-edges.edges.keys) e)
    (IsBipolarEdge (volume g.C.Cell.KIND c.args.grid.now c.args.iso None) g.C.Cell.EDGES (cell_count g.C.Cell.KIND c.args.grid.now.sizes) e)
    (reordered_members c.in_ok-edges.edges.keys c.sort_edges.new.edges.keys c.in_ok-sort_edges.ensures.reordered e) (found e))
    (record { sorted = c.in_ok-sort_edges.ensures.sorted; apart = c.in_ok-sort_edges.ensures.apart })

pub invariant_of-result : goal.invariant_of-result
invariant_of-result g c =
    let sizes : List ℕ = c.args.grid.now.sizes in
    let axes : length sizes ≡ g.row.D = ap length (sym c.requires.sizes) ∙ c.know_axes.ensures in
    let is : IsDimension (length sizes) = subst IsDimension (sym axes) g.met.C.Cell.is_dimension in
    let has : HasDimension g.C.Cell.KIND (length sizes) = subst (HasDimension g.C.Cell.KIND) (sym axes) g.met.C.Cell.has_dimension in
    let counted : g.C.Split.PER_CUBE ≡ cells_per_cube g.C.Cell.KIND (length sizes) = g.met.C.Split.counted ∙ ap (cells_per_cube g.C.Cell.KIND) (sym axes) in
    let some : 0 < cells_per_cube g.C.Cell.KIND (length sizes) = omega (arith, counted, g.met.C.Split.few_ranks.0) in
    let edges_are : g.C.Cell.EDGES ≡ edge_count g.C.Cell.KIND (length sizes) = g.met.C.Cell.edges ∙ ap (edge_count g.C.Cell.KIND) (sym axes) in
    let at_d : (k : ℕ) → k < edge_count g.C.Cell.KIND g.row.D
    → ((edge_ends g.C.Cell.KIND g.row.D k).0 < corner_count g.C.Cell.KIND g.row.D)
    × ((edge_ends g.C.Cell.KIND g.row.D k).1 < corner_count g.C.Cell.KIND g.row.D) =
    λ k h. let o = g.met.C.Cell.ordered_ends k h in (omega (arith, o.0, o.1), o.1) in
    let ends : (k : ℕ) → k < edge_count g.C.Cell.KIND (length sizes)
    → ((edge_ends g.C.Cell.KIND (length sizes) k).0 < corner_count g.C.Cell.KIND (length sizes))
    × ((edge_ends g.C.Cell.KIND (length sizes) k).1 < corner_count g.C.Cell.KIND (length sizes)) =
    subst
    (λ (n : ℕ).
    (k : ℕ) → k < edge_count g.C.Cell.KIND n
    → ((edge_ends g.C.Cell.KIND n k).0 < corner_count g.C.Cell.KIND n) × ((edge_ends g.C.Cell.KIND n k).1 < corner_count g.C.Cell.KIND n))
    (sym axes) at_d in
    let found : (e : Splits.Edge) → Contains (edges_of c.sort_edges.new.edges.keys) e → IsGridEdge g.C.Cell.KIND sizes e =
    λ e m.
    let r = (c.in_ok-edges.ensures e).0 ((reordered_members c.in_ok-edges.edges.keys c.sort_edges.new.edges.keys c.in_ok-sort_edges.ensures.reordered e).0 m) in
    (r.0, r.1, (r.2.0, subst (λ (n : ℕ). r.2.0 < n) edges_are r.2.1, r.2.2.1)) in (
      g.met.C.Cell.is_dimension,
      few_edges {D = g.row.D} g.C.Cell.KIND sizes c.sort_edges.new.edges.keys is c.requires.regular.few (g.met.C.Split.own_midpoints sizes axes) found
          (λ e m. grid_edge_midpoint g.C.Cell.KIND sizes e is has some ends (found e m)) c.in_ok-sort_edges.ensures.apart,
    )
