use Rattle.std.proofs.Common.{◌≡◌, ◌<◌, ◌≤◌, ◌^◌, ◌*◌, ◌%◌, ◌∙◌, ap, subst, length, filter, List, ℕ, Bool, arith}
use Rattle.lists.specs.Orders.{numbers}
use Rattle.iso_model.specs.Cells.{corner_count, edge_count, corner_in_facet, edge_in_facet, facet_corners}
use Rattle.seam_traces.proofs.FacetLists.{members_few, members_are}
use Rattle.lists.specs.Bits.{is_set}
use Rattle.lists.proofs.Bits.{shifted_one}
use Rattle.iso_model.proofs.CellCounts.{few_corners}
use Rattle.seam_traces.proofs.facets.facet_of.Goals as goal

few_patterns : (n m count : ℕ) (p : ℕ → Bool) (xs : List ℕ) → xs ≡ filter p (numbers n) → n ≡ m → m ≤ 16 → count ≡ length xs → count < 64
few_patterns n m count p xs e same few wide = let l = ap length e in let k = members_few p n in omega arith

pub overflow_shl-patterns : goal.overflow_shl-patterns
overflow_shl-patterns g c =
    let law = g.met.C.Cell in
    let corners : g.C.Cell.CORNERS ≡ corner_count g.C.Cell.KIND g.row.D = law.corners in
    let wide : c.len-patterns.result ≡ length c.in_ok-corners.corners.items = omega (arith, c.len-patterns.ensures) in
    few_patterns c.CORNERS.result (corner_count g.C.Cell.KIND g.row.D) c.len-patterns.result (is_set c.facet_mask.result)
    c.in_ok-corners.corners.items c.in_ok-corners.ensures
    (c.CORNERS.ensures ∙ corners) (few_corners g.C.Cell.KIND g.row.D law.is_dimension law.has_dimension) wide

pub returns-clause-is_facet : goal.returns-clause-is_facet
returns-clause-is_facet g c =
    let law = g.met.C.Cell in
    let f = c.args.facet in
    let count : c.CORNERS.result ≡ corner_count g.C.Cell.KIND g.row.D = c.CORNERS.ensures ∙ law.corners in
    let edge_number : c.EDGES.result ≡ edge_count g.C.Cell.KIND g.row.D = c.EDGES.ensures ∙ law.edges in
    let corners : c.in_ok-corners.corners.items ≡ facet_corners g.C.Cell.KIND g.row.D f =
    c.in_ok-corners.ensures ∙ members_are c.facet_mask.result (corner_in_facet g.C.Cell.KIND f) c.CORNERS.result (corner_count g.C.Cell.KIND g.row.D) count
    (λ k h. c.facet_mask.ensures.members k (subst (λ n. k < n) c.CORNERS.ensures h)) in
    let wide : c.len-patterns.result ≡ length c.in_ok-corners.corners.items = omega (arith, c.len-patterns.ensures) in
    let few : c.len-patterns.result < 64 =
    few_patterns c.CORNERS.result (corner_count g.C.Cell.KIND g.row.D) c.len-patterns.result (is_set c.facet_mask.result)
    c.in_ok-corners.corners.items c.in_ok-corners.ensures
    count (few_corners g.C.Cell.KIND g.row.D law.is_dimension law.has_dimension) wide in
    let patterns : 1 * 2 ^ c.len-patterns.result % 2 ^ 64 ≡ 2 ^ length (facet_corners g.C.Cell.KIND g.row.D f) =
    shifted_one c.len-patterns.result few ∙ ap (λ (n : ℕ). 2 ^ n) (wide ∙ ap (λ (l : List ℕ). length l) corners) in
    record {
      corners = corners;
      edges =
          c.in_ok-edges.ensures
          ∙ members_are c.facet_edges-edge_set.result (edge_in_facet g.C.Cell.KIND g.row.D f) c.EDGES.result (edge_count g.C.Cell.KIND g.row.D)
          edge_number
          (λ k h. c.facet_edges-edge_set.ensures.members k (subst (λ n. k < n) c.EDGES.ensures h));
      set = c.facet_edges-edge_set.ensures.set;
      seen = c.in_ok-unseen.ensures.len ∙ patterns;
      traces = c.in_ok-empty_traces.ensures ∙ patterns;
    }
