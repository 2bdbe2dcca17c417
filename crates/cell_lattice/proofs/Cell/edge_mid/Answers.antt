use Rattle.std.proofs.Common.{◌≡◌, ℕ, ◌<◌, pos, ◌+ℤ◌, slice_index_or, arith, map, ap, ◌∙◌, subst, List, ℤ, w32, FitsSigned, to_z, of_z}
use Rattle.std.proofs.lemmas.Int.{ints, to_z-of_z}
use Rattle.std.proofs.lemmas.List.FromFn.{fill_by_all}
use Rattle.iso_model.specs.Cells.{corner_point, edge_ends, edge_count, corner_count}
use Rattle.iso_model.specs.Points.{axes}
use Rattle.cell_lattice.specs.Coordinates.{IsCoordinate}
use Rattle.cell_lattice.specs.CellLemmas.{coordinates, sum_by_axes}
use Rattle.cell_lattice.proofs.Cell.edge_mid.Goals as goal

-- a coordinate stays what it is where the code reads it
as_read : (x : ℤ) → IsCoordinate x → IsCoordinate (to_z w32 (of_z w32 x))
as_read x h = let fits : FitsSigned w32 x = omega (arith, ints, h) in rw to_z-of_z h

pub small_sum-requires : goal.small_sum-requires
small_sum-requires g c =
    let second : c.edge_ends-first.result.1 < corner_count g.Self.Cell.KIND g.row.D =
    subst (λ (n : ℕ). c.edge_ends-first.result.1 < n) g.met.Self.Cell.corners c.edge_ends-first.ensures.corners in
    let ordered = c.edge_ends-first.ensures.ordered in
    let first : c.edge_ends-first.result.0 < corner_count g.Self.Cell.KIND g.row.D = omega (arith, second, ordered) in
    let from =
    coordinates g.Self.Cell.KIND g.row.D g.met.Self.Cell.is_dimension g.met.Self.Cell.has_dimension c.edge_ends-first.result.0 first
    c.loop-axis.axis c.loop-axis-test.true in
    let to =
    coordinates g.Self.Cell.KIND g.row.D g.met.Self.Cell.is_dimension g.met.Self.Cell.has_dimension c.edge_ends-first.result.1 second
    c.loop-axis.axis c.loop-axis-test.true in
    record {
      first = as_read (slice_index_or c.corner_at-from.result c.loop-axis.axis (pos 0)) (rw c.corner_at-from.ensures from);
      second = as_read (slice_index_or c.corner_at-to.result c.loop-axis.axis (pos 0)) (rw c.corner_at-to.ensures to);
    }

pub returns : goal.returns
returns g c =
    let below : c.args.edge < edge_count g.Self.Cell.KIND g.row.D = subst (λ (n : ℕ). c.args.edge < n) g.met.Self.Cell.edges c.requires in
    let from_is : c.corner_at-from.result ≡ map pos (corner_point g.Self.Cell.KIND g.row.D (edge_ends g.Self.Cell.KIND g.row.D c.args.edge).0) =
    c.corner_at-from.ensures ∙ ap (λ (p : ℕ × ℕ). map pos (corner_point g.Self.Cell.KIND g.row.D p.0)) c.edge_ends-first.ensures.ends in
    let to_is : c.corner_at-to.result ≡ map pos (corner_point g.Self.Cell.KIND g.row.D (edge_ends g.Self.Cell.KIND g.row.D c.args.edge).1) =
    c.corner_at-to.ensures ∙ ap (λ (p : ℕ × ℕ). map pos (corner_point g.Self.Cell.KIND g.row.D p.1)) c.edge_ends-first.ensures.ends in
    fill_by_all (λ i. slice_index_or c.corner_at-from.result i (pos 0) +ℤ slice_index_or c.corner_at-to.result i (pos 0)) c.loop-axis.sum g.row.D
    (pos 0) c.loop-axis.invariant.0 (λ i h. c.loop-axis.invariant.1 i (omega arith))
    ∙ ap (λ (xs : List ℤ). map (λ i. slice_index_or xs i (pos 0) +ℤ slice_index_or c.corner_at-to.result i (pos 0)) (axes g.row.D)) from_is
    ∙ ap
    (λ (xs : List ℤ).
    map
    (λ i.
    slice_index_or (map pos (corner_point g.Self.Cell.KIND g.row.D (edge_ends g.Self.Cell.KIND g.row.D c.args.edge).0)) i (pos 0)
    +ℤ slice_index_or xs i (pos 0))
    (axes g.row.D))
    to_is
    ∙ sum_by_axes g.Self.Cell.KIND g.row.D g.met.Self.Cell.is_dimension g.met.Self.Cell.has_dimension c.args.edge below
