use Rattle.std.proofs.Common.{◌<◌, ℕ, ℤ, List, sym, subst, arith}
use Rattle.polynomials.specs.Small.{AreSmall}
use Rattle.iso_model.specs.Cells.{corner_point, corner_count}
use Rattle.case_patch.proofs.Narrow.{row_fits}
use Rattle.case_patch.proofs.SmallPoints.{corner_is_point, small_point}
use Rattle.case_patch.proofs.sides.towards_positive.Goals as goal

pub difference-requires : goal.difference-requires
difference-requires g c =
    let second : c.edge_ends-first.result.1 < corner_count g.C.Cell.KIND g.row.D =
    subst (λ (n : ℕ). c.edge_ends-first.result.1 < n) g.met.C.Cell.corners c.edge_ends-first.ensures.corners in
    let first : c.edge_ends-first.result.0 < corner_count g.C.Cell.KIND g.row.D = omega (arith, second, c.edge_ends-first.ensures.ordered) in (
      row_fits g.row.D g.met.C.Cell.is_dimension,
      (
        subst (λ (xs : List ℤ). AreSmall 32 xs) (sym c.corner_at.ensures)
            (small_point g.row.D 2 (corner_point g.C.Cell.KIND g.row.D c.edge_ends-first.result.0) (omega arith)
            (corner_is_point g.C.Cell.KIND g.row.D g.met.C.Cell.is_dimension g.met.C.Cell.has_dimension c.edge_ends-first.result.0 first)),
        subst (λ (xs : List ℤ). AreSmall 32 xs) (sym c.corner_at-then-has_member.ensures)
            (small_point g.row.D 2 (corner_point g.C.Cell.KIND g.row.D c.edge_ends-first.result.1) (omega arith)
            (corner_is_point g.C.Cell.KIND g.row.D g.met.C.Cell.is_dimension g.met.C.Cell.has_dimension c.edge_ends-first.result.1 second)),
      ),
    )

pub difference-requires-else-has_member : goal.difference-requires-else-has_member
difference-requires-else-has_member g c =
    let second : c.edge_ends-first.result.1 < corner_count g.C.Cell.KIND g.row.D =
    subst (λ (n : ℕ). c.edge_ends-first.result.1 < n) g.met.C.Cell.corners c.edge_ends-first.ensures.corners in
    let first : c.edge_ends-first.result.0 < corner_count g.C.Cell.KIND g.row.D = omega (arith, second, c.edge_ends-first.ensures.ordered) in (
      row_fits g.row.D g.met.C.Cell.is_dimension,
      (
        subst (λ (xs : List ℤ). AreSmall 32 xs) (sym c.corner_at-else-has_member.ensures)
            (small_point g.row.D 2 (corner_point g.C.Cell.KIND g.row.D c.edge_ends-first.result.1) (omega arith)
            (corner_is_point g.C.Cell.KIND g.row.D g.met.C.Cell.is_dimension g.met.C.Cell.has_dimension c.edge_ends-first.result.1 second)),
        subst (λ (xs : List ℤ). AreSmall 32 xs) (sym c.corner_at-else-has_member-2.ensures)
            (small_point g.row.D 2 (corner_point g.C.Cell.KIND g.row.D c.edge_ends-first.result.0) (omega arith)
            (corner_is_point g.C.Cell.KIND g.row.D g.met.C.Cell.is_dimension g.met.C.Cell.has_dimension c.edge_ends-first.result.0 first)),
      ),
    )
