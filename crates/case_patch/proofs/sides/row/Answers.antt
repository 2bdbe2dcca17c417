use Rattle.std.proofs.Common.{◌<◌, ◌+◌, ℕ, ℤ, List, slice_index, sym, subst, arith}
use Rattle.polynomials.specs.Small.{AreSmall}
use Rattle.iso_model.specs.Cells.{edge_midpoint, edge_count}
use Rattle.case_patch.proofs.Narrow.{row_fits}
use Rattle.case_patch.proofs.SmallPoints.{midpoint_is_point, small_point}
use Rattle.case_patch.proofs.sides.row.Goals as goal

pub difference-requires : goal.difference-requires
difference-requires g c =
    let next : slice_index c.args.tuple.now (c.args.place + 1) < edge_count g.C.Cell.KIND g.row.D =
    subst (λ (n : ℕ). slice_index c.args.tuple.now (c.args.place + 1) < n) g.met.C.Cell.edges (c.requires.edges (c.args.place + 1) 0 (omega arith)) in
    let first : slice_index c.args.tuple.now 0 < edge_count g.C.Cell.KIND g.row.D =
    subst (λ (n : ℕ). slice_index c.args.tuple.now 0 < n) g.met.C.Cell.edges (c.requires.edges 0 0 (omega arith)) in (
      row_fits g.row.D g.met.C.Cell.is_dimension,
      (
        subst (λ (xs : List ℤ). AreSmall 32 xs) (sym c.edge_mid.ensures)
            (small_point g.row.D 4 (edge_midpoint g.C.Cell.KIND g.row.D (slice_index c.args.tuple.now (c.args.place + 1))) (omega arith)
            (midpoint_is_point g.C.Cell.KIND g.row.D g.met.C.Cell.is_dimension g.met.C.Cell.has_dimension
            (slice_index c.args.tuple.now (c.args.place + 1)) next)),
        subst (λ (xs : List ℤ). AreSmall 32 xs) (sym c.edge_mid-then-place.ensures)
            (small_point g.row.D 4 (edge_midpoint g.C.Cell.KIND g.row.D (slice_index c.args.tuple.now 0)) (omega arith)
            (midpoint_is_point g.C.Cell.KIND g.row.D g.met.C.Cell.is_dimension g.met.C.Cell.has_dimension (slice_index c.args.tuple.now 0) first)),
      ),
    )
