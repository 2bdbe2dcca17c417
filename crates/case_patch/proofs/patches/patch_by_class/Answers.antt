use Rattle.std.proofs.Common.{ℕ, List, sym, subst, arith}
use Rattle.iso_model.specs.Entries.{label_points}
use Rattle.iso_model.specs.Moves.{Move}
use Rattle.halfspace.specs.Choices.{AreFacetNumbers}
use Rattle.cube_moves.proofs.InverseMoves.{undone, undone_is, carried_once}
use Rattle.case_patch.proofs.Narrow.{bytes_fit}
use Rattle.case_patch.proofs.patches.patch_by_class.Goals as goal
use Rattle.iso_model.proofs.CellCounts.{axes_between}

pub patch_moved-requires : goal.patch_moved-requires
patch_moved-requires g c =
    let is = g.met.C.Cell.is_dimension in
    let few = axes_between g.row.D is in
    let by : Move = record { axes = c.least_label-class.result.1.axes; flips = c.least_label-class.result.1.flips } in
    let least = c.least_label-class.ensures in (
      omega arith,
      (
        bytes_fit g.row.D is,
        (
          c.requires.kind,
          (
            c.requires.label,
            (
              least.is_move,
              λ other carries.
                  subst (λ (xs : List ℕ). AreFacetNumbers g.row.D (label_points g.C.Cell.KIND g.row.D other) xs) (sym c.deref.ensures.value)
                  (subst (λ (m : ℕ). AreFacetNumbers g.row.D (label_points g.C.Cell.KIND g.row.D m) c.in_ok-facets.facets.items)
                  (carried_once g.row.D by (undone g.row.D by) (undone_is g.row.D is by least.is_move) c.args.label c.least_label-class.result.0 other
                  least.carries carries) c.in_ok-facets.ensures),
            ),
          ),
        ),
      ),
    )
