use Rattle.std.proofs.Common.{ℕ, List, sym, subst, refl, arith, inl, IfOk}
use Rattle.iso_model.specs.declared.Kind.TheVariants.{Cube}
use Rattle.iso_model.specs.Entries.{label_points}
use Rattle.iso_model.specs.Moves.{Move}
use Rattle.halfspace.specs.Choices.{AreFacetNumbers}
use Rattle.cube_moves.proofs.InverseMoves.{undone, undone_is, carried_once}
use Rattle.hull_tests.proofs.entries.entry_from_the_hull_of_the_least_label.Goals as goal

pub patch_moved-requires : goal.patch_moved-requires
patch_moved-requires g c =
    let by : Move = record { axes = c.least_label-least.result.1.axes; flips = c.least_label-least.result.1.flips } in
    let least = c.least_label-least.ensures in
    let class : AreFacetNumbers 2 (label_points Cube 2 c.least_label-least.result.0) c.expect-class.result.items =
    subst (λ r. IfOk r (λ facets. AreFacetNumbers 2 (label_points Cube 2 c.least_label-least.result.0) facets.items)) c.expect-class.ensures c.hull.ensures in (
      omega arith,
      (
        omega arith,
        (
          refl,
          (
            omega arith,
            (
              least.is_move,
              λ other carries.
                  subst (λ (xs : List ℕ). AreFacetNumbers 2 (label_points Cube 2 other) xs) (sym c.deref.ensures.value)
                  (subst (λ (m : ℕ). AreFacetNumbers 2 (label_points Cube 2 m) c.expect-class.result.items)
                  (carried_once 2 by (undone 2 by) (undone_is 2 (inl refl) by least.is_move) 8 c.least_label-least.result.0 other least.carries carries) class),
            ),
          ),
        ),
      ),
    )
