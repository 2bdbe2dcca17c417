-- The facets of a finite set of points, as numbers in any order.
use Rattle.std.specs.Prelude.{◌↔◌, ℕ, ℤ, List, Contains}
use Rattle.iso_model.specs.declared.Kind.{Kind}
use Rattle.iso_model.specs.Entries.{label_points}
use Rattle.iso_model.specs.Moves.{Carries}
use Rattle.halfspace.specs.Choices.{AreFacetNumbers, IsFacetNumber}

-- the numbers of the sets of all facets, and no others
pub record AreAllFacets (d : ℕ) (points : List (List ℤ)) (found : List ℕ) : Type 0 where
  pub each : (number : ℕ) → Contains found number ↔ IsFacetNumber d points number

-- the numbers of the facets of the labelling to which a move carries a labelling; the move is given by its axes and its flips
abbrev pub AreFacetsOfMoved : Kind → ℕ → List ℕ → ℕ → ℕ → List ℕ → Type 0
AreFacetsOfMoved kind d axes flips label found =
    (other : ℕ) → Carries d (record { axes = axes; flips = flips }) label other → AreFacetNumbers d (label_points kind d other) found
