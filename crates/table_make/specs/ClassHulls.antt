-- The hulls of labellings that are known so far.
use Rattle.std.specs.Prelude.{◌≡◌, ℕ, ◌<◌, List, [], length, slice_index_or, Option}
use Rattle.std.specs.Prelude.{None, Some}
use Rattle.iso_model.specs.declared.Kind.{Kind}
use Rattle.iso_model.specs.Entries.{label_points}
use Rattle.halfspace.specs.Choices.{AreFacetNumbers}

-- the facets of the points of a labelling stand at this place
abbrev pub IsHullAt : Kind → ℕ → ℕ → List (List ℕ) → ℕ → Type 0
IsHullAt kind d label hulls place = AreFacetNumbers d (label_points kind d label) (slice_index_or hulls place [])

-- where a label has a place, the facets of its points stand there
pub record KnowsHulls (kind : Kind) (d : ℕ) (places : List (Option ℕ)) (hulls : List (List ℕ)) : Type 0 where
  pub each : (label place : ℕ) → slice_index_or places label None ≡ Some place
      → (place < length hulls) × IsHullAt kind d label hulls place
