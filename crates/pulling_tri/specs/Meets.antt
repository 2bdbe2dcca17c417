-- The meets of a set with facets, where sets are written as numbers.
use Rattle.std.specs.Prelude.{◌≡◌, ◌≢◌, ◌↔◌, ◌==◌, ◌||◌, ◌&&◌, not, ℕ, Bool, List, map, filter, Contains, bit_and}
use Rattle.std.specs.List.{list_all}
use Rattle.std.specs.Int.{bit_at}
use Rattle.pulling_tri.specs.PointSets.{point_set}
use Rattle.pulling_tri.specs.Pulling.{AreNext}

-- the meet of a set with some facet, where that is not the set itself
abbrev pub IsMeet : List ℕ → ℕ → ℕ → Type 0
IsMeet facets set meet = (facet : ℕ) × Contains facets facet × (meet ≡ bit_and set facet) × (meet ≢ set)

-- all such meets, and no others
abbrev pub AreMeets : List ℕ → ℕ → List ℕ → Type 0
AreMeets facets set meets = (meet : ℕ) → Contains meets meet ↔ IsMeet facets set meet

-- the meets with each of the facets in turn
abbrev pub meets_in_turn : List ℕ → ℕ → List ℕ
meets_in_turn facets set = filter (λ meet. not (meet == set)) (map (λ facet. bit_and set facet) facets)

-- no other one of the meets has all points of this one
abbrev pub is_greatest : List ℕ → ℕ → Bool
is_greatest meets meet = list_all (λ other. (other == meet) || not (bit_and meet other == meet)) meets

-- the maximal ones of the meets that do not have this point
abbrev pub maximal_without : List ℕ → ℕ → List ℕ
maximal_without meets point = filter (λ meet. (bit_at meet point == 0) && is_greatest meets meet) meets

-- the sets that may stand next in a chain, whichever the facets are of which these are the meets
abbrev pub HasNext : List ℕ → ℕ → List ℕ → Type 0
HasNext meets set faces = (facets : List ℕ) → AreMeets facets set meets → AreNext (Contains (map point_set facets)) (point_set set) (map point_set faces)
