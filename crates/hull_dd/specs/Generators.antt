-- Generators of the half-spaces that hold a set of points. A set of points of a list is a number: bit j is set where point j is a member.
use Rattle.std.specs.Prelude.{◌≡◌, ◌↔◌, ℕ, ◌^◌, ◌<◌, ◌==◌, Bool, ℤ, ◌-ℤ◌, ◌*ℤ◌, bit_and, bit_or, List, [], ◌∷◌, ◌++◌, map, filter, length}
use Rattle.std.specs.Prelude.{slice_index_or, All, Any, not, if◌then◌else◌}
use Rattle.std.specs.Int.{bit_at}
use Rattle.std.specs.List.{list_any}
use Rattle.polynomials.specs.Small.{IsSmall, AreSmall}
use Rattle.iso_model.specs.Turns.{HalfSpace, Holds, IsTight, HasNormal, minus}
use Rattle.small_turn.specs.declared.HalfSpace.{HalfSpace as SmallHalfSpace}
use Rattle.hull_dd.specs.declared.generators.Generator.{Generator}

-- ---- half-spaces and sets

-- the point of this number
abbrev pub point_at : List (List ℤ) → ℕ → List ℤ
point_at points j = slice_index_or points j []

-- each point of the set has P
abbrev pub OfSet : List (List ℤ) → ℕ → (List ℤ → Type 0) → Type 0
OfSet points set P = (j : ℕ) → j < length points → bit_at set j ≡ 1 → P (point_at points j)

-- p times the one half-space minus q times the other, number by number
abbrev pub combined : ℤ → HalfSpace → ℤ → HalfSpace → HalfSpace
combined p h q g = record {
  normal = minus (map (λ x. p *ℤ x) h.normal) (map (λ x. q *ℤ x) g.normal);
  bound = p *ℤ h.bound -ℤ q *ℤ g.bound;
}

-- the set with one point more
abbrev pub with_point : ℕ → ℕ → ℕ
with_point set i = bit_or set (2 ^ i)

-- the one set lies within the other
abbrev pub is_within : ℕ → ℕ → Bool
is_within set other = bit_and set other == set

abbrev pub IsWithin : ℕ → ℕ → Type 0
IsWithin set other = bit_and set other ≡ set

-- ---- one generator

-- a half-space of the code as one of the model
abbrev pub plain : {d : ℕ} → SmallHalfSpace d → HalfSpace
plain {d} h = record { normal = h.normal; bound = h.bound }

-- the half-space of a generator
abbrev pub half_of : {d : ℕ} → Generator d → HalfSpace
half_of {d} g = plain g.half

-- the numbers of a generator are small
pub record HasSmallNumbers {d : ℕ} (g : Generator d) : Type 0 where
  pub coefficients : AreSmall (2 ^ 24) g.half.normal
  pub constant : IsSmall (2 ^ 28) g.half.bound

-- a generator holds each point of the set, is tight at those of its own set, which lies within the set, and at no others, and is not tight at all
pub record IsGenerator (d : ℕ) (points : List (List ℤ)) (set : ℕ) (g : Generator d) : Type 0 where
  pub wide : length g.half.normal ≡ d
  pub small : HasSmallNumbers g
  pub holds : OfSet points set (Holds (half_of g))
  pub within : (j : ℕ) → bit_at g.tight j ≡ 1 → bit_at set j ≡ 1
  pub touches : (j : ℕ) → j < length points → bit_at set j ≡ 1 → bit_at g.tight j ≡ 1 ↔ IsTight (half_of g) (point_at points j)
  pub apart : ¬ (OfSet points set (IsTight (half_of g)))

-- ---- all generators

-- a half-space is tight at no point of the set at which the generator is not
abbrev pub IsCoveredBy : {d : ℕ} → List (List ℤ) → ℕ → HalfSpace → Generator d → Type 0
IsCoveredBy {d} points set h g = (j : ℕ) → j < length points → bit_at set j ≡ 1 → IsTight h (point_at points j) → bit_at g.tight j ≡ 1

-- generators of the half-spaces that hold a set of points, which lie in no hyperplane: each half-space that holds them, and is not tight at
-- all of them, is tight at no point of the set at which some generator is not
pub record Generate (d : ℕ) (points : List (List ℤ)) (set : ℕ) (gs : List (Generator d)) : Type 0 where
  pub each : All (IsGenerator d points set) gs
  pub flat : (h : HalfSpace) → length h.normal ≡ d → OfSet points set (IsTight h) → ¬ (HasNormal h)
  pub full : (h : HalfSpace) → length h.normal ≡ d → OfSet points set (IsTight h) → (j : ℕ) → j < length points → IsTight h (point_at points j)
  pub enough : (h : HalfSpace) → length h.normal ≡ d → OfSet points set (Holds h) → ¬ (OfSet points set (IsTight h)) → Any (IsCoveredBy points set h) gs

-- generators of the half-spaces that hold all the points
pub record GenerateAll (d : ℕ) (points : List (List ℤ)) (gs : List (Generator d)) : Type 0 where
  pub set : ℕ
  pub all : (j : ℕ) → j < length points → bit_at set j ≡ 1
  pub generate : Generate d points set gs

-- ---- the greatest tight sets

-- some generator is tight at all points of the set
abbrev pub is_within_some : {d : ℕ} → ℕ → List (Generator d) → Bool
is_within_some {d} set gs = list_any (λ (g : Generator d). is_within set g.tight) gs

-- those whose sets do not lie within that of the new one, and the new one
abbrev pub with_new : {d : ℕ} → Generator d → List (Generator d) → List (Generator d)
with_new {d} new gs = filter (λ (g : Generator d). not (is_within g.tight new.tight)) gs ++ new ∷ []

-- one generator more, unless its set lies within that of another; those whose sets lie within its own are left out
abbrev pub kept_with : {d : ℕ} → Generator d → List (Generator d) → List (Generator d)
kept_with {d} new gs = if is_within_some new.tight gs then gs else with_new new gs
