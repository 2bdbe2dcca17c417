-- The first D + 1 points, and the generators of the half-spaces that hold them.
use Rattle.std.specs.Prelude.{◌≡◌, ◌↔◌, ℕ, ℤ, pos, ◌<ℤ◌, List, length, All, Contains}
use Rattle.std.specs.Int.{bit_at}
use Rattle.iso_model.specs.Turns.{HalfSpace, slack, HasNormal, IsTight}
use Rattle.hull_dd.specs.declared.generators.Generator.{Generator}
use Rattle.hull_dd.specs.Generators.{half_of, point_at, HasSmallNumbers}

-- the number of the set that has these members
abbrev pub IsSetOf : List ℕ → ℕ → Type 0
IsSetOf choice set = (j : ℕ) → bit_at set j ≡ 1 ↔ Contains choice j

-- the half-space is tight at the chosen points
abbrev pub IsTightAt : List (List ℤ) → List ℕ → HalfSpace → Type 0
IsTightAt points choice h = All (λ i. IsTight h (point_at points i)) choice

-- a generator that is tight at chosen points and holds a further one off its boundary, where no half-space with a normal is tight at all of these
pub record IsOpposite (d : ℕ) (points : List (List ℤ)) (choice : List ℕ) (apart : ℕ) (g : Generator d) : Type 0 where
  pub wide : length g.half.normal ≡ d
  pub small : HasSmallNumbers g
  pub tight : IsTightAt points choice (half_of g)
  pub above : pos 0 <ℤ slack (half_of g) (point_at points apart)
  pub set : IsSetOf choice g.tight
  pub flat : (h : HalfSpace) → length h.normal ≡ d → IsTightAt points choice h → IsTight h (point_at points apart) → ¬ (HasNormal h)
  pub full : (h : HalfSpace) → length h.normal ≡ d → IsTightAt points choice h → IsTight h (point_at points apart) → (x : List ℤ) → IsTight h x
