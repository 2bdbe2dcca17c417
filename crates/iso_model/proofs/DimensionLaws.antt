-- A kind has one of three dimensions, and in each of them few corners, edges, facets and labels.
use Rattle.std.specs.Prelude.{◌≡◌, ◌≤◌, ◌⊎◌, ℕ}
use Rattle.std.proofs.Common.{arith, subst, sym, inl, inr}
use Rattle.std.proofs.lemmas.Bool.Decides.{nat_tests}
use Rattle.iso_model.specs.declared.Kind.{Kind}
use Rattle.iso_model.specs.declared.Kind.TheVariants.{Cube, Simplex, Pyramid}
use Rattle.iso_model.specs.Cells.{HasDimension, corner_count, edge_count, facet_count, label_count}

three_cases : (d : ℕ) → 2 ≤ d → d ≤ 4 → (d ≡ 2) ⊎ ((d ≡ 3) ⊎ (d ≡ 4))
three_cases d a b = grind (arith, nat_tests)

pub dimension_cases : (kind : Kind) (d : ℕ) → HasDimension kind d → (d ≡ 2) ⊎ ((d ≡ 3) ⊎ (d ≡ 4))
dimension_cases Cube d h = three_cases d h.0 h.1
dimension_cases Simplex d h = three_cases d h.0 h.1
dimension_cases Pyramid d h = inr (inl h)

-- the dimensions of all kinds
pub HasDimension-limits : (kind : Kind) (d : ℕ) → HasDimension kind d → (2 ≤ d) × (d ≤ 4)
HasDimension-limits Cube d h = h
HasDimension-limits Simplex d h = h
HasDimension-limits Pyramid d h = (omega (arith, h), omega (arith, h))

pub record IsSmallCell (kind : Kind) (d : ℕ) : Type 0 where
  pub corners : corner_count kind d ≤ 16
  pub edges : edge_count kind d ≤ 32
  pub facets : facet_count kind d ≤ 8
  pub labels : label_count kind d ≤ 65536

small_two : (kind : Kind) → HasDimension kind 2 → IsSmallCell kind 2
small_two Cube h = record { corners = omega arith; edges = omega arith; facets = omega arith; labels = omega arith }
small_two Simplex h = record { corners = omega arith; edges = omega arith; facets = omega arith; labels = omega arith }
small_two Pyramid h = absurd (omega (arith, h))

small_three : (kind : Kind) → IsSmallCell kind 3
small_three Cube = record { corners = omega arith; edges = omega arith; facets = omega arith; labels = omega arith }
small_three Simplex = record { corners = omega arith; edges = omega arith; facets = omega arith; labels = omega arith }
small_three Pyramid = record { corners = omega arith; edges = omega arith; facets = omega arith; labels = omega arith }

small_four : (kind : Kind) → HasDimension kind 4 → IsSmallCell kind 4
small_four Cube h = record { corners = omega arith; edges = omega arith; facets = omega arith; labels = omega arith }
small_four Simplex h = record { corners = omega arith; edges = omega arith; facets = omega arith; labels = omega arith }
small_four Pyramid h = absurd (omega (arith, h))

-- at most 16 corners, 32 edges, 8 facets and 65536 labels
pub is_small_cell : (kind : Kind) (d : ℕ) → HasDimension kind d → IsSmallCell kind d
is_small_cell kind d h = elim (dimension_cases kind d h) as (λ _. IsSmallCell kind d) [
  | inl two ↦ subst (λ (n : ℕ). IsSmallCell kind n) (sym two) (small_two kind (subst (λ (n : ℕ). HasDimension kind n) two h))
  | inr (inl three) ↦ subst (λ (n : ℕ). IsSmallCell kind n) (sym three) (small_three kind)
  | inr (inr four) ↦ subst (λ (n : ℕ). IsSmallCell kind n) (sym four) (small_four kind (subst (λ (n : ℕ). HasDimension kind n) four h))
]
