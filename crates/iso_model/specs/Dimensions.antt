-- The dimensions of grids: two, three and four.
use Rattle.std.specs.Prelude.{◌≡◌, ℕ, ◌⊎◌}
use Rattle.std.proofs.Common.{inl, inr, sym, subst}
use Rattle.iso_model.specs.declared.Kind.{Kind}
use Rattle.iso_model.specs.declared.Kind.TheVariants.{Cube, Simplex, Pyramid}
use Rattle.iso_model.specs.Cells.{HasDimension}

-- a grid has two, three or four axes
abbrev pub IsDimension : ℕ → Type 0
IsDimension d = (d ≡ 2) ⊎ ((d ≡ 3) ⊎ (d ≡ 4))

-- what holds in each of the three dimensions holds in a dimension
pub in_each_dimension : (P : ℕ → Type 0) → P 2 → P 3 → P 4 → (d : ℕ) → IsDimension d → P d
in_each_dimension P two three four d (inl e) = subst P (sym e) two
in_each_dimension P two three four d (inr (inl e)) = subst P (sym e) three
in_each_dimension P two three four d (inr (inr e)) = subst P (sym e) four

-- what holds of the seven kinds of cells holds of a kind in its dimension
pub of_each_cell : (P : Kind → ℕ → Type 0) → P Cube 2 → P Cube 3 → P Cube 4 → P Simplex 2 → P Simplex 3 → P Simplex 4 → P Pyramid 3 →
    (kind : Kind) (d : ℕ) → IsDimension d → HasDimension kind d → P kind d
of_each_cell P c2 c3 c4 s2 s3 s4 p3 Cube d is has = in_each_dimension (P Cube) c2 c3 c4 d is
of_each_cell P c2 c3 c4 s2 s3 s4 p3 Simplex d is has = in_each_dimension (P Simplex) s2 s3 s4 d is
of_each_cell P c2 c3 c4 s2 s3 s4 p3 Pyramid d is has = subst (P Pyramid) (sym has) p3
