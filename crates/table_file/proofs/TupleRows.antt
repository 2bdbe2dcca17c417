-- The seven kinds of table, one by one.
use Rattle.std.specs.Prelude.{◌≡◌, ℕ, zero, suc, ◌*◌, ◌%◌, ◌^◌, ◌<◌, ◌≤◌}
use Rattle.std.proofs.Common.{refl, arith}
use Rattle.iso_model.specs.declared.Kind.{Kind}
use Rattle.iso_model.specs.declared.Kind.TheVariants.{Cube, Simplex, Pyramid}
use Rattle.iso_model.specs.Cells.{HasDimension, corner_count, edge_count, label_count}

-- what holds of the seven holds of each kind and dimension
pub each_row : (P : Kind → ℕ → Type 0) → P Cube 2 → P Cube 3 → P Cube 4 → P Simplex 2 → P Simplex 3 → P Simplex 4 → P Pyramid 3
    → (kind : Kind) (d : ℕ) → HasDimension kind d → P kind d
each_row P a b c e f g h Cube zero fits = absurd (omega (arith, fits.0))
each_row P a b c e f g h Cube (suc zero) fits = absurd (omega (arith, fits.0))
each_row P a b c e f g h Cube (suc (suc zero)) fits = a
each_row P a b c e f g h Cube (suc (suc (suc zero))) fits = b
each_row P a b c e f g h Cube (suc (suc (suc (suc zero)))) fits = c
each_row P a b c e f g h Cube (suc (suc (suc (suc (suc d))))) fits = absurd (omega (arith, fits.1))
each_row P a b c e f g h Simplex zero fits = absurd (omega (arith, fits.0))
each_row P a b c e f g h Simplex (suc zero) fits = absurd (omega (arith, fits.0))
each_row P a b c e f g h Simplex (suc (suc zero)) fits = e
each_row P a b c e f g h Simplex (suc (suc (suc zero))) fits = f
each_row P a b c e f g h Simplex (suc (suc (suc (suc zero)))) fits = g
each_row P a b c e f g h Simplex (suc (suc (suc (suc (suc d))))) fits = absurd (omega (arith, fits.1))
each_row P a b c e f g h Pyramid zero fits = absurd (omega (arith, fits))
each_row P a b c e f g h Pyramid (suc zero) fits = absurd (omega (arith, fits))
each_row P a b c e f g h Pyramid (suc (suc zero)) fits = absurd (omega (arith, fits))
each_row P a b c e f g h Pyramid (suc (suc (suc zero))) fits = h
each_row P a b c e f g h Pyramid (suc (suc (suc (suc d)))) fits = absurd (omega (arith, fits))

pub record HasSmallCounts (kind : Kind) (d : ℕ) : Type 0 where
  pub some : 2 ≤ d
  pub dimension : d ≤ 4
  pub corners : corner_count kind d ≤ 16
  pub edges : edge_count kind d ≤ 32
  pub some_edges : 0 < edge_count kind d
  pub labels : label_count kind d ≤ 65536
  pub shifted : 1 * 2 ^ corner_count kind d % 4294967296 ≡ label_count kind d

pub small_counts : (kind : Kind) (d : ℕ) → HasDimension kind d → HasSmallCounts kind d
small_counts =
    let by : (kind : Kind) (d : ℕ) → Type 0 = λ kind d. HasSmallCounts kind d in
    each_row by
    (record {
      some = omega arith;
      dimension = omega arith;
      corners = omega arith;
      edges = omega arith;
      some_edges = omega arith;
      labels = omega arith;
      shifted = refl;
    })
    (record {
      some = omega arith;
      dimension = omega arith;
      corners = omega arith;
      edges = omega arith;
      some_edges = omega arith;
      labels = omega arith;
      shifted = refl;
    })
    (record {
      some = omega arith;
      dimension = omega arith;
      corners = omega arith;
      edges = omega arith;
      some_edges = omega arith;
      labels = omega arith;
      shifted = refl;
    })
    (record {
      some = omega arith;
      dimension = omega arith;
      corners = omega arith;
      edges = omega arith;
      some_edges = omega arith;
      labels = omega arith;
      shifted = refl;
    })
    (record {
      some = omega arith;
      dimension = omega arith;
      corners = omega arith;
      edges = omega arith;
      some_edges = omega arith;
      labels = omega arith;
      shifted = refl;
    })
    (record {
      some = omega arith;
      dimension = omega arith;
      corners = omega arith;
      edges = omega arith;
      some_edges = omega arith;
      labels = omega arith;
      shifted = refl;
    })
    (record {
      some = omega arith;
      dimension = omega arith;
      corners = omega arith;
      edges = omega arith;
      some_edges = omega arith;
      labels = omega arith;
      shifted = refl;
    })
