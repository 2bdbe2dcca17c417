-- Numbers of corners, edges and cells of the seven kinds.
use Rattle.std.proofs.Common.{ℕ, ◌≤◌, arith, ◌<◌, inl, inr}
use Rattle.iso_model.specs.declared.Kind.{Kind}
use Rattle.iso_model.specs.Cells.{HasDimension, corner_count}
use Rattle.iso_model.specs.Dimensions.{IsDimension, in_each_dimension, of_each_cell}
use Rattle.iso_model.specs.Splits.{cells_per_cube}

pub few_corners : (kind : Kind) (d : ℕ) → IsDimension d → HasDimension kind d → corner_count kind d ≤ 16
few_corners kind d is has =
    of_each_cell (λ k n. corner_count k n ≤ 16) (omega arith) (omega arith) (omega arith) (omega arith) (omega arith) (omega arith) (omega arith) kind
    d is has

pub some_axes : (d : ℕ) → IsDimension d → 0 < d
some_axes d (inl e) = omega (arith, e)
some_axes d (inr (inl e)) = omega (arith, e)
some_axes d (inr (inr e)) = omega (arith, e)

pub axes_between : (d : ℕ) → IsDimension d → (2 ≤ d) × (d ≤ 4)
axes_between d is = (omega (arith, is), omega (arith, is))

pub few_axes : (d : ℕ) → IsDimension d → d ≤ 4
few_axes = in_each_dimension (λ n. n ≤ 4) (omega arith) (omega arith) (omega arith)

pub some_ranks : (kind : Kind) (d : ℕ) → IsDimension d → HasDimension kind d → 0 < cells_per_cube kind d
some_ranks = of_each_cell (λ k n. 0 < cells_per_cube k n) (omega arith) (omega arith) (omega arith) (omega arith) (omega arith) (omega arith) (omega arith)
