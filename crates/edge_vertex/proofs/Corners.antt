-- The corners of a grid's cells are points that have a value.
use Rattle.std.proofs.Common.{◌≡◌, ℕ, ◌+◌, ◌*◌, ◌/◌, ◌%◌, ◌<◌, ◌≤◌, List, length, ◌∙◌, arith, inl, inr}
use Rattle.std.specs.Prelude.{slice_index}
use Rattle.iso_model.specs.declared.Kind.{Kind}
use Rattle.iso_model.specs.Cells.{HasDimension, corner_count}
use Rattle.iso_model.specs.Splits.{cells_per_cube, cell_count, cube_of, rank_of, corner, corner_offset}
use Rattle.iso_model.specs.Values.{HasValue}
use Rattle.iso_model.proofs.BipolarLaws.{length-corner}
use Rattle.iso_model.specs.Dimensions.{IsDimension}
use Rattle.split_laws.proofs.Coordinates.{coordinate, cube_below, cube_in, rank_below}
use Rattle.split_laws.proofs.SplitTheorems.{small_offsets}
use Rattle.mixed_cubes.proofs.OffsetCases.{offset_case}

even_inside : (x o n : ℕ) → o % 2 ≡ 0 → o ≤ 2 → x + 1 < n → ((2 * x + o) % 2 ≡ 0) × ((2 * x + o) / 2 < n)
even_inside x o n even small below = (omega (arith, even), omega (arith, small, below))

centre_inside : (x o n : ℕ) → o ≡ 1 → x + 1 < n → ((2 * x + o) % 2 ≡ 1) × ((2 * x + o) / 2 + 1 < n)
centre_inside x o n one below = (omega (arith, one), omega (arith, one, below))

pub corner_value : (kind : Kind) (sizes : List ℕ) (cell k : ℕ) → IsDimension (length sizes) → HasDimension kind (length sizes)
    → cell < cell_count kind sizes → 0 < cells_per_cube kind (length sizes) → k < corner_count kind (length sizes) →
    HasValue sizes (corner kind sizes cell k)
corner_value kind sizes cell k is has hc some hk =
    let d : ℕ = length sizes in
    let rank : ℕ = rank_of kind sizes cell in
    let x : List ℕ = cube_of kind sizes cell in
    let o : List ℕ = corner_offset kind d rank k in
    let at : (i : ℕ) → i < d → slice_index (corner kind sizes cell k) i ≡ 2 * slice_index x i + slice_index o i =
    λ i h. coordinate d (λ i. 2 * slice_index x i + slice_index o i) i h in
    let below : (i : ℕ) → i < d → slice_index x i + 1 < slice_index sizes i = cube_below sizes (cell / cells_per_cube kind d) (cube_in kind sizes cell hc) in
    let small : (i : ℕ) → slice_index o i ≤ 2 = λ i. small_offsets kind d is has rank k i (rank_below kind sizes cell some) hk in
    elim (offset_case kind d rank k has) as (λ _. HasValue sizes (corner kind sizes cell k)) [
      | inl even ↦
          inl (
            length-corner kind sizes cell k,
            λ i h. rw (at i h) (even_inside (slice_index x i) (slice_index o i) (slice_index sizes i) (even i h) (small i) (below i h)),
          )
      | inr centre ↦
          inr (
            centre.0,
            length-corner kind sizes cell k ∙ centre.0,
            λ i h.
                let inside : i < d = omega (arith, h, centre.0) in
                rw (at i inside) (centre_inside (slice_index x i) (slice_index o i) (slice_index sizes i) (centre.1 i h) (below i inside)),
          )
    ]
