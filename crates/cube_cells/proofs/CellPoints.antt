-- The corners of a cube's cells are points of the cube.
use Rattle.std.proofs.Common.{◌≡◌, ℕ, ◌+◌, ◌*◌, ◌/◌, ◌%◌, ◌<◌, ◌≤◌, Bool, true, false, None, List, length, refl, ap, sym, ◌∙◌, subst, arith, ℤ, inl, inr}
use Rattle.std.specs.Prelude.{slice_index, if◌then◌else◌, ◌==◌}
use Rattle.std.specs.Int.{bit_at}
use Rattle.std.proofs.lemmas.Nat.{div-mul-add, mod-mul-add}
use Rattle.std.proofs.lemmas.Bool.{eqb-true}
use Rattle.iso_model.specs.declared.Kind.{Kind}
use Rattle.iso_model.specs.Points.{point}
use Rattle.iso_model.specs.Cells.{HasDimension, corner_count, edge_ends}
use Rattle.iso_model.specs.Splits.{cells_per_cube, cube_at, cube_of, rank_of, corner, corner_offset, edge, edge_of_ends}
use Rattle.iso_model.specs.Values.{Grid, volume, positive_at, label_of}
use Rattle.iso_model.specs.Dimensions.{IsDimension}
use Rattle.split_laws.proofs.Coordinates.{points_same}
use Rattle.split_laws.proofs.SplitTheorems.{small_offsets}
use Rattle.grid_split.proofs.CubeNumbers.{corner_is}
use Rattle.mixed_cubes.proofs.OffsetCases.{offset_case}
use Rattle.mixed_cubes.proofs.OneSign.{offset_bits}
use Rattle.cube_cells.specs.declared.cubes.SignedCube.{SignedCube}
use Rattle.cube_cells.specs.SignedCubes.{IsSignedCube, is_positive_at}
use Rattle.cube_cells.specs.CubePoints.{set_of, point_number}
use Rattle.cube_cells.proofs.SignBits.{same_bits}
use Rattle.lists.specs.Bits.{is_set}
use Rattle.lists.proofs.Powers.{powers_few}
use Rattle.iso_model.proofs.CellCounts.{some_axes}

-- ---- the cube and the rank of a cell

pub number_of_cube : (kind : Kind) (sizes : List ℕ) (d per number rank : ℕ) → length sizes ≡ d → per ≡ cells_per_cube kind d → rank < per
    → cube_at sizes number ≡ cube_of kind sizes (number * per + rank)
number_of_cube kind sizes d per number rank long counted below =
    ap (cube_at sizes) (sym (div-mul-add number per rank below) ∙ ap (λ (n : ℕ). (number * per + rank) / n) (counted ∙ ap (cells_per_cube kind) (sym long)))

pub rank_in_cube : (kind : Kind) (sizes : List ℕ) (d per number rank : ℕ) → length sizes ≡ d → per ≡ cells_per_cube kind d → rank < per
    → rank ≡ rank_of kind sizes (number * per + rank)
rank_in_cube kind sizes d per number rank long counted below =
    sym (mod-mul-add number per rank below) ∙ ap (λ (n : ℕ). (number * per + rank) % n) (counted ∙ ap (cells_per_cube kind) (sym long))

-- ---- edges

-- an edge by the offsets of its ends
pub edge_is : (kind : Kind) (sizes : List ℕ) (d per number rank e : ℕ) (ends : ℕ × ℕ) (place first second from to : List ℕ) → length sizes ≡ d
    → per ≡ cells_per_cube kind d → rank < per → place ≡ cube_at sizes number → ends ≡ edge_ends kind d e →
    first ≡ corner_offset kind d rank ends.0 → second ≡ corner_offset kind d rank ends.1
    → from ≡ point d (λ i. 2 * slice_index place i + slice_index first i) → to ≡ point d (λ i. 2 * slice_index place i + slice_index second i) →
    edge_of_ends from to ≡ edge kind sizes (number * per + rank) e
edge_is kind sizes d per number rank e ends place first second from to long counted below at ends_are first_is second_is from_is to_is =
    let cell : ℕ = number * per + rank in
    let cube : place ≡ cube_of kind sizes cell = at ∙ number_of_cube kind sizes d per number rank long counted below in
    let ranks : rank ≡ rank_of kind sizes cell = rank_in_cube kind sizes d per number rank long counted below in
    let one : from ≡ corner kind sizes cell ends.0 = from_is ∙ corner_is kind sizes d cell ends.0 rank place first long cube ranks first_is in
    let other : to ≡ corner kind sizes cell ends.1 = to_is ∙ corner_is kind sizes d cell ends.1 rank place second long cube ranks second_is in
    ap (λ (p : List ℕ). edge_of_ends p to) one ∙ ap (edge_of_ends (corner kind sizes cell ends.0)) other
    ∙ ap (λ (q : ℕ × ℕ). edge_of_ends (corner kind sizes cell q.0) (corner kind sizes cell q.1)) (ends_are ∙ ap (λ (n : ℕ). edge_ends kind n e) (sym long))

-- ---- labels

pub not_centre : (o : List ℕ) (m : ℕ) → slice_index o 0 % 2 ≡ 0 → (if slice_index o 0 == 1 then 8 else m) ≡ m
not_centre o m even = go (slice_index o 0 == 1) refl
  where
    go : (b : Bool) → (slice_index o 0 == 1) ≡ b → (if b then 8 else m) ≡ m
    go true e = let one : slice_index o 0 ≡ 1 = eqb-true (slice_index o 0) 1 e in absurd (omega (arith, one, even))
    go false e = refl

pub is_centre : (o : List ℕ) (m : ℕ) → slice_index o 0 ≡ 1 → (if slice_index o 0 == 1 then 8 else m) ≡ 8
is_centre o m one = rw one refl

pub sign_of : (signs point d : ℕ) (o offset : List ℕ) (set : Bool) → set ≡ is_set signs point → point ≡ point_number d o → o ≡ offset
    → set ≡ is_set signs (point_number d offset)
sign_of signs point d o offset set is at from = is ∙ ap (is_set signs) (at ∙ ap (point_number d) from)

-- a cell's corner has the sign of the cube's point at its offset
module _ {D : ℕ} (kind : Kind) (g : Grid) (iso : ℤ) (per number rank : ℕ) (cube : SignedCube D) (is : IsDimension (length g.sizes))
    (has : HasDimension kind (length g.sizes)) (counted : per ≡ cells_per_cube kind (length g.sizes)) (below : rank < per)
    (read : IsSignedCube g iso number cube) where
  sign_at : (k : ℕ) → k < corner_count kind (length g.sizes) →
      is_set cube.signs (point_number (length g.sizes) (corner_offset kind (length g.sizes) rank k))
      ≡ is_positive_at g iso
      (point (length g.sizes) (λ i. 2 * slice_index cube.place i + slice_index (corner_offset kind (length g.sizes) rank k) i))
  sign_at k hk =
      let d : ℕ = length g.sizes in
      let o : List ℕ = corner_offset kind d rank k in
      let small : (i : ℕ) → slice_index o i ≤ 2 = λ i. small_offsets kind d is has rank k i (subst (λ (n : ℕ). rank < n) counted below) hk in
      elim (offset_case kind d rank k has) as
      (λ _. is_set cube.signs (point_number d o) ≡ is_positive_at g iso (point d (λ i. 2 * slice_index cube.place i + slice_index o i))) [
        | inl even ↦
            let m : ℕ = set_of (λ i. slice_index o i == 2) d in
            ap (is_set cube.signs) (not_centre o m (even 0 (some_axes d is))) ∙ read.corners m (powers_few (λ i. slice_index o i == 2) d)
            ∙ ap (is_positive_at g iso) (points_same d (λ i. 2 * slice_index cube.place i + 2 * bit_at m i)
            (λ i. 2 * slice_index cube.place i + slice_index o i) (λ i h.
            ap (λ (n : ℕ). 2 * slice_index cube.place i + n) (sym (offset_bits d (λ j. slice_index o j) (λ j l. (even j l, small j)) i h))))
        | inr centre ↦
            ap (is_set cube.signs) (is_centre o (set_of (λ i. slice_index o i == 2) d) (centre.1 0 (omega arith))) ∙ read.centre centre.0
            ∙ ap (is_positive_at g iso) (points_same 3 (λ i. 2 * slice_index cube.place i + 1) (λ i. 2 * slice_index cube.place i + slice_index o i)
            (λ i h. ap (λ (n : ℕ). 2 * slice_index cube.place i + n) (sym (centre.1 i h)))
            ∙ ap (λ (n : ℕ). point n (λ i. 2 * slice_index cube.place i + slice_index o i)) (sym centre.0))
      ]

  corner_sign : (k : ℕ) → k < corner_count kind (length g.sizes)
      → is_set cube.signs (point_number (length g.sizes) (corner_offset kind (length g.sizes) rank k))
      ≡ positive_at (volume kind g iso None) (corner kind g.sizes (number * per + rank) k)
  corner_sign k hk =
      let d : ℕ = length g.sizes in
      let cell : ℕ = number * per + rank in
      sign_at k hk
      ∙ ap (is_positive_at g iso)
      (corner_is kind g.sizes d cell k rank cube.place (corner_offset kind d rank k) refl
      (read.stands ∙ number_of_cube kind g.sizes d per number rank refl counted below)
      (rank_in_cube kind g.sizes d per number rank refl counted below) refl)

  whole_label :
      set_of (λ k. is_set cube.signs (point_number (length g.sizes) (corner_offset kind (length g.sizes) rank k)))
      (corner_count kind (length g.sizes))
      ≡ label_of (volume kind g iso None) (number * per + rank)
  unfolding label_of
  whole_label =
      same_bits (λ k. is_set cube.signs (point_number (length g.sizes) (corner_offset kind (length g.sizes) rank k)))
      (λ k. positive_at (volume kind g iso None) (corner kind g.sizes (number * per + rank) k)) (corner_count kind (length g.sizes)) corner_sign

-- the label that is put together of a read cube is that of the cell
pub label_is : {D : ℕ} (kind : Kind) (g : Grid) (iso : ℤ) (d per number rank label : ℕ) (cube : SignedCube D) → length g.sizes ≡ d → IsDimension d
    → HasDimension kind d → per ≡ cells_per_cube kind d → rank < per → IsSignedCube g iso number cube →
    label ≡ set_of (λ k. is_set cube.signs (point_number d (corner_offset kind d rank k))) (corner_count kind d)
    → label ≡ label_of (volume kind g iso None) (number * per + rank)
label_is kind g iso d per number rank label cube long is has counted below read made =
    made
    ∙ ap (λ (n : ℕ). set_of (λ k. is_set cube.signs (point_number n (corner_offset kind n rank k))) (corner_count kind n)) (sym long)
    ∙ whole_label kind g iso per number rank cube (subst IsDimension (sym long) is) (subst (HasDimension kind) (sym long) has)
    (counted ∙ ap (cells_per_cube kind) (sym long)) below read
