-- The neighbour across a facet, from the cube that the shift leads to.
use Rattle.std.proofs.Common.{◌≡◌, ℕ, ◌+◌, ◌*◌, ◌<◌, Bool, true, false, List, length, Some, refl, ap, sym, ◌∙◌, subst, arith, inl, inr, ℤ}
use Rattle.std.specs.Prelude.{◌↔◌, ◌==◌, ◌/◌, ◌%◌, pos, negsuc, ◌+ℤ◌, slice_index, slice_index_or, if◌then◌else◌}
use Rattle.std.specs.List.{list_all}
use Rattle.std.proofs.lemmas.Int.{ints}
use Rattle.std.proofs.lemmas.Nat.{div-mul-add, mod-mul-add, mul-add-lt}
use Rattle.std.proofs.Math.Nat.{mul_comm}
use Rattle.iso_model.specs.declared.Kind.{Kind}
use Rattle.iso_model.specs.Cells.{facet_count}
use Rattle.iso_model.specs.Splits.{cells_per_cube, cell_count, cube_count, cube_at, cube_of, rank_of}
use Rattle.iso_model.specs.Neighbours.{facet_points, facet_offsets, shift_across, IsAcross, IsNeighbour, OnOuterBoundary}
use Rattle.split_laws.specs.Standing.{shift_at, StandsAcross, LeavesGrid}
use Rattle.split_laws.proofs.Coordinates.{lists_same, length-cube_at, cell_fixed, cube_below, cube_in}
use Rattle.grid_split.specs.Steps.{IsStep, LeavesCubes, IsShiftedCube}
use Rattle.lists.proofs.MemberLaws.{at_numbers}
use Rattle.std.proofs.lemmas.Option.{same_Some}

-- the shift across a facet is a step in each axis
one_step : (a b : Bool) → IsStep (if a then negsuc 0 else if b then pos 1 else pos 0)
one_step true b = inl refl
one_step false true = inr (inr refl)
one_step false false = inr (inl refl)

pub steps_across : (kind : Kind) (d rank f i : ℕ) → i < d → IsStep (slice_index_or (shift_across kind d rank f) i (pos 0))
steps_across kind d rank f i h =
    subst IsStep (sym (at_numbers (λ j. if a j then negsuc 0 else if b j then pos 1 else pos 0) d i (pos 0) h)) (one_step (a i) (b i))
  where
    a : ℕ → Bool
    a j = list_all (λ p. slice_index p j == 0) (facet_offsets kind d rank f)

    b : ℕ → Bool
    b j = list_all (λ p. slice_index p j == 2) (facet_offsets kind d rank f)

module _ (kind : Kind) (sizes : List ℕ) (d cell f rank o g : ℕ) (cube : List ℕ) (shift : List ℤ) (long : length sizes ≡ d)
    (hc : cell < cell_count kind sizes) (hf : f < facet_count kind d)
    (cube_is : cube ≡ cube_of kind sizes cell) (rank_is : rank ≡ rank_of kind sizes cell) (shift_is : shift ≡ shift_across kind d rank f)
    (across : IsAcross kind d rank f o g)
    (stands : (other : ℕ) → IsNeighbour kind sizes cell f other ↔ StandsAcross kind sizes cell f other)
    (leaves : OnOuterBoundary sizes (facet_points kind sizes cell f) ↔ LeavesGrid kind sizes cell f)
    (one : (p h : ℕ) → IsAcross kind d rank f p h → o ≡ p) where
  -- the shift of the cell's cube, in the words of the grid
  shift_here : (i : ℕ) → slice_index_or shift i (pos 0) ≡ shift_at kind sizes cell f i
  shift_here i =
      ap (λ (s : List ℤ). slice_index_or s i (pos 0))
      (shift_is ∙ ap (λ (n : ℕ). shift_across kind n rank f) (sym long) ∙ ap (λ (r : ℕ). shift_across kind (length sizes) r f) rank_is)

  cube_here : (i : ℕ) → slice_index cube i ≡ slice_index (cube_of kind sizes cell) i
  cube_here i = ap (λ (x : List ℕ). slice_index x i) cube_is

  per_here : cells_per_cube kind d ≡ cells_per_cube kind (length sizes)
  per_here = ap (cells_per_cube kind) (sym long)

  -- the rank and the facet across, of another cell whose rank is known
  known_rank : (other : ℕ) → StandsAcross kind sizes cell f other → o ≡ rank_of kind sizes other
  known_rank other s =
      one (rank_of kind sizes other) s.facet.0
      (subst (λ (r : ℕ). IsAcross kind d r f (rank_of kind sizes other) s.facet.0) (sym rank_is)
      (subst (λ (n : ℕ). IsAcross kind n (rank_of kind sizes cell) f (rank_of kind sizes other) s.facet.0) long s.facet.1))

  module _ (number : ℕ) (at : IsShiftedCube d sizes cube shift number) where
    abbrev found : ℕ
    found = number * cells_per_cube kind d + o

    quotient : found / cells_per_cube kind (length sizes) ≡ number
    quotient = ap (λ (n : ℕ). found / n) (sym per_here) ∙ div-mul-add number (cells_per_cube kind d) o across.is_rank

    remainder : found % cells_per_cube kind (length sizes) ≡ o
    remainder = ap (λ (n : ℕ). found % n) (sym per_here) ∙ mod-mul-add number (cells_per_cube kind d) o across.is_rank

    is_cell : found < cell_count kind sizes
    is_cell =
        subst (λ (n : ℕ). found < cube_count sizes * n) per_here
        (subst (λ (n : ℕ). found < n) (mul_comm (cells_per_cube kind d) (cube_count sizes))
        (mul-add-lt number (cells_per_cube kind d) o (cube_count sizes) at.below across.is_rank))

    cube_found : cube_of kind sizes found ≡ cube_at sizes number
    cube_found = ap (cube_at sizes) quotient

    found_stands : StandsAcross kind sizes cell f found
    found_stands = record {
      is_cell = is_cell;
      cube =
          λ i h.
          ap (λ (x : List ℕ). pos (slice_index x i)) cube_found ∙ at.places i (omega (arith, h, long))
          ∙ ap (λ (x : ℕ). pos x +ℤ slice_index_or shift i (pos 0)) (cube_here i)
          ∙ ap (λ (s : ℤ). pos (slice_index (cube_of kind sizes cell) i) +ℤ s) (shift_here i);
      facet = (
        g,
        subst (λ (q : ℕ). IsAcross kind (length sizes) (rank_of kind sizes cell) f q g) (sym remainder)
            (subst (λ (r : ℕ). IsAcross kind (length sizes) r f o g) rank_is (subst (λ (n : ℕ). IsAcross kind n rank f o g) (sym long) across)),
      );
    }

    same_as_found : (other : ℕ) → StandsAcross kind sizes cell f other → found ≡ other
    same_as_found other s =
        cell_fixed kind sizes found other is_cell s.is_cell
        (lists_same (cube_of kind sizes found) (cube_of kind sizes other)
        (length-cube_at sizes (found / cells_per_cube kind (length sizes))
        ∙ sym (length-cube_at sizes (other / cells_per_cube kind (length sizes)))) (λ i h.
        let in_axes : i < length sizes = omega (arith, h, length-cube_at sizes (found / cells_per_cube kind (length sizes))) in
        omega (arith, ints, found_stands.cube i in_axes, s.cube i in_axes)))
        (remainder ∙ known_rank other s)

    pub some_neighbour : (other : ℕ) → IsNeighbour kind sizes cell f other ↔ (Some found ≡ Some other)
    some_neighbour other = (
      λ nb. ap (λ (n : ℕ). Some n) (same_as_found other ((stands other).0 nb)),
      λ e. subst (IsNeighbour kind sizes cell f) (same_Some found other e) ((stands found).1 found_stands),
    )

    inside_at : (i : ℕ) → i < length sizes → slice_index (cube_at sizes number) i + 1 < slice_index sizes i
    inside_at i h = cube_below sizes number at.below i h

    pub some_inside : OnOuterBoundary sizes (facet_points kind sizes cell f) → ⊥
    some_inside on = go (leaves.0 on)
      where
        go : LeavesGrid kind sizes cell f → ⊥
        go (i, h, inl low) =
            let place = at.places i (omega (arith, h, long)) in
            omega (arith, ints, place, shift_here i, cube_here i, low.0, low.1)
        go (i, h, inr high) =
            let place = at.places i (omega (arith, h, long)) in
            omega (arith, ints, place, shift_here i, cube_here i, high.0, high.1, inside_at i h)

  module _ (out : LeavesCubes d sizes cube shift) where
    leaving : LeavesGrid kind sizes cell f
    leaving = go out
      where
        go : LeavesCubes d sizes cube shift → LeavesGrid kind sizes cell f
        go (i, h, inl low) = (i, omega (arith, h, long), inl (sym (shift_here i) ∙ low.0, sym (cube_here i) ∙ low.1))
        go (i, h, inr high) = (i, omega (arith, h, long), inr (sym (shift_here i) ∙ high.0, omega (arith, cube_here i, high.1)))

    pub none_outside : OnOuterBoundary sizes (facet_points kind sizes cell f)
    none_outside = leaves.1 leaving

    pub none_neighbour : (other : ℕ) → IsNeighbour kind sizes cell f other → ⊥
    none_neighbour other nb = go leaving ((stands other).0 nb)
      where
        go : LeavesGrid kind sizes cell f → StandsAcross kind sizes cell f other → ⊥
        go (i, h, inl low) s = let place = s.cube i h in omega (arith, ints, place, low.0, low.1)
        go (i, h, inr high) s =
            let place = s.cube i h in
            omega (arith, ints, place, high.0, high.1, cube_below sizes (other / cells_per_cube kind (length sizes)) (cube_in kind sizes other s.is_cell) i h)
