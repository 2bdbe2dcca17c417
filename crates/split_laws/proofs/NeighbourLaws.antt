-- The neighbour across a facet in a grid of any sizes: where it stands, and where there is none.
use Rattle.std.proofs.Common.{◌≡◌, ℕ, suc, ◌+◌, ◌-◌, ◌*◌, ◌<◌, Bool, true, false, List, [], ◌∷◌, length, get_or, refl, ap, sym, ◌∙◌, subst, arith, inl, inr, ℤ}
use Rattle.std.specs.Prelude.{◌≢◌, ◌==◌, ◌/◌, pos, negsuc, ◌+ℤ◌, slice_index, slice_index_or, All}
use Rattle.std.specs.List.{list_all}
use Rattle.std.proofs.lemmas.Bool.{eqb-true}
use Rattle.std.proofs.lemmas.Bool.Decides.{nat_tests}
use Rattle.std.proofs.lemmas.Int.{ints}
use Rattle.std.proofs.lemmas.List.{get_or-map}
use Rattle.std.proofs.lemmas.List.Elements.{All-contains}
use Rattle.iso_model.specs.declared.Kind.{Kind}
use Rattle.iso_model.specs.Cells.{facet_count, facet_corners}
use Rattle.iso_model.specs.Splits.{cells_per_cube, corner_offset, cell_count, cube_of, rank_of, corner}
use Rattle.iso_model.specs.Neighbours.{facet_points, SamePoints, OnOuterBoundary, IsNeighbour, facet_offsets, IsAcross}
use Rattle.split_checks.specs.CubeShifts.{move_to, stays}
use Rattle.split_checks.specs.AcrossTests.{move_across, is_known}
use Rattle.split_laws.specs.Standing.{shift_at, StandsAcross, LeavesGrid}
use Rattle.split_laws.proofs.Coordinates.{cell_fixed, cube_below, cube_in}
use Rattle.split_laws.proofs.Offsets.{OffsetsFit, in_facet}
use Rattle.split_laws.proofs.Placement.{Moved, below, coordinate_of, small_offset, moved_by, stands_there, same_points, places_same}
use Rattle.split_laws.proofs.Across.{less_one, one_move, shift_is, length-move, next_of, FoundAcross, AcrossPass, HaveCorners, In_first, known_cases}
use Rattle.split_laws.proofs.Across.{found_at, places_from, only_across, next_is_across}
use Rattle.lists.specs.Members.{In}
use Rattle.lists.proofs.MemberLaws.{In_from, Contains_from, In-map, from_In-map, all_In, all_from, at_numbers, All-from_In}

-- the shift in an axis is one less than the move
pub shift_is_less_one : (kind : Kind) (sizes : List ℕ) (c f i : ℕ) → i < length sizes
    → shift_at kind sizes c f i ≡ less_one (slice_index (move_across (length sizes) (facet_offsets kind (length sizes) (rank_of kind sizes c) f)) i)
shift_is_less_one kind sizes c f i h =
    ap (λ (s : List ℤ). slice_index_or s i (pos 0)) (shift_is kind (length sizes) (rank_of kind sizes c) f)
    ∙ get_or-map less_one (move_across (length sizes) (facet_offsets kind (length sizes) (rank_of kind sizes c) f)) i 0 (pos 0)
    (omega (arith, h, length-move (length sizes) (facet_offsets kind (length sizes) (rank_of kind sizes c) f)))

stays_from : (ms : List ℕ) → ((i : ℕ) → i < length ms → slice_index ms i ≡ 1) → stays ms ≡ true
stays_from [] h = refl
stays_from (m ∷ ms) h =
    let first : m ≡ 1 = h 0 (omega arith) in
    rw (first, stays_from ms (λ i q. h (suc i) (omega (arith, q)))) refl

-- what a move says of the offsets
zero_move : (a b : Bool) → one_move a b ≡ 0 → a ≡ true
zero_move true b h = refl
zero_move false true h = absurd (omega (arith, h))
zero_move false false h = absurd (omega (arith, h))

two_move : (a b : Bool) → one_move a b ≡ 2 → b ≡ true
two_move true b h = absurd (omega (arith, h))
two_move false true h = refl
two_move false false h = absurd (omega (arith, h))

move_zero : (a b : Bool) → a ≡ true → one_move a b ≡ 0
move_zero a b h = rw h refl

move_two : (a b : Bool) → (a ≡ true → ⊥) → b ≡ true → one_move a b ≡ 2
move_two true b n h = absurd (n refl)
move_two false b n h = rw h refl

module _ (kind : Kind) (sizes : List ℕ) (fit : OffsetsFit kind (length sizes)) (corners : HaveCorners kind (length sizes))
    (passed : AcrossPass kind (length sizes)) where
  module _ (c f : ℕ) (hc : c < cell_count kind sizes) (hf : f < facet_count kind (length sizes)) where
    abbrev r : ℕ
    r = rank_of kind sizes c

    abbrev here : List (List ℕ)
    here = facet_offsets kind (length sizes) (rank_of kind sizes c) f

    abbrev move : List ℕ
    move = move_across (length sizes) (facet_offsets kind (length sizes) (rank_of kind sizes c) f)

    abbrev next : ℕ × ℕ
    next = next_of kind (length sizes) (rank_of kind sizes c) f

    there : FoundAcross kind (length sizes) (rank_of kind sizes c) f
    there = found_at kind (length sizes) fit corners passed (rank_of kind sizes c) f (below kind sizes fit c) hf

    -- ---- a neighbour stands across

    -- its cube is moved across the facet, and its rank and facet are those across
    record Stands (e g : ℕ) : Type 0 where
      moved : Moved kind sizes c e move
      rank : rank_of kind sizes e ≡ next.0
      facet : g ≡ next.1

    stands : (e g : ℕ) → e < cell_count kind sizes → e ≢ c → g < facet_count kind (length sizes)
        → SamePoints (facet_points kind sizes c f) (facet_points kind sizes e g) → Stands e g
    stands e g he differ hg same =
        let k = get_or (facet_corners kind (length sizes) f) 0 0 in
        let k_in : In k (facet_corners kind (length sizes) f) = In_first (facet_corners kind (length sizes) f) 0 (corners f hf) in
        let has =
        (same (corner kind sizes c k)).0
        (Contains_from (facet_points kind sizes c f) (corner kind sizes c k)
        (In-map (corner kind sizes c) (facet_corners kind (length sizes) f) k k_in)) in
        let l =
        from_In-map (corner kind sizes e) (facet_corners kind (length sizes) g) (corner kind sizes c k)
        (In_from (facet_points kind sizes e g) (corner kind sizes c k) has) in
        let hk = (in_facet kind (length sizes) f k k_in).0 in
        let hl = (in_facet kind (length sizes) g l.0 l.1).0 in
        let moved = moved_by kind sizes fit c e k l.0 hk hl l.2 in
        let ms = move_to (corner_offset kind (length sizes) (rank_of kind sizes c) k) (corner_offset kind (length sizes) (rank_of kind sizes e) l.0) in
        let places = places_same kind sizes fit c e ms moved f g same in
        let first_is : slice_index_or here 0 [] ≡ corner_offset kind (length sizes) (rank_of kind sizes c) k =
        get_or-map (corner_offset kind (length sizes) (rank_of kind sizes c)) (facet_corners kind (length sizes) f) 0 0 [] (corners f hf) in
        let tried = all_In
        (λ q.
        is_known r f next move here (rank_of kind sizes e) g (facet_offsets kind (length sizes) (rank_of kind sizes e) g)
        (move_to (slice_index_or here 0 []) q))
        (facet_offsets kind (length sizes) (rank_of kind sizes e) g)
        (there.known (rank_of kind sizes e) g (below kind sizes fit e) hg) (corner_offset kind (length sizes) (rank_of kind sizes e) l.0)
        (In-map (corner_offset kind (length sizes) (rank_of kind sizes e)) (facet_corners kind (length sizes) g) l.0 l.1) in
        let at_move =
        subst
        (λ (x : List ℕ).
        is_known r f next move here (rank_of kind sizes e) g (facet_offsets kind (length sizes) (rank_of kind sizes e) g)
        (move_to x (corner_offset kind (length sizes) (rank_of kind sizes e) l.0))
        ≡ true)
        first_is tried in
        elim (known_cases r f next move here (rank_of kind sizes e) g (facet_offsets kind (length sizes) (rank_of kind sizes e) g) ms at_move places) [
          | inl home ↦ absurd (differ (sym (cell_fixed kind sizes c e hc he (stands_there kind sizes fit c e ms moved home.2) (sym home.0))))
          | inr on ↦ record { moved = subst (λ (m : List ℕ). Moved kind sizes c e m) on.2 moved; rank = on.0; facet = on.1 }
        ]

    -- the move, seen as a shift
    pub shifted_cube : (e : ℕ) → Moved kind sizes c e move → (i : ℕ) → i < length sizes
        → pos (slice_index (cube_of kind sizes e) i) ≡ pos (slice_index (cube_of kind sizes c) i) +ℤ shift_at kind sizes c f i
    shifted_cube e moved i h = omega (arith, ints, moved.at i h, shift_is_less_one kind sizes c f i h)

    pub moved_cube : (e : ℕ)
        → ((i : ℕ) → i < length sizes
        → pos (slice_index (cube_of kind sizes e) i) ≡ pos (slice_index (cube_of kind sizes c) i) +ℤ shift_at kind sizes c f i)
        → Moved kind sizes c e move
    moved_cube e cube = record { long = length-move (length sizes) here; at = λ i h. omega (arith, ints, cube i h, shift_is_less_one kind sizes c f i h) }

    pub neighbour_stands : (e : ℕ) → IsNeighbour kind sizes c f e → StandsAcross kind sizes c f e
    neighbour_stands e nb =
        let s = stands e nb.2.0 nb.0 nb.1 nb.2.1 nb.2.2 in
        record {
          is_cell = nb.0;
          cube = shifted_cube e s.moved;
          facet = (
            next.1,
            subst (λ (x : ℕ). IsAcross kind (length sizes) r f x next.1) (sym s.rank)
                (next_is_across kind (length sizes) fit corners passed r f (below kind sizes fit c) hf),
          );
        }

    pub stands_neighbour : (e : ℕ) → StandsAcross kind sizes c f e → IsNeighbour kind sizes c f e
    stands_neighbour e s =
        let moved = moved_cube e s.cube in
        let only = only_across kind (length sizes) fit corners passed r f (below kind sizes fit c) hf (rank_of kind sizes e) s.facet.0 s.facet.1 in
        let places = places_from kind (length sizes) fit corners passed r f (below kind sizes fit c) hf (rank_of kind sizes e) s.facet.0 s.facet.1 in (
          s.is_cell,
          λ same.
              there.elsewhere (sym only.0 ∙ ap (rank_of kind sizes) same)
              (stays_from move
              (λ i h.
              omega (
                arith,
                moved.at i (omega (arith, h, length-move (length sizes) here)),
                ap (λ (x : ℕ). slice_index (cube_of kind sizes x) i) same,
              ))),
          (s.facet.0, s.facet.1.is_facet, same_points kind sizes fit c e move moved f s.facet.0 places),
        )

    -- ---- the boundary

    abbrev all_at : ℕ → ℕ → Bool
    all_at i x = list_all (λ p. slice_index p i == x) (facet_offsets kind (length sizes) (rank_of kind sizes c) f)

    move_is_at : (i : ℕ) → i < length sizes → slice_index move i ≡ one_move (all_at i 0) (all_at i 2)
    move_is_at i h = at_numbers (λ j. one_move (all_at j 0) (all_at j 2)) (length sizes) i 0 h

    -- all points of the facet have the coordinate of the cube and its offset
    points_at : (i x : ℕ) → i < length sizes → all_at i x ≡ true
        → All (λ p. slice_index p i ≡ 2 * slice_index (cube_of kind sizes c) i + x) (facet_points kind sizes c f)
    points_at i x h flat = All-from_In (λ p. slice_index p i ≡ 2 * slice_index (cube_of kind sizes c) i + x) (facet_points kind sizes c f) (λ p in_points.
        let k = from_In-map (corner kind sizes c) (facet_corners kind (length sizes) f) p in_points in
        let at_k : slice_index (corner_offset kind (length sizes) (rank_of kind sizes c) k.0) i ≡ x =
        eqb-true (slice_index (corner_offset kind (length sizes) (rank_of kind sizes c) k.0) i) x
        (all_In (λ q. slice_index q i == x) here flat (corner_offset kind (length sizes) (rank_of kind sizes c) k.0)
        (In-map (corner_offset kind (length sizes) (rank_of kind sizes c)) (facet_corners kind (length sizes) f) k.0 k.1)) in
        ap (λ (q : List ℕ). slice_index q i) k.2 ∙ coordinate_of kind sizes fit c k.0 i h ∙ ap (λ (y : ℕ). 2 * slice_index (cube_of kind sizes c) i + y) at_k)

    -- from a coordinate that all points have, back to the offsets
    offset_at : (i v k : ℕ) → i < length sizes → In k (facet_corners kind (length sizes) f)
        → All (λ p. slice_index p i ≡ v) (facet_points kind sizes c f)
        → 2 * slice_index (cube_of kind sizes c) i + slice_index (corner_offset kind (length sizes) (rank_of kind sizes c) k) i ≡ v
    offset_at i v k h k_in all =
        let p_in =
        Contains_from (facet_points kind sizes c f) (corner kind sizes c k)
        (In-map (corner kind sizes c) (facet_corners kind (length sizes) f) k k_in) in
        sym (coordinate_of kind sizes fit c k i h) ∙ All-contains (λ p. slice_index p i ≡ v) (facet_points kind sizes c f) (corner kind sizes c k) all p_in

    all_offsets_at : (i x : ℕ)
        → ((k : ℕ) → In k (facet_corners kind (length sizes) f) → slice_index (corner_offset kind (length sizes) (rank_of kind sizes c) k) i ≡ x)
        → all_at i x ≡ true
    all_offsets_at i x each = all_from (λ p. slice_index p i == x) here (λ p i_p.
        let k = from_In-map (corner_offset kind (length sizes) (rank_of kind sizes c)) (facet_corners kind (length sizes) f) p i_p in
        let e : slice_index p i ≡ x = ap (λ (q : List ℕ). slice_index q i) k.2 ∙ each k.0 k.1 in
        grind (arith, nat_tests, e))

    abbrev x_at : ℕ → ℕ
    x_at i = slice_index (cube_of kind sizes c) i

    in_grid : (i : ℕ) → i < length sizes → x_at i + 1 < slice_index sizes i
    in_grid i h = cube_below sizes (c / cells_per_cube kind (length sizes)) (cube_in kind sizes c hc) i h

    low_shift : (i : ℕ) → i < length sizes → all_at i 0 ≡ true → shift_at kind sizes c f i ≡ negsuc 0
    low_shift i h flat =
        let at : slice_index move i ≡ 0 = move_is_at i h ∙ move_zero (all_at i 0) (all_at i 2) flat in
        omega (arith, ints, shift_is_less_one kind sizes c f i h, at)

    high_shift : (i : ℕ) → i < length sizes → (all_at i 0 ≡ true → ⊥) → all_at i 2 ≡ true → shift_at kind sizes c f i ≡ pos 1
    high_shift i h apart flat =
        let at : slice_index move i ≡ 2 = move_is_at i h ∙ move_two (all_at i 0) (all_at i 2) apart flat in
        omega (arith, ints, shift_is_less_one kind sizes c f i h, at)

    low_flat : (i : ℕ) → i < length sizes → shift_at kind sizes c f i ≡ negsuc 0 → all_at i 0 ≡ true
    low_flat i h s =
        let at : slice_index move i ≡ 0 = omega (arith, ints, shift_is_less_one kind sizes c f i h, s) in
        zero_move (all_at i 0) (all_at i 2) (sym (move_is_at i h) ∙ at)

    high_flat : (i : ℕ) → i < length sizes → shift_at kind sizes c f i ≡ pos 1 → all_at i 2 ≡ true
    high_flat i h s =
        let at : slice_index move i ≡ 2 = omega (arith, ints, shift_is_less_one kind sizes c f i h, s) in
        two_move (all_at i 0) (all_at i 2) (sym (move_is_at i h) ∙ at)

    first_in : In (get_or (facet_corners kind (length sizes) f) 0 0) (facet_corners kind (length sizes) f)
    first_in = In_first (facet_corners kind (length sizes) f) 0 (corners f hf)

    pub boundary_leaves : OnOuterBoundary sizes (facet_points kind sizes c f) → LeavesGrid kind sizes c f
    boundary_leaves (i, h, inl low) =
        let each :
        (k : ℕ) → In k (facet_corners kind (length sizes) f) → slice_index (corner_offset kind (length sizes) (rank_of kind sizes c) k) i ≡ 0 =
        λ k k_in. omega (arith, offset_at i 0 k h k_in low) in
        (i, h, inl (low_shift i h (all_offsets_at i 0 each), omega (arith, offset_at i 0 (get_or (facet_corners kind (length sizes) f) 0 0) h first_in low)))
    boundary_leaves (i, h, inr high) =
        let k0 = get_or (facet_corners kind (length sizes) f) 0 0 in
        let each : (k : ℕ) → In k (facet_corners kind (length sizes) f) → slice_index (corner_offset kind (length sizes) (rank_of kind sizes c) k) i ≡ 2 =
        λ k k_in.
        omega (
          arith,
          offset_at i (2 * (slice_index sizes i - 1)) k h k_in high,
          in_grid i h,
          small_offset kind sizes fit c k i (in_facet kind (length sizes) f k k_in).0,
        )
        in
        let two : slice_index (corner_offset kind (length sizes) (rank_of kind sizes c) k0) i ≡ 2 = each k0 first_in in (
          i,
          h,
          inr (
            high_shift i h (λ flat. not_both flat two) (all_offsets_at i 2 each),
            omega (arith, offset_at i (2 * (slice_index sizes i - 1)) k0 h first_in high, in_grid i h, two),
          ),
        )
      where
        not_both : all_at i 0 ≡ true
            → slice_index (corner_offset kind (length sizes) (rank_of kind sizes c) (get_or (facet_corners kind (length sizes) f) 0 0)) i ≡ 2 → ⊥
        not_both flat two =
            let zero_at : slice_index (corner_offset kind (length sizes) (rank_of kind sizes c) (get_or (facet_corners kind (length sizes) f) 0 0)) i ≡ 0 =
            eqb-true (slice_index (corner_offset kind (length sizes) (rank_of kind sizes c) (get_or (facet_corners kind (length sizes) f) 0 0)) i) 0
            (all_In (λ q. slice_index q i == 0) (facet_offsets kind (length sizes) (rank_of kind sizes c) f) flat
            (corner_offset kind (length sizes) (rank_of kind sizes c) (get_or (facet_corners kind (length sizes) f) 0 0))
            (In-map (corner_offset kind (length sizes) (rank_of kind sizes c)) (facet_corners kind (length sizes) f)
            (get_or (facet_corners kind (length sizes) f) 0 0) first_in))
            in
            omega (arith, zero_at, two)

    pub leaves_boundary : LeavesGrid kind sizes c f → OnOuterBoundary sizes (facet_points kind sizes c f)
    leaves_boundary (i, h, inl low) = (i, h, inl (at_value i 0 (2 * x_at i + 0) (omega (arith, low.1)) (points_at i 0 h (low_flat i h low.0))))
      where
        at_value : (j v w : ℕ) → w ≡ v → All (λ p. slice_index p j ≡ w) (facet_points kind sizes c f)
            → All (λ p. slice_index p j ≡ v) (facet_points kind sizes c f)
        at_value j v w e all = subst (λ (y : ℕ). All (λ p. slice_index p j ≡ y) (facet_points kind sizes c f)) e all
    leaves_boundary (i, h, inr high) =
        (i, h, inr (at_value i (2 * (slice_index sizes i - 1)) (2 * x_at i + 2) (omega (arith, high.1)) (points_at i 2 h (high_flat i h high.0))))
      where
        at_value : (j v w : ℕ) → w ≡ v → All (λ p. slice_index p j ≡ w) (facet_points kind sizes c f)
            → All (λ p. slice_index p j ≡ v) (facet_points kind sizes c f)
        at_value j v w e all = subst (λ (y : ℕ). All (λ p. slice_index p j ≡ y) (facet_points kind sizes c f)) e all
