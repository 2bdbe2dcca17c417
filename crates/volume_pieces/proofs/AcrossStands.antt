-- The facet that meets a facet of a kept cell: it stands in the cube shifted across, it is the only one, and it leads back.
use Rattle.std.proofs.Common.{◌≡◌, ℕ, ◌<◌, true, List, [], length, get_or, sym, ◌∙◌, subst, arith, inl, inr, Some}
use Rattle.std.specs.Prelude.{◌≢◌, slice_index_or, ◌/◌}
use Rattle.std.proofs.lemmas.List.{get_or-map}
use Rattle.iso_model.specs.declared.Kind.{Kind}
use Rattle.iso_model.specs.Cells.{facet_count, facet_corners}
use Rattle.iso_model.specs.Splits.{cells_per_cube, corner_offset, cell_count, cube_of, rank_of, corner}
use Rattle.iso_model.specs.Neighbours.{facet_points, SamePoints, facet_offsets, IsAcross}
use Rattle.iso_model.specs.Values.{Volume, cells, IsRegularVolume}
use Rattle.iso_model.proofs.DimensionLaws.{dimension_cases}
use Rattle.iso_model.proofs.FaceLaws.{cells_below}
use Rattle.iso_model.specs.Dimensions.{IsDimension}
use Rattle.split_checks.specs.CubeShifts.{move_to}
use Rattle.split_checks.specs.AcrossTests.{move_across, is_known}
use Rattle.split_laws.specs.Standing.{StandsAcross}
use Rattle.split_laws.proofs.Coordinates.{cell_fixed, lists_same, length-cube_at}
use Rattle.split_laws.proofs.Offsets.{OffsetsFit, in_facet}
use Rattle.split_laws.proofs.Placement.{Moved, below, moved_by, stands_there, places_same}
use Rattle.split_laws.proofs.Across.{next_of, FoundAcross, AcrossPass, HaveCorners, In_first, known_cases, found_at, next_is_across}
use Rattle.split_laws.proofs.NeighbourLaws.{shifted_cube}
use Rattle.split_laws.proofs.Passed.{across_pass, fits, have_corners}
use Rattle.volume_pieces.proofs.PiecesOf.{across_of}
use Rattle.volume_pieces.proofs.PiecesAcross.{FacetsMeet, across_meets, meets_across, meets_back}
use Rattle.lists.specs.Members.{In}
use Rattle.lists.proofs.MemberLaws.{In_from, Contains_from, In-map, from_In-map, all_In}

-- a regular volume has two, three or four axes
pub volume_dimension : (v : Volume) → IsRegularVolume v → IsDimension (length v.sizes)
volume_dimension v regular = dimension_cases v.kind (length v.sizes) regular.fits

module _ (kind : Kind) (sizes : List ℕ) (fit : OffsetsFit kind (length sizes)) (corners : HaveCorners kind (length sizes))
    (passed : AcrossPass kind (length sizes)) where
  -- the cube of a cell is moved across the facet of another one, and its rank and its facet are those across
  pub record Stands (c f e g : ℕ) : Type 0 where
    pub moved : Moved kind sizes c e (move_across (length sizes) (facet_offsets kind (length sizes) (rank_of kind sizes c) f))
    pub rank : rank_of kind sizes e ≡ (next_of kind (length sizes) (rank_of kind sizes c) f).0
    pub facet : g ≡ (next_of kind (length sizes) (rank_of kind sizes c) f).1

  module _ (c f : ℕ) (hc : c < cell_count kind sizes) (hf : f < facet_count kind (length sizes)) where
    abbrev r : ℕ
    r = rank_of kind sizes c

    abbrev here : List (List ℕ)
    here = facet_offsets kind (length sizes) (rank_of kind sizes c) f

    abbrev move : List ℕ
    move = move_across (length sizes) (facet_offsets kind (length sizes) (rank_of kind sizes c) f)

    abbrev next : ℕ × ℕ
    next = next_of kind (length sizes) (rank_of kind sizes c) f

    there : FoundAcross kind (length sizes) (rank_of kind sizes c) f
    there = found_at kind (length sizes) fit corners passed (rank_of kind sizes c) f (below kind sizes fit c) hf

    -- a facet of another cell with the same points; after the lemma of this name on neighbours
    pub stands_from : (e g : ℕ) → e < cell_count kind sizes → e ≢ c → g < facet_count kind (length sizes)
        → SamePoints (facet_points kind sizes c f) (facet_points kind sizes e g) → Stands c f e g
    stands_from e g he differ hg same =
        let k = get_or (facet_corners kind (length sizes) f) 0 0 in
        let k_in : In k (facet_corners kind (length sizes) f) = In_first (facet_corners kind (length sizes) f) 0 (corners f hf) in
        let has =
        (same (corner kind sizes c k)).0
        (Contains_from (facet_points kind sizes c f) (corner kind sizes c k)
        (In-map (corner kind sizes c) (facet_corners kind (length sizes) f) k k_in)) in
        let l =
        from_In-map (corner kind sizes e) (facet_corners kind (length sizes) g) (corner kind sizes c k)
        (In_from (facet_points kind sizes e g) (corner kind sizes c k) has) in
        let hk = (in_facet kind (length sizes) f k k_in).0 in
        let hl = (in_facet kind (length sizes) g l.0 l.1).0 in
        let moved = moved_by kind sizes fit c e k l.0 hk hl l.2 in
        let ms = move_to (corner_offset kind (length sizes) (rank_of kind sizes c) k) (corner_offset kind (length sizes) (rank_of kind sizes e) l.0) in
        let places = places_same kind sizes fit c e ms moved f g same in
        let first_is : slice_index_or here 0 [] ≡ corner_offset kind (length sizes) (rank_of kind sizes c) k =
        get_or-map (corner_offset kind (length sizes) (rank_of kind sizes c)) (facet_corners kind (length sizes) f) 0 0 [] (corners f hf) in
        let tried = all_In
        (λ q.
        is_known r f next move here (rank_of kind sizes e) g (facet_offsets kind (length sizes) (rank_of kind sizes e) g)
        (move_to (slice_index_or here 0 []) q))
        (facet_offsets kind (length sizes) (rank_of kind sizes e) g)
        (there.known (rank_of kind sizes e) g (below kind sizes fit e) hg) (corner_offset kind (length sizes) (rank_of kind sizes e) l.0)
        (In-map (corner_offset kind (length sizes) (rank_of kind sizes e)) (facet_corners kind (length sizes) g) l.0 l.1) in
        let at_move =
        subst
        (λ (x : List ℕ).
        is_known r f next move here (rank_of kind sizes e) g (facet_offsets kind (length sizes) (rank_of kind sizes e) g)
        (move_to x (corner_offset kind (length sizes) (rank_of kind sizes e) l.0))
        ≡ true)
        first_is tried in
        elim (known_cases r f next move here (rank_of kind sizes e) g (facet_offsets kind (length sizes) (rank_of kind sizes e) g) ms at_move places) [
          | inl home ↦ absurd (differ (sym (cell_fixed kind sizes c e hc he (stands_there kind sizes fit c e ms moved home.2) (sym home.0))))
          | inr on ↦ record { moved = subst (λ (m : List ℕ). Moved kind sizes c e m) on.2 moved; rank = on.0; facet = on.1 }
        ]

    -- two facets that stand across are one
    pub one_stands : (e g e' g' : ℕ) → e < cell_count kind sizes → e' < cell_count kind sizes → Stands c f e g → Stands c f e' g' → (e ≡ e') × (g ≡ g')
    one_stands e g e' g' he he' first second =
        let same_cube : cube_of kind sizes e ≡ cube_of kind sizes e' =
        lists_same (cube_of kind sizes e) (cube_of kind sizes e')
        (length-cube_at sizes (e / cells_per_cube kind (length sizes)) ∙ sym (length-cube_at sizes (e' / cells_per_cube kind (length sizes)))) (λ i h.
        let in_axes : i < length sizes = omega (arith, h, length-cube_at sizes (e / cells_per_cube kind (length sizes))) in
        omega (arith, first.moved.at i in_axes, second.moved.at i in_axes)) in
        (cell_fixed kind sizes e e' he he' same_cube (first.rank ∙ sym second.rank), first.facet ∙ sym second.facet)

    -- it lies across, by ranks
    pub across_by_ranks : (e g : ℕ) → Stands c f e g → IsAcross kind (length sizes) (rank_of kind sizes c) f (rank_of kind sizes e) g
    across_by_ranks e g s =
        subst (λ (y : ℕ). IsAcross kind (length sizes) r f (rank_of kind sizes e) y) (sym s.facet)
        (subst (λ (x : ℕ). IsAcross kind (length sizes) r f x next.1) (sym s.rank)
        (next_is_across kind (length sizes) fit corners passed r f (below kind sizes fit c) hf))

    pub in_shifted_cube : (e g : ℕ) → e < cell_count kind sizes → Stands c f e g → StandsAcross kind sizes c f e
    in_shifted_cube e g he s = record {
      is_cell = he;
      cube = shifted_cube kind sizes fit corners passed c f hc hf e s.moved;
      facet = (g, across_by_ranks e g s);
    }

module _ (v : Volume) (regular : IsRegularVolume v) where
  abbrev pub fit_of : OffsetsFit v.kind (length v.sizes)
  fit_of = fits v.kind (length v.sizes) (volume_dimension v regular) regular.fits

  abbrev pub corners_of : HaveCorners v.kind (length v.sizes)
  corners_of = have_corners v.kind (length v.sizes) (volume_dimension v regular) regular.fits

  abbrev pub passed_of : AcrossPass v.kind (length v.sizes)
  passed_of = across_pass v.kind (length v.sizes) (volume_dimension v regular) regular.fits

  -- kept cells are cells of the grid
  pub below_cells : (c : ℕ) → In c (cells v) → c < cell_count v.kind v.sizes
  below_cells c i = cells_below v c (Contains_from (cells v) c i)

  module _ (c f : ℕ) (is_cell : In c (cells v)) (is_facet : f < facet_count v.kind (length v.sizes)) where
    -- what meets a facet stands across it
    pub meets_stands : (d g : ℕ) → FacetsMeet v c f d g → Stands v.kind v.sizes fit_of corners_of passed_of c f d g
    meets_stands d g m =
        stands_from v.kind v.sizes fit_of corners_of passed_of c f (below_cells c is_cell) is_facet d g (below_cells d m.is_cell)
        (λ e. m.differs (sym e)) m.is_facet m.same

    -- only one facet meets a facet
    pub one_meets : (d g d' g' : ℕ) → FacetsMeet v c f d g → FacetsMeet v c f d' g' → (d ≡ d') × (g ≡ g')
    one_meets d g d' g' m m' =
        one_stands v.kind v.sizes fit_of corners_of passed_of c f (below_cells c is_cell) is_facet d g d' g' (below_cells d m.is_cell)
        (below_cells d' m'.is_cell) (meets_stands d g m) (meets_stands d' g' m')

    -- what meets a facet is found across it
    pub meets_is_across : (d g : ℕ) → FacetsMeet v c f d g → across_of v c f ≡ Some (d, g)
    meets_is_across d g m = meets_across v c f d g m (λ e h m'. one_meets e h d g m' m)

    -- what meets a facet lies across by ranks
    pub meets_by_ranks : (d g : ℕ) → FacetsMeet v c f d g → IsAcross v.kind (length v.sizes) (rank_of v.kind v.sizes c) f (rank_of v.kind v.sizes d) g
    meets_by_ranks d g m = across_by_ranks v.kind v.sizes fit_of corners_of passed_of c f (below_cells c is_cell) is_facet d g (meets_stands d g m)

    -- the cell across stands in the shifted cube, and its facet lies across by ranks
    pub stands : (d g : ℕ) → across_of v c f ≡ Some (d, g)
        → IsAcross v.kind (length v.sizes) (rank_of v.kind v.sizes c) f (rank_of v.kind v.sizes d) g × StandsAcross v.kind v.sizes c f d
    stands d g e =
        let m = across_meets v c f d g e in (
          meets_by_ranks d g m,
          in_shifted_cube v.kind v.sizes fit_of corners_of passed_of c f (below_cells c is_cell) is_facet d g (below_cells d m.is_cell)
              (meets_stands d g m),
        )

  -- the cell across leads back
  pub leads_back : (c f d g : ℕ) → In c (cells v) → f < facet_count v.kind (length v.sizes) → across_of v c f ≡ Some (d, g)
      → In d (cells v) × (c ≢ d) × (g < facet_count v.kind (length v.sizes)) × (across_of v d g ≡ Some (c, f))
  leads_back c f d g is_cell is_facet e =
      let m = across_meets v c f d g e in
      (m.is_cell, m.differs, m.is_facet, meets_is_across d g m.is_cell m.is_facet c f (meets_back v c f d g is_cell is_facet m))
