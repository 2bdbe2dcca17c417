-- On each side of a cube, some facet of one of its cells lies in the side and has all corners that a given cell has there.
use Rattle.std.proofs.Common.{◌≡◌, ℕ, ◌<◌, Bool, true, not, ◌&&◌, ◌||◌, List, refl, ap, sym, ◌∙◌, subst}
use Rattle.std.specs.Prelude.{◌==◌, map, flat_map, filter, slice_index}
use Rattle.std.specs.List.{list_all, list_any}
use Rattle.std.proofs.lemmas.Bool.{eqb-true}
use Rattle.iso_model.specs.declared.Kind.{Kind}
use Rattle.lists.specs.Orders.{numbers, same_list}
use Rattle.iso_model.specs.Cells.{HasDimension, corner_count, facet_count}
use Rattle.iso_model.specs.Splits.{cells_per_cube, corner_offset}
use Rattle.iso_model.specs.Neighbours.{facet_offsets}
use Rattle.iso_model.specs.Boundary.{has_point}
use Rattle.iso_model.specs.Dimensions.{IsDimension, of_each_cell}
use Rattle.split_checks.specs.CubeShifts.{offsets, facet_of}
use Rattle.split_checks.specs.ShareTests.{all_offsets}
use Rattle.split_laws.proofs.Placement.{facet_of_offsets}
use Rattle.lists.specs.Members.{In}
use Rattle.lists.proofs.Tests.{not_or, and_left, and_right, of_equal}
use Rattle.lists.proofs.MemberLaws.{from_any, all_In, In-numbers, from_In-numbers, all_below, from_filter, In-map, from_In-map, from_In-flat_map, lists_equal}

-- ---- the test

-- all offsets are x in axis i
abbrev lie_at : ℕ → ℕ → List (List ℕ) → Bool
lie_at i x side = list_all (λ p. slice_index p i == x) side

-- the offsets of the facets of a cell
abbrev facets_of : Kind → ℕ → List (List ℕ) → List (List (List ℕ))
facets_of kind d cell = map (facet_of kind d cell) (numbers (facet_count kind d))

-- the facets of cells that lie at x in axis i
abbrev sides_at : Kind → ℕ → List (List (List ℕ)) → ℕ → ℕ → List (List (List ℕ))
sides_at kind d all i x = filter (lie_at i x) (flat_map (facets_of kind d) all)

-- one of these facets has all offsets of the cell that are x in axis i
abbrev is_covered : ℕ → ℕ → List (List (List ℕ)) → List (List ℕ) → Bool
is_covered i x sides cell = list_any (λ side. list_all (λ p. not (slice_index p i == x) || has_point side p) cell) sides

abbrev covered_at : Kind → ℕ → List (List (List ℕ)) → ℕ → ℕ → Bool
covered_at kind d all i x = list_all (is_covered i x (sides_at kind d all i x)) all

abbrev all_covered : Kind → ℕ → List (List (List ℕ)) → Bool
all_covered kind d all = list_all (λ i. covered_at kind d all i 0 && covered_at kind d all i 2) (numbers d)

abbrev SidesPass : Kind → ℕ → Type 0
SidesPass kind d = all_covered kind d (all_offsets kind d) ≡ true

sides_pass : (kind : Kind) (d : ℕ) → IsDimension d → HasDimension kind d → SidesPass kind d
sides_pass = of_each_cell SidesPass refl refl refl refl refl refl refl

-- ---- what it says

-- facet f of the cell of rank next lies at x in axis i, and has all corners that the cell of this rank has there
pub record CoversSide (kind : Kind) (d rank i x next f : ℕ) : Type 0 where
  pub is_rank : next < cells_per_cube kind d
  pub is_facet : f < facet_count kind d
  pub lies : (p : List ℕ) → In p (facet_offsets kind d next f) → slice_index p i ≡ x
  pub has : (k : ℕ) → k < corner_count kind d → slice_index (corner_offset kind d rank k) i ≡ x → In (corner_offset kind d rank k) (facet_offsets kind d next f)

module _ (kind : Kind) (d : ℕ) (is : IsDimension d) (fits : HasDimension kind d) where
  abbrev all : List (List (List ℕ))
  all = all_offsets kind d

  -- a facet that lies there and has all offsets there
  covers : (rank i x next f : ℕ) (side : List (List ℕ)) → next < cells_per_cube kind d → f < facet_count kind d → side ≡ facet_offsets kind d next f
      → lie_at i x side ≡ true
      → list_all (λ p. not (slice_index p i == x) || has_point side p) (offsets kind d rank) ≡ true → CoversSide kind d rank i x next f
  covers rank i x next f side hn hf is_side lie cover = record {
    is_rank = hn;
    is_facet = hf;
    lies = λ p j. eqb-true (slice_index p i) x (all_In (λ q. slice_index q i == x) side lie p (subst (λ (s : List (List ℕ)). In p s) (sym is_side) j));
    has = λ k hk at.
        let tested =
        all_In (λ q. not (slice_index q i == x) || has_point side q) (offsets kind d rank) cover (corner_offset kind d rank k)
        (In-map (corner_offset kind d rank) (numbers (corner_count kind d)) k (In-numbers (corner_count kind d) k hk)) in
        subst (λ (s : List (List ℕ)). In (corner_offset kind d rank k) s) is_side
        (member (corner_offset kind d rank k) side
        (not_or (slice_index (corner_offset kind d rank k) i == x) (has_point side (corner_offset kind d rank k)) tested
        (of_equal (slice_index (corner_offset kind d rank k) i) x at)));
  }
    where
      member : (p : List ℕ) (points : List (List ℕ)) → has_point points p ≡ true → In p points
      member p points h =
          let found = from_any (same_list p) points h in
          subst (λ (q : List ℕ). In q points) (sym (lists_equal p found.0 found.2)) found.1

  -- a facet among those of all cells
  is_of : (side : List (List ℕ)) → In side (flat_map (facets_of kind d) (all_offsets kind d))
      → (next : ℕ) × (f : ℕ) × (next < cells_per_cube kind d) × (f < facet_count kind d) × (side ≡ facet_offsets kind d next f)
  is_of side i =
      let cell = from_In-flat_map (facets_of kind d) all side i in
      let next = from_In-map (offsets kind d) (numbers (cells_per_cube kind d)) cell.0 cell.1 in
      let facet = from_In-map (facet_of kind d cell.0) (numbers (facet_count kind d)) side cell.2 in (
        next.0,
        facet.0,
        from_In-numbers (cells_per_cube kind d) next.0 next.1,
        from_In-numbers (facet_count kind d) facet.0 facet.1,
        facet.2 ∙ ap (λ (c : List (List ℕ)). facet_of kind d c facet.0) next.2 ∙ facet_of_offsets kind d next.0 facet.0,
      )

  at_side : (rank i x : ℕ) → rank < cells_per_cube kind d → covered_at kind d (all_offsets kind d) i x ≡ true
      → (next : ℕ) × (f : ℕ) × CoversSide kind d rank i x next f
  at_side rank i x hr passes =
      let cell_in = In-map (offsets kind d) (numbers (cells_per_cube kind d)) rank (In-numbers (cells_per_cube kind d) rank hr) in
      let covered = all_In (is_covered i x (sides_at kind d all i x)) all passes (offsets kind d rank) cell_in in
      let side = from_any (λ s. list_all (λ p. not (slice_index p i == x) || has_point s p) (offsets kind d rank)) (sides_at kind d all i x) covered in
      let kept = from_filter (lie_at i x) (flat_map (facets_of kind d) all) side.0 side.1 in
      let of = is_of side.0 kept.0 in
      (of.0, of.1, covers rank i x of.0 of.1 side.0 of.2 of.3 of.4 kept.1 side.2)

  -- on the lower side of the cube in an axis, and on the upper one
  pub low_side : (rank i : ℕ) → rank < cells_per_cube kind d → i < d → (next : ℕ) × (f : ℕ) × CoversSide kind d rank i 0 next f
  low_side rank i hr hi =
      at_side rank i 0 hr
      (and_left (covered_at kind d all i 0) (covered_at kind d all i 2)
      (all_below d (λ j. covered_at kind d all j 0 && covered_at kind d all j 2) (sides_pass kind d is fits) i hi))

  pub high_side : (rank i : ℕ) → rank < cells_per_cube kind d → i < d → (next : ℕ) × (f : ℕ) × CoversSide kind d rank i 2 next f
  high_side rank i hr hi =
      at_side rank i 2 hr
      (and_right (covered_at kind d all i 0) (covered_at kind d all i 2)
      (all_below d (λ j. covered_at kind d all j 0 && covered_at kind d all j 2) (sides_pass kind d is fits) i hi))
