-- The tests of the splits, passed by each kind in each dimension.
use Rattle.std.proofs.Common.{◌≡◌, ℕ, ◌+◌, ◌<◌, ◌≤◌, Bool, true, length, refl, arith, inl, inr}
use Rattle.std.specs.Prelude.{map, nat_lt}
use Rattle.std.specs.List.{range_with_len, list_all}
use Rattle.std.proofs.lemmas.Bool.{cases_lt, ltb-true}
use Rattle.iso_model.specs.declared.Kind.{Kind}
use Rattle.iso_model.specs.declared.Kind.TheVariants.{Cube, Simplex, Pyramid}
use Rattle.lists.specs.Orders.{numbers}
use Rattle.iso_model.specs.Cells.{HasDimension, facet_count, facet_corners}
use Rattle.iso_model.specs.Splits.{cells_per_cube}
use Rattle.iso_model.specs.Dimensions.{IsDimension, of_each_cell}
use Rattle.cell_lattice.specs.Agreement.{agree}
use Rattle.cell_lattice.specs.CellLemmas.{ordered_ends}
use Rattle.split_checks.specs.ShareTests.{shares_of, all_offsets}
use Rattle.split_checks.specs.AcrossTests.{next_across, all_facets, across_of, all_lead_back, joined_with}
use Rattle.split_checks.specs.ColumnTests.{is_placed_rank}
use Rattle.split_checks.proofs.SharesFound.{squares_share, cubes_share, hypercubes_share, triangles_share, tetrahedra_share, four_axes_0_share}
use Rattle.split_checks.proofs.SharesFound.{four_axes_3_share, four_axes_6_share, four_axes_9_share, four_axes_12_share, four_axes_15_share}
use Rattle.split_checks.proofs.SharesFound.{four_axes_18_share, four_axes_21_share, pyramids_share}
use Rattle.split_checks.proofs.AcrossFound.{squares_across, squares_joined, squares_lead_back, cubes_across, cubes_joined, cubes_lead_back}
use Rattle.split_checks.proofs.AcrossFound.{hypercubes_across, hypercubes_joined, hypercubes_lead_back, triangles_across, triangles_joined}
use Rattle.split_checks.proofs.AcrossFound.{triangles_lead_back, tetrahedra_across, tetrahedra_joined, tetrahedra_lead_back, four_axes_0_across}
use Rattle.split_checks.proofs.AcrossFound.{four_axes_6_across, four_axes_12_across, four_axes_18_across, four_axes_0_joined, four_axes_12_joined}
use Rattle.split_checks.proofs.AcrossFound.{four_axes_lead_back, pyramids_across, pyramids_joined, pyramids_lead_back}
use Rattle.split_checks.proofs.CornersFound.{squares_fit, cubes_fit, hypercubes_fit, triangles_fit, tetrahedra_fit, four_axes_fit, pyramids_fit}
use Rattle.split_checks.proofs.ColumnsFound.{squares_placed, cubes_placed, hypercubes_placed, triangles_placed, tetrahedra_placed, four_axes_placed}
use Rattle.split_checks.proofs.ColumnsFound.{pyramids_placed}
use Rattle.split_laws.proofs.Offsets.{OffsetsFit, offsets_fit}
use Rattle.split_laws.proofs.Sharing.{SharesPass, EndsAreCorners}
use Rattle.split_laws.proofs.Across.{AcrossPass, HaveCorners}
use Rattle.split_laws.proofs.AcrossLaws.{JoinedPass}
use Rattle.lists.proofs.MemberLaws.{all_In, In-range, all_below}

-- a test that the numbers from a up to b pass
abbrev PassFrom : (ℕ → Bool) → ℕ → ℕ → Type 0
PassFrom p a b = (r : ℕ) → a ≤ r → r < b → p r ≡ true

piece : (p : ℕ → Bool) (a n : ℕ) → list_all p (range_with_len a n) ≡ true → PassFrom p a (a + n)
piece p a n h r low high = all_In p (range_with_len a n) h r (In-range a n r low high)

joint : (p : ℕ → Bool) (a b c : ℕ) → PassFrom p a b → PassFrom p b c → PassFrom p a c
joint p a b c first second r low high = elim (cases_lt r b) [ inl less ↦ first r low less | inr more ↦ second r more high ]

pub shares_pass : (kind : Kind) (d : ℕ) → IsDimension d → HasDimension kind d → SharesPass kind d
shares_pass = of_each_cell SharesPass
    (λ r h. all_below 1 (shares_of Cube 2 (all_offsets Cube 2)) squares_share r h)
    (λ r h. all_below 1 (shares_of Cube 3 (all_offsets Cube 3)) cubes_share r h)
    (λ r h. all_below 1 (shares_of Cube 4 (all_offsets Cube 4)) hypercubes_share r h)
    (λ r h. all_below 2 (shares_of Simplex 2 (all_offsets Simplex 2)) triangles_share r h)
    (λ r h. all_below 6 (shares_of Simplex 3 (all_offsets Simplex 3)) tetrahedra_share r h)
    (λ r h.
    (joint (shares_of Simplex 4 (all_offsets Simplex 4)) 0 21 24
    (joint (shares_of Simplex 4 (all_offsets Simplex 4)) 0 18 21
    (joint (shares_of Simplex 4 (all_offsets Simplex 4)) 0 15 18
    (joint (shares_of Simplex 4 (all_offsets Simplex 4)) 0 12 15
    (joint (shares_of Simplex 4 (all_offsets Simplex 4)) 0 9 12
    (joint (shares_of Simplex 4 (all_offsets Simplex 4)) 0 6 9
    (joint (shares_of Simplex 4 (all_offsets Simplex 4)) 0 3 6
    (piece (shares_of Simplex 4 (all_offsets Simplex 4)) 0 3 four_axes_0_share)
    (piece (shares_of Simplex 4 (all_offsets Simplex 4)) 3 3 four_axes_3_share))
    (piece (shares_of Simplex 4 (all_offsets Simplex 4)) 6 3 four_axes_6_share))
    (piece (shares_of Simplex 4 (all_offsets Simplex 4)) 9 3 four_axes_9_share))
    (piece (shares_of Simplex 4 (all_offsets Simplex 4)) 12 3 four_axes_12_share))
    (piece (shares_of Simplex 4 (all_offsets Simplex 4)) 15 3 four_axes_15_share))
    (piece (shares_of Simplex 4 (all_offsets Simplex 4)) 18 3 four_axes_18_share))
    (piece (shares_of Simplex 4 (all_offsets Simplex 4)) 21 3 four_axes_21_share))
    r (omega arith) h)
    (λ r h. all_below 6 (shares_of Pyramid 3 (all_offsets Pyramid 3)) pyramids_share r h)

pub across_pass : (kind : Kind) (d : ℕ) → IsDimension d → HasDimension kind d → AcrossPass kind d
across_pass = of_each_cell AcrossPass
    (λ r h. all_below 1 (across_of 2 (all_facets Cube 2) (next_across Cube 2) (cells_per_cube Cube 2) (facet_count Cube 2)) squares_across r h)
    (λ r h. all_below 1 (across_of 3 (all_facets Cube 3) (next_across Cube 3) (cells_per_cube Cube 3) (facet_count Cube 3)) cubes_across r h)
    (λ r h. all_below 1 (across_of 4 (all_facets Cube 4) (next_across Cube 4) (cells_per_cube Cube 4) (facet_count Cube 4)) hypercubes_across r h)
    (λ r h. all_below 2 (across_of 2 (all_facets Simplex 2) (next_across Simplex 2) (cells_per_cube Simplex 2) (facet_count Simplex 2)) triangles_across r h)
    (λ r h. all_below 6 (across_of 3 (all_facets Simplex 3) (next_across Simplex 3) (cells_per_cube Simplex 3) (facet_count Simplex 3)) tetrahedra_across r h)
    (λ r h.
    (joint (across_of 4 (all_facets Simplex 4) (next_across Simplex 4) (cells_per_cube Simplex 4) (facet_count Simplex 4)) 0 18 24
    (joint (across_of 4 (all_facets Simplex 4) (next_across Simplex 4) (cells_per_cube Simplex 4) (facet_count Simplex 4)) 0 12 18
    (joint (across_of 4 (all_facets Simplex 4) (next_across Simplex 4) (cells_per_cube Simplex 4) (facet_count Simplex 4)) 0 6 12
    (piece (across_of 4 (all_facets Simplex 4) (next_across Simplex 4) (cells_per_cube Simplex 4) (facet_count Simplex 4)) 0 6
    four_axes_0_across)
    (piece (across_of 4 (all_facets Simplex 4) (next_across Simplex 4) (cells_per_cube Simplex 4) (facet_count Simplex 4)) 6 6
    four_axes_6_across))
    (piece (across_of 4 (all_facets Simplex 4) (next_across Simplex 4) (cells_per_cube Simplex 4) (facet_count Simplex 4)) 12 6
    four_axes_12_across))
    (piece (across_of 4 (all_facets Simplex 4) (next_across Simplex 4) (cells_per_cube Simplex 4) (facet_count Simplex 4)) 18 6
    four_axes_18_across))
    r (omega arith) h)
    (λ r h. all_below 6 (across_of 3 (all_facets Pyramid 3) (next_across Pyramid 3) (cells_per_cube Pyramid 3) (facet_count Pyramid 3)) pyramids_across r h)

pub joined_pass : (kind : Kind) (d : ℕ) → IsDimension d → HasDimension kind d → JoinedPass kind d
joined_pass = of_each_cell JoinedPass
    (λ r h. all_below 1 (joined_with Cube 2 (next_across Cube 2)) squares_joined r h)
    (λ r h. all_below 1 (joined_with Cube 3 (next_across Cube 3)) cubes_joined r h)
    (λ r h. all_below 1 (joined_with Cube 4 (next_across Cube 4)) hypercubes_joined r h)
    (λ r h. all_below 2 (joined_with Simplex 2 (next_across Simplex 2)) triangles_joined r h)
    (λ r h. all_below 6 (joined_with Simplex 3 (next_across Simplex 3)) tetrahedra_joined r h)
    (λ r h.
    (joint (joined_with Simplex 4 (next_across Simplex 4)) 0 12 24
    (piece (joined_with Simplex 4 (next_across Simplex 4)) 0 12 four_axes_0_joined)
    (piece (joined_with Simplex 4 (next_across Simplex 4)) 12 12 four_axes_12_joined))
    r (omega arith) h)
    (λ r h. all_below 6 (joined_with Pyramid 3 (next_across Pyramid 3)) pyramids_joined r h)

pub lead_back_pass : (kind : Kind) (d : ℕ) → IsDimension d → HasDimension kind d → all_lead_back kind d ≡ true
lead_back_pass =
    of_each_cell (λ k n. all_lead_back k n ≡ true) squares_lead_back cubes_lead_back hypercubes_lead_back triangles_lead_back tetrahedra_lead_back
    four_axes_lead_back pyramids_lead_back

-- each rank of a kind is the canonical cell, its axes in another order
abbrev pub PlacedPass : Kind → ℕ → Type 0
PlacedPass kind d = (r : ℕ) → r < cells_per_cube kind d → is_placed_rank kind d r ≡ true

pub placed_pass : (kind : Kind) (d : ℕ) → IsDimension d → HasDimension kind d → PlacedPass kind d
placed_pass = of_each_cell PlacedPass
    (λ r h. all_below 1 (is_placed_rank Cube 2) squares_placed r h)
    (λ r h. all_below 1 (is_placed_rank Cube 3) cubes_placed r h)
    (λ r h. all_below 1 (is_placed_rank Cube 4) hypercubes_placed r h)
    (λ r h. all_below 2 (is_placed_rank Simplex 2) triangles_placed r h)
    (λ r h. all_below 6 (is_placed_rank Simplex 3) tetrahedra_placed r h)
    (λ r h. all_below 24 (is_placed_rank Simplex 4) four_axes_placed r h)
    (λ r h. all_below 6 (is_placed_rank Pyramid 3) pyramids_placed r h)

pub fits : (kind : Kind) (d : ℕ) → IsDimension d → HasDimension kind d → OffsetsFit kind d
fits =
    of_each_cell OffsetsFit (offsets_fit Cube 2 (omega arith) squares_fit) (offsets_fit Cube 3 (omega arith) cubes_fit)
    (offsets_fit Cube 4 (omega arith) hypercubes_fit) (offsets_fit Simplex 2 (omega arith) triangles_fit)
    (offsets_fit Simplex 3 (omega arith) tetrahedra_fit) (offsets_fit Simplex 4 (omega arith) four_axes_fit)
    (offsets_fit Pyramid 3 (omega arith) pyramids_fit)

abbrev has_corner : Kind → ℕ → ℕ → Bool
has_corner kind d f = nat_lt 0 (length (facet_corners kind d f))

pub have_corners : (kind : Kind) (d : ℕ) → IsDimension d → HasDimension kind d → HaveCorners kind d
have_corners kind d is has f hf =
    ltb-true 0 (length (facet_corners kind d f))
    (agree (facet_count kind d) (has_corner kind d) (λ _. true)
    (of_each_cell (λ k n. map (has_corner k n) (numbers (facet_count k n)) ≡ map (λ _. true) (numbers (facet_count k n))) refl refl refl refl
    refl refl refl kind d is has)
    f hf)

pub ends_are_corners : (kind : Kind) (d : ℕ) → IsDimension d → HasDimension kind d → EndsAreCorners kind d
ends_are_corners kind d is has n hn = let o = ordered_ends kind d is has n hn in (omega (arith, o), o.1)

pub two_facets : (kind : Kind) (d : ℕ) → IsDimension d → HasDimension kind d → 2 ≤ facet_count kind d
two_facets = of_each_cell (λ k n. 2 ≤ facet_count k n) (omega arith) (omega arith) (omega arith) (omega arith) (omega arith) (omega arith) (omega arith)
