-- What stands across a facet, tested for each facet of each cell of a cube.
use Rattle.std.specs.Prelude.{ℕ, ◌+◌, ◌-◌, ◌*◌, ◌%◌, ◌==◌, nat_lt, Bool, true, false, not, ◌&&◌, ◌||◌, List, [], ◌∷◌, ◌++◌, map, take, drop}
use Rattle.std.specs.Prelude.{slice_index, slice_index_or, if◌then◌else◌}
use Rattle.std.specs.List.{list_all, list_any, position_or_len}
use Rattle.iso_model.specs.declared.Kind.{Kind}
use Rattle.iso_model.specs.declared.Kind.TheVariants.{Cube, Simplex, Pyramid}
use Rattle.lists.specs.Orders.{numbers, orders, same_list}
use Rattle.iso_model.specs.Points.{axes}
use Rattle.iso_model.specs.Cells.{facet_count, facet_corners}
use Rattle.iso_model.specs.Seams.{Seam, seams, corner_across}
use Rattle.iso_model.specs.Splits.{cells_per_cube, corner_offset, is_odd_rank}
use Rattle.iso_model.specs.Neighbours.{facet_offsets}
use Rattle.split_checks.specs.CubeShifts.{meets, move_to, stays, same_places}

-- ---- the rank and the facet across

-- the places j - 1 and j of an order exchanged
abbrev exchanged : ℕ → List ℕ → List ℕ
exchanged j order = take (j - 1) order ++ slice_index order j ∷ slice_index order (j - 1) ∷ drop (j + 1) order

-- the rank of an order of d axes
abbrev rank_of_order : ℕ → List ℕ → ℕ
rank_of_order d order = position_or_len (same_list order) (orders d)

-- across facet 0 of a simplex the first axis comes last, across facet d the last axis comes first, and across another one two axes are exchanged
abbrev simplex_across : ℕ → List ℕ → ℕ → ℕ × ℕ
simplex_across d order f =
    if f == 0 then (rank_of_order d (drop 1 order ++ take 1 order), d)
    else if f == d then (rank_of_order d (drop (d - 1) order ++ take (d - 1) order), 0)
    else (rank_of_order d (exchanged f order), f)

-- across the base of a pyramid stands that of the next cube; across its other facets stand pyramids of the same cube
abbrev pyramid_across : List (List (ℕ × ℕ))
pyramid_across =
    ((1, 0) ∷ (2, 1) ∷ (3, 1) ∷ (4, 1) ∷ (5, 1) ∷ [])
    ∷ ((0, 0) ∷ (2, 2) ∷ (3, 2) ∷ (4, 2) ∷ (5, 2) ∷ [])
    ∷ ((3, 0) ∷ (0, 1) ∷ (1, 1) ∷ (4, 3) ∷ (5, 3) ∷ [])
    ∷ ((2, 0) ∷ (0, 2) ∷ (1, 2) ∷ (4, 4) ∷ (5, 4) ∷ [])
    ∷ ((5, 0) ∷ (0, 3) ∷ (1, 3) ∷ (2, 3) ∷ (3, 3) ∷ [])
    ∷ ((4, 0) ∷ (0, 4) ∷ (1, 4) ∷ (2, 4) ∷ (3, 4) ∷ []) ∷ []

-- the rank and the facet across each facet of each rank
abbrev pub next_across : Kind → ℕ → List (List (ℕ × ℕ))
next_across Cube d = map (λ f. (0, f + 1 - 2 * (f % 2))) (numbers (2 * d)) ∷ []
next_across Simplex d = map (λ order. map (simplex_across d order) (numbers (d + 1))) (orders d)
next_across Pyramid d = pyramid_across

-- ---- the tests

-- the offsets of all facets of all cells of a cube
abbrev pub all_facets : Kind → ℕ → List (List (List (List ℕ)))
all_facets kind d = map (λ r. map (facet_offsets kind d r) (numbers (facet_count kind d))) (numbers (cells_per_cube kind d))

abbrev pub facet_at : List (List (List (List ℕ))) → ℕ → ℕ → List (List ℕ)
facet_at all r f = slice_index_or (slice_index_or all r []) f []

-- the move of the cube across a facet
abbrev pub move_across : ℕ → List (List ℕ) → List ℕ
move_across d here =
    map (λ i. if list_all (λ p. slice_index p i == 0) here then 0 else if list_all (λ p. slice_index p i == 2) here then 2 else 1) (axes d)

-- the other facet is not at the same points at this move, or it is the facet itself, or the one across
abbrev pub is_known : ℕ → ℕ → ℕ × ℕ → List ℕ → List (List ℕ) → ℕ → ℕ → List (List ℕ) → List ℕ → Bool
is_known r f next move here o g there m =
    not (same_places m here there) || ((o == r) && (g == f) && stays m) || ((o == next.0) && (g == next.1) && same_list m move)

-- at each move by which one of its corners meets the first corner of the facet
abbrev pub all_known : ℕ → ℕ → ℕ × ℕ → List ℕ → List (List ℕ) → List ℕ → ℕ → ℕ → List (List ℕ) → Bool
all_known r f next move here first o g there = list_all (λ q. is_known r f next move here o g there (move_to first q)) there

-- the facet across is another one at the same points, of another cell, and this one is across it, by the move back
abbrev pub is_across : ℕ → ℕ → ℕ → ℕ × ℕ → List ℕ → List (List ℕ) → List (List ℕ) → Bool
is_across d r f next move here there =
    not ((next.0 == r) && (next.1 == f)) && not ((next.0 == r) && stays move) && same_places move here there
    && same_list (map (λ m. 2 - m) move) (move_across d there)

abbrev pub across_at : ℕ → List (List (List (List ℕ))) → ℕ → ℕ → ℕ → ℕ → ℕ × ℕ → List ℕ → List (List ℕ) → Bool
across_at d all ranks facets r f next move here =
    nat_lt next.0 ranks && nat_lt next.1 facets && is_across d r f next move here (facet_at all next.0 next.1)
    && list_all (λ o. list_all (λ g. all_known r f next move here (slice_index_or here 0 []) o g (facet_at all o g)) (numbers facets)) (numbers ranks)

abbrev pub next_at : List (List (ℕ × ℕ)) → ℕ → ℕ → ℕ × ℕ
next_at next r f = slice_index_or (slice_index_or next r []) f (0, 0)

abbrev pub across_of : ℕ → List (List (List (List ℕ))) → List (List (ℕ × ℕ)) → ℕ → ℕ → ℕ → Bool
across_of d all next ranks facets r =
    list_all (λ f. across_at d all ranks facets r f (next_at next r f) (move_across d (facet_at all r f)) (facet_at all r f)) (numbers facets)

abbrev pub all_across : Kind → ℕ → List ℕ → Bool
all_across kind d ranks = list_all (across_of d (all_facets kind d) (next_across kind d) (cells_per_cube kind d) (facet_count kind d)) ranks

-- the facet across the facet across is the facet itself
abbrev pub leads_back_at : List (List (ℕ × ℕ)) → ℕ → ℕ → ℕ × ℕ → Bool
leads_back_at next r f n = ((next_at next n.0 n.1).0 == r) && ((next_at next n.0 n.1).1 == f)

abbrev pub leads_back_with : List (List (ℕ × ℕ)) → ℕ → ℕ → Bool
leads_back_with next ranks facets = list_all (λ r. list_all (λ f. leads_back_at next r f (next_at next r f)) (numbers facets)) (numbers ranks)

abbrev pub all_lead_back : Kind → ℕ → Bool
all_lead_back kind d = leads_back_with (next_across kind d) (cells_per_cube kind d) (facet_count kind d)

-- ---- seams

abbrev pub same_truth : Bool → Bool → Bool
same_truth true b = b
same_truth false b = not b

-- the seam joins the two facets, corner to corner, and tells whether the parities are the same
abbrev pub joins : Kind → ℕ → ℕ → ℕ → ℕ × ℕ → List ℕ → Seam → Bool
joins kind d r f n move s =
    (s.facet == f) && (s.other == n.1)
    && list_all (λ k. meets (corner_offset kind d r k) move (corner_offset kind d n.0 (corner_across kind d s k))) (facet_corners kind d f)
    && same_truth s.same_parity (same_truth (is_odd_rank kind d r) (is_odd_rank kind d n.0))

-- a seam joins them, read in one of its two directions
abbrev pub are_joined : Kind → ℕ → ℕ → ℕ → ℕ × ℕ → Bool
are_joined kind d r f n =
    list_any
    (λ s.
    joins kind d r f n (move_across d (facet_offsets kind d r f)) s
    || joins kind d n.0 n.1 (r, f) (move_across d (facet_offsets kind d n.0 n.1)) s)
    (seams kind d)

abbrev pub joined_with : Kind → ℕ → List (List (ℕ × ℕ)) → ℕ → Bool
joined_with kind d next r = list_all (λ f. are_joined kind d r f (next_at next r f)) (numbers (facet_count kind d))

abbrev pub all_joined : Kind → ℕ → List ℕ → Bool
all_joined kind d ranks = list_all (joined_with kind d (next_across kind d)) ranks
