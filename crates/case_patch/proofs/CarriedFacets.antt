-- The facets of the carried labelling, carried back, are the facets of the labelling.
use Rattle.std.specs.Prelude.{◌≡◌, ℕ, ◌*◌, ◌^◌, ◌<◌, ◌≤◌, ℤ, pos, Bool, true, false, ◌==◌, List, [], map, filter, length, slice_index, slice_index_or, All}
use Rattle.std.specs.Prelude.{Contains}
use Rattle.std.proofs.Common.{refl, sym, ap, ◌∙◌, subst, arith}
use Rattle.std.proofs.lemmas.List.Elements.{All-map, All-append, All-weaker}
use Rattle.std.proofs.lemmas.List.{length-map}
use Rattle.std.proofs.lemmas.List.FromFn.{length-map-range_with_len}
use Rattle.iso_model.specs.declared.Kind.TheVariants.{Cube}
use Rattle.iso_model.specs.Cells.{HasDimension, edge_count, corner_count, edge_midpoint, corner_point}
use Rattle.iso_model.specs.Turns.{slack, same_int}
use Rattle.iso_model.specs.Hulls.{IsFacet}
use Rattle.iso_model.specs.Entries.{label_edges, label_corners, label_points}
use Rattle.iso_model.specs.Moves.{Move, Carries}
use Rattle.halfspace.specs.Choices.{AreFacetNumbers, IsFacetNumber}
use Rattle.halfspace.proofs.FoundSets.{digit, bit_of_number}
use Rattle.cube_moves.proofs.InverseMoves.{AreInverse, inverse_too, carries_back}
use Rattle.case_patch.specs.FacetLists.{AreAllFacets}
use Rattle.case_patch.specs.MovedPoints.{carried_point, carried_by}
use Rattle.case_patch.proofs.FacetSets.{listed_facets, facet_number, digit_test}
use Rattle.case_patch.proofs.LabelPoints.{edges_below, corners_below}
use Rattle.case_patch.proofs.MovedFacets.{PointsMatch, moved_set, facet_moved}
use Rattle.case_patch.proofs.MovedPoints.{points_match}
use Rattle.case_patch.proofs.MovedTurns.{at_place}
use Rattle.case_patch.proofs.OffSets.{has_is_test}
use Rattle.case_patch.proofs.SmallPoints.{corner_is_point, midpoint_is_point}
use Rattle.lists.specs.Orders.{numbers, has}
use Rattle.lists.specs.Bits.{is_set, set_number}
use Rattle.lists.proofs.Contained.{from_Contains-map, below_contained, All-from_each, filter-same, Contains-mapped}
use Rattle.iso_model.specs.Dimensions.{IsDimension}
use Rattle.iso_model.proofs.CellCounts.{axes_between}

-- the points of a labelling have d coordinates
points_wide : (d label : ℕ) → IsDimension d → All (λ p. length p ≡ d) (label_points Cube d label)
points_wide d label is = All-append (λ p. length p ≡ d)
    (map (λ e. map pos (edge_midpoint Cube d e)) (label_edges Cube d label))
    (map (λ k. map (λ x. pos (2 * x)) (corner_point Cube d k)) (label_corners Cube d label))
    (All-map (λ p. length p ≡ d) (λ e. map pos (edge_midpoint Cube d e)) (label_edges Cube d label)
    (All-weaker (λ e. e < edge_count Cube d) (λ e. length (map pos (edge_midpoint Cube d e)) ≡ d)
    (λ e h. length-map (edge_midpoint Cube d e) pos ∙ (midpoint_is_point Cube d is has_d e h).wide) (label_edges Cube d label) (edges_below Cube d label)))
    (All-map (λ p. length p ≡ d) (λ k. map (λ x. pos (2 * x)) (corner_point Cube d k)) (label_corners Cube d label)
    (All-weaker (λ k. k < corner_count Cube d) (λ k. length (map (λ x. pos (2 * x)) (corner_point Cube d k)) ≡ d)
    (λ k h. length-map (corner_point Cube d k) (λ x. pos (2 * x)) ∙ (corner_is_point Cube d is has_d k h).wide) (label_corners Cube d label)
    (corners_below Cube d label)))
  where
    has_d : HasDimension Cube d
    has_d = axes_between d is

facet_bit : (d : ℕ) (points : List (List ℤ)) (set : List ℕ) (j : ℕ) → IsFacet d points set → j < length points → is_set (set_number set) j ≡ has set j
facet_bit d points set j f h =
    ap (λ (s : List ℕ). is_set (set_number s) j) f.tight
    ∙ ap (λ (b : ℕ). b == 1) (bit_of_number tests (length points) j h) ∙ digit_test (tests j)
    ∙ sym (has_is_test tests (length points) j h) ∙ ap (λ (s : List ℕ). has s j) (sym f.tight)
  where
    tests : ℕ → Bool
    tests j = same_int (slack f.half (slice_index_or points j [])) (pos 0)

-- a facet's number is carried to that of the moved set
carried_facet : (d : ℕ) (by : Move) (P Q : List (List ℤ)) (τ σ : ℕ → ℕ) → PointsMatch d by P Q τ σ → (list : List ℕ) → list ≡ map σ (numbers (length P))
    → (set : List ℕ) → IsFacet d Q set
    → carried_by list (set_number set) ≡ set_number (moved_set P σ set)
carried_facet d by P Q τ σ m list e set f =
    ap (λ (xs : List ℕ). set_number (filter (λ i. is_set (set_number set) (slice_index xs i)) (numbers (length xs)))) e
    ∙ ap (λ (n : ℕ). set_number (filter (λ i. is_set (set_number set) (slice_index (map σ (numbers (length P))) i)) (numbers n)))
    (length-map-range_with_len σ 0 (length P))
    ∙ ap set_number (filter-same (λ i. is_set (set_number set) (slice_index (map σ (numbers (length P))) i)) (λ i. has set (σ i)) (numbers (length P))
    (λ i c. let h = below_contained (length P) i c in
    ap (is_set (set_number set)) (at_place σ (length P) i 0 h) ∙ facet_bit d Q set (σ i) f (m.into i h)))

-- a set that is moved there and back
moved_twice : (d : ℕ) (by : Move) (P Q : List (List ℤ)) (τ σ : ℕ → ℕ) → PointsMatch d by P Q τ σ → (set : List ℕ) → IsFacet d P set
    → moved_set P σ (moved_set Q τ set) ≡ set
moved_twice d by P Q τ σ m set f =
    filter-same (λ i. has (moved_set Q τ set) (σ i)) tests (numbers (length P))
    (λ i c. let h = below_contained (length P) i c in
    has_is_test (λ j. has set (τ j)) (length Q) (σ i) (m.into i h) ∙ ap (has set) (m.there i h) ∙ ap (λ (s : List ℕ). has s i) f.tight
    ∙ has_is_test tests (length P) i h)
    ∙ sym f.tight
  where
    tests : ℕ → Bool
    tests i = same_int (slack f.half (slice_index_or P i [])) (pos 0)

-- the facets of points that match others, from theirs
facets_carried : (d : ℕ) (P Q : List (List ℤ)) (by : Move) (τ σ : ℕ → ℕ) → PointsMatch d by P Q τ σ
    → ((set : List ℕ) → IsFacet d Q set → IsFacet d P (moved_set P σ set)) → ((set : List ℕ) → IsFacet d P set → IsFacet d Q (moved_set Q τ set))
    → (found list : List ℕ) → list ≡ map σ (numbers (length P)) → AreAllFacets d Q found → AreAllFacets d P (map (carried_by list) found)
facets_carried d P Q by τ σ m go come found list e are = record { each = λ number. (λ c. there number c, λ f. back number f) }
  where
    there : (number : ℕ) → Contains (map (carried_by list) found) number → IsFacetNumber d P number
    there number c =
        let x = from_Contains-map (carried_by list) found number c in
        let f = (are.each x.0).0 x.1 in
        (moved_set P σ f.0, go f.0 f.1, sym x.2 ∙ ap (carried_by list) f.2 ∙ carried_facet d by P Q τ σ m list e f.0 f.1)

    back : (number : ℕ) → IsFacetNumber d P number → Contains (map (carried_by list) found) number
    back number f =
        let g = come f.0 f.1 in
        subst (Contains (map (carried_by list) found))
        (carried_facet d by P Q τ σ m list e (moved_set Q τ f.0) g ∙ ap set_number (moved_twice d by P Q τ σ m f.0 f.1) ∙ sym f.2)
        (Contains-mapped (carried_by list) found (set_number (moved_set Q τ f.0)) (facet_number d Q found (moved_set Q τ f.0) are g))

-- the facets of a labelling of a cube, from those of the labelling to which a move carries it
pub class_facets : (d : ℕ) → IsDimension d → (by un : Move) → AreInverse d by un → (label other : ℕ) → label < 2 ^ (2 ^ d) → Carries d by label other
    → (found list : List ℕ)
    → list ≡ map (carried_point d by label other) (numbers (length (label_points Cube d label))) → AreFacetNumbers d (label_points Cube d other) found
    → AreAllFacets d (label_points Cube d label) (map (carried_by list) found)
class_facets d is by un inv label other below c found list e are =
    let there = points_match d is by un inv label other below c in
    let back = points_match d is un by (inverse_too d by un inv) other label c.0 (carries_back d by un inv label other below c) in
    facets_carried d (label_points Cube d label) (label_points Cube d other) un (carried_point d un other label) (carried_point d by label other) back
    (λ set f. facet_moved d is un inv.is_back.0 (label_points Cube d label) (label_points Cube d other) (carried_point d un other label)
    (carried_point d by label other) back (points_wide d other is) set f)
    (λ set f. facet_moved d is by inv.is_move.0 (label_points Cube d other) (label_points Cube d label) (carried_point d by label other)
    (carried_point d un other label) there (points_wide d label is) set f)
    found list e (listed_facets d (label_points Cube d other) found are)

-- the numbers of carried points are few
pub numbers_small : (d : ℕ) → IsDimension d → (by un : Move) → AreInverse d by un → (label other : ℕ) → label < 2 ^ (2 ^ d) → Carries d by label other → (n : ℕ)
    → length (label_points Cube d other) ≤ n
    → (list : List ℕ) → list ≡ map (carried_point d by label other) (numbers (length (label_points Cube d label))) → All (λ i. i < n) list
numbers_small d is by un inv label other below c n few list e =
    subst (All (λ i. i < n)) (sym e)
    (All-map (λ i. i < n) (carried_point d by label other) (numbers (length (label_points Cube d label)))
    (All-from_each (λ i. carried_point d by label other i < n) (numbers (length (label_points Cube d label)))
    (λ i h. let m = (points_match d is by un inv label other below c).onto i (below_contained (length (label_points Cube d label)) i h) in omega arith)))
