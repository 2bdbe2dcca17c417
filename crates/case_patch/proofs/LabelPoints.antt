-- The edges, corners and points of a labelling: few, and small.
use Rattle.std.specs.Prelude.{◌≡◌, ◌+◌, ◌*◌, ◌≤◌, ◌<◌, ℕ, pos, Bool, true, false, List, [], ◌∷◌, map, filter, length, All, if◌then◌else◌}
use Rattle.std.proofs.Common.{arith, length-append}
use Rattle.std.proofs.lemmas.List.{length-map}
use Rattle.std.proofs.lemmas.List.Elements.{All-map, All-append, All-filter, All-weaker}
use Rattle.std.proofs.lemmas.List.FromFn.{length-range_with_len}
use Rattle.polynomials.specs.Small.{AreSmall}
use Rattle.iso_model.specs.declared.Kind.{Kind}
use Rattle.lists.specs.Orders.{numbers}
use Rattle.iso_model.specs.Cells.{HasDimension, corner_count, edge_count, corner_point, edge_midpoint}
use Rattle.iso_model.specs.Bipolar.{is_bipolar_in}
use Rattle.iso_model.specs.Entries.{label_edges, label_corners, label_points}
use Rattle.iso_model.proofs.DimensionLaws.{is_small_cell}
use Rattle.iso_model.specs.Dimensions.{IsDimension}
use Rattle.case_patch.proofs.SmallPoints.{corner_is_point, midpoint_is_point, small_point, small_double}
use Rattle.lists.specs.Bits.{is_set}
use Rattle.lists.proofs.Contained.{All-from_each, below_contained}

numbers_below : (n : ℕ) → All (λ i. i < n) (numbers n)
numbers_below n = All-from_each (λ i. i < n) (numbers n) (λ i c. below_contained n i c)

pub edges_below : (kind : Kind) (d label : ℕ) → All (λ e. e < edge_count kind d) (label_edges kind d label)
edges_below kind d label =
    All-filter (is_bipolar_in kind d label) (λ e. e < edge_count kind d) (numbers (edge_count kind d)) (numbers_below (edge_count kind d))

pub corners_below : (kind : Kind) (d label : ℕ) → All (λ k. k < corner_count kind d) (label_corners kind d label)
corners_below kind d label = All-filter (is_set label) (λ k. k < corner_count kind d) (numbers (corner_count kind d)) (numbers_below (corner_count kind d))

fewer : {X : Type 0} (p : X → Bool) (xs : List X) → length (filter p xs) ≤ length xs
fewer p [] = omega arith
fewer {X} p (x ∷ xs) = by_test (p x) (fewer p xs)
  where
    by_test : (b : Bool) → length (filter p xs) ≤ length xs → length (if b then x ∷ filter p xs else filter p xs) ≤ length (x ∷ xs)
    by_test true h = omega arith
    by_test false h = omega arith

-- at most 32 midpoints and 16 corners
pub few_points : (kind : Kind) (d label : ℕ) → HasDimension kind d → length (label_edges kind d label) + length (label_corners kind d label) ≤ 48
few_points kind d label has =
    let small = is_small_cell kind d has in
    let es = fewer (is_bipolar_in kind d label) (numbers (edge_count kind d)) in
    let ks = fewer (is_set label) (numbers (corner_count kind d)) in
    omega (arith, small.edges, small.corners, es, ks, length-range_with_len 0 (edge_count kind d), length-range_with_len 0 (corner_count kind d))

pub points_length : (kind : Kind) (d label : ℕ) → length (label_points kind d label) ≡ length (label_edges kind d label) + length (label_corners kind d label)
points_length kind d label = simp (length-append, length-map)

pub points_small : (kind : Kind) (d label : ℕ) → IsDimension d → HasDimension kind d → All (λ p. AreSmall 32 p) (label_points kind d label)
points_small kind d label is has = All-append (λ p. AreSmall 32 p)
    (map (λ e. map pos (edge_midpoint kind d e)) (label_edges kind d label))
    (map (λ k. map (λ x. pos (2 * x)) (corner_point kind d k)) (label_corners kind d label))
    (All-map (λ p. AreSmall 32 p) (λ e. map pos (edge_midpoint kind d e)) (label_edges kind d label)
    (All-weaker (λ e. e < edge_count kind d) (λ e. AreSmall 32 (map pos (edge_midpoint kind d e)))
    (λ e h. small_point d 4 (edge_midpoint kind d e) (omega arith) (midpoint_is_point kind d is has e h)) (label_edges kind d label)
    (edges_below kind d label)))
    (All-map (λ p. AreSmall 32 p) (λ k. map (λ x. pos (2 * x)) (corner_point kind d k)) (label_corners kind d label)
    (All-weaker (λ k. k < corner_count kind d) (λ k. AreSmall 32 (map (λ x. pos (2 * x)) (corner_point kind d k)))
    (λ k h. small_double d 2 (corner_point kind d k) (omega arith) (corner_is_point kind d is has k h)) (label_corners kind d label)
    (corners_below kind d label)))
