-- What the corner tests say of the offsets of the cells of a cube.
use Rattle.std.proofs.Common.{◌≡◌, ℕ, zero, suc, ◌+◌, ◌<◌, ◌≤◌, Bool, true, not, ◌&&◌, ◌||◌, List, [], ◌∷◌, length, ap, ◌∙◌, arith, inl, inr}
use Rattle.std.specs.Prelude.{◌⊎◌, ◌==◌, nat_le, slice_index}
use Rattle.std.specs.List.{list_all, list_any}
use Rattle.std.proofs.lemmas.Bool.{eqb-true, leb-true, or_cases}
use Rattle.std.proofs.lemmas.Slice.Eq.{bytes_eq-Decides}
use Rattle.iso_model.specs.declared.Kind.{Kind}
use Rattle.lists.specs.Orders.{numbers, same_list}
use Rattle.iso_model.specs.Points.{point}
use Rattle.iso_model.specs.Cells.{corner_count, edge_count, edge_ends, facet_count, facet_corners, corner_in_facet}
use Rattle.iso_model.specs.Splits.{cells_per_cube, corner_offset}
use Rattle.iso_model.specs.SplitLaws.{HasOwnCorners, corners_at, facets_over, AreFacetOrLess, HasFlatSides}
use Rattle.split_checks.specs.CornerTests.{is_offset, has_own_corners, are_facet_or_less, has_flat_sides, even_part, is_even_end, has_even_end}
use Rattle.split_checks.specs.CornerTests.{corners_fit, all_corners_fit}
use Rattle.split_laws.proofs.Coordinates.{coordinate}
use Rattle.lists.proofs.Tests.{not_refused, and_left, and_right}
use Rattle.lists.specs.Members.{In}
use Rattle.lists.proofs.MemberLaws.{Contains_from, from_any, In-numbers, from_In-numbers, all_below, In-filter, from_filter, lists_equal}

-- ---- tests of lists

pub equal_lists : (xs ys : List ℕ) → xs ≡ ys → same_list xs ys ≡ true
equal_lists xs ys e = (bytes_eq-Decides xs ys).1 e

pub all_small : (xs : List ℕ) → list_all (λ x. nat_le x 2) xs ≡ true → (i : ℕ) → slice_index xs i ≤ 2
all_small [] h i = omega arith
all_small (x ∷ xs) h zero = leb-true x 2 (and_left (nat_le x 2) (list_all (λ y. nat_le y 2) xs) h)
all_small (x ∷ xs) h (suc i) = all_small xs (and_right (nat_le x 2) (list_all (λ y. nat_le y 2) xs) h) i

-- ---- the offsets of a split

-- one end of an edge, told by the sum of both
abbrev pub EvenEnd : ℕ → List ℕ → List ℕ → Type 0
EvenEnd d p q = (i : ℕ) → i < d → slice_index p i ≡ even_part (slice_index p i + slice_index q i)

pub record OffsetsFit (kind : Kind) (d : ℕ) : Type 0 where
  pub some_rank : 0 < cells_per_cube kind d
  pub long : (r k : ℕ) → r < cells_per_cube kind d → k < corner_count kind d → length (corner_offset kind d r k) ≡ d
  pub small : (r k i : ℕ) → r < cells_per_cube kind d → k < corner_count kind d → slice_index (corner_offset kind d r k) i ≤ 2
  pub own : (r : ℕ) → r < cells_per_cube kind d → HasOwnCorners kind d r
  pub flat : (r : ℕ) → r < cells_per_cube kind d → HasFlatSides kind d r
  pub even : (r e : ℕ) → r < cells_per_cube kind d → e < edge_count kind d →
      EvenEnd d (corner_offset kind d r (edge_ends kind d e).0) (corner_offset kind d r (edge_ends kind d e).1)
      ⊎ EvenEnd d (corner_offset kind d r (edge_ends kind d e).1) (corner_offset kind d r (edge_ends kind d e).0)

own_from : (kind : Kind) (d r : ℕ) → has_own_corners kind d r ≡ true → HasOwnCorners kind d r
own_from kind d r h j k hj hk same =
    let row =
    all_below (corner_count kind d)
    (λ i. list_all (λ l. (i == l) || not (same_list (corner_offset kind d r i) (corner_offset kind d r l))) (numbers (corner_count kind d))) h
    j hj in
    let cell = all_below (corner_count kind d) (λ l. (j == l) || not (same_list (corner_offset kind d r j) (corner_offset kind d r l))) row k hk in
    elim (or_cases (j == k) (not (same_list (corner_offset kind d r j) (corner_offset kind d r k))) cell) [
      | inl e ↦ eqb-true j k e
      | inr n ↦
          absurd
          (not_refused (same_list (corner_offset kind d r j) (corner_offset kind d r k)) n
          (equal_lists (corner_offset kind d r j) (corner_offset kind d r k) same))
    ]

side_from : (kind : Kind) (d : ℕ) (ks : List ℕ) → are_facet_or_less kind d ks ≡ true → AreFacetOrLess kind d ks
side_from kind d ks h = elim (or_cases (list_any (λ f. same_list (facet_corners kind d f) ks) (numbers (facet_count kind d)))
    (nat_le 2 (length (facets_over kind d ks))) h) [
      | inl one ↦ (let r = from_any (λ f. same_list (facet_corners kind d f) ks) (numbers (facet_count kind d)) one in
          let place = Contains_from (numbers (facet_count kind d)) r.0 r.1 in
          inl (place.0, r.0, place.1, place.2, lists_equal (facet_corners kind d r.0) ks r.2))
      | inr two ↦ inr (leb-true 2 (length (facets_over kind d ks)) two)
    ]

flat_from : (kind : Kind) (d r : ℕ) → has_flat_sides kind d r ≡ true → HasFlatSides kind d r
flat_from kind d r h i in_axes =
    let sides = all_below d (λ j. are_facet_or_less kind d (corners_at kind d r j 0) && are_facet_or_less kind d (corners_at kind d r j 2)) h i in_axes in (
      side_from kind d (corners_at kind d r i 0)
          (and_left (are_facet_or_less kind d (corners_at kind d r i 0)) (are_facet_or_less kind d (corners_at kind d r i 2)) sides),
      side_from kind d (corners_at kind d r i 2)
          (and_right (are_facet_or_less kind d (corners_at kind d r i 0)) (are_facet_or_less kind d (corners_at kind d r i 2)) sides),
    )

end_from : (d : ℕ) (p q : List ℕ) → is_even_end d p q ≡ true → EvenEnd d p q
end_from d p q h i in_axes =
    ap (λ (l : List ℕ). slice_index l i) (lists_equal p (point d (λ j. even_part (slice_index p j + slice_index q j))) h)
    ∙ coordinate d (λ j. even_part (slice_index p j + slice_index q j)) i in_axes

even_from : (kind : Kind) (d r e : ℕ) → has_even_end kind d r e ≡ true →
    EvenEnd d (corner_offset kind d r (edge_ends kind d e).0) (corner_offset kind d r (edge_ends kind d e).1)
    ⊎ EvenEnd d (corner_offset kind d r (edge_ends kind d e).1) (corner_offset kind d r (edge_ends kind d e).0)
even_from kind d r e h =
    elim (or_cases (is_even_end d (corner_offset kind d r (edge_ends kind d e).0) (corner_offset kind d r (edge_ends kind d e).1))
    (is_even_end d (corner_offset kind d r (edge_ends kind d e).1) (corner_offset kind d r (edge_ends kind d e).0)) h) [
      | inl one ↦ inl (end_from d (corner_offset kind d r (edge_ends kind d e).0) (corner_offset kind d r (edge_ends kind d e).1) one)
      | inr two ↦ inr (end_from d (corner_offset kind d r (edge_ends kind d e).1) (corner_offset kind d r (edge_ends kind d e).0) two)
    ]

module _ (kind : Kind) (d : ℕ) (some : 0 < cells_per_cube kind d) (passed : all_corners_fit kind d (numbers (cells_per_cube kind d)) ≡ true) where
  abbrev offsets_test : ℕ → Bool
  offsets_test r = list_all (is_offset kind d r) (numbers (corner_count kind d))

  abbrev even_test : ℕ → Bool
  even_test r = list_all (has_even_end kind d r) (numbers (edge_count kind d))

  at : (r : ℕ) → r < cells_per_cube kind d → corners_fit kind d r ≡ true
  at r h = all_below (cells_per_cube kind d) (corners_fit kind d) passed r h

  first_three : (r : ℕ) → r < cells_per_cube kind d → (offsets_test r && has_own_corners kind d r && has_flat_sides kind d r) ≡ true
  first_three r h = and_left (offsets_test r && has_own_corners kind d r && has_flat_sides kind d r) (even_test r) (at r h)

  offset_at : (r k : ℕ) → r < cells_per_cube kind d → k < corner_count kind d → is_offset kind d r k ≡ true
  offset_at r k h hk =
      all_below (corner_count kind d) (is_offset kind d r)
      (and_left (offsets_test r) (has_own_corners kind d r)
      (and_left (offsets_test r && has_own_corners kind d r) (has_flat_sides kind d r) (first_three r h)))
      k hk

  pub offsets_fit : OffsetsFit kind d
  offsets_fit = record {
    some_rank = some;
    long =
        λ r k h hk.
        eqb-true (length (corner_offset kind d r k)) d
        (and_left (length (corner_offset kind d r k) == d) (list_all (λ x. nat_le x 2) (corner_offset kind d r k)) (offset_at r k h hk));
    small =
        λ r k i h hk.
        all_small (corner_offset kind d r k)
        (and_right (length (corner_offset kind d r k) == d) (list_all (λ x. nat_le x 2) (corner_offset kind d r k)) (offset_at r k h hk)) i;
    own =
        λ r h.
        own_from kind d r
        (and_right (offsets_test r) (has_own_corners kind d r)
        (and_left (offsets_test r && has_own_corners kind d r) (has_flat_sides kind d r) (first_three r h)));
    flat = λ r h. flat_from kind d r (and_right (offsets_test r && has_own_corners kind d r) (has_flat_sides kind d r) (first_three r h));
    even =
        λ r e h he.
        even_from kind d r e
        (all_below (edge_count kind d) (has_even_end kind d r)
        (and_right (offsets_test r && has_own_corners kind d r && has_flat_sides kind d r) (even_test r) (at r h)) e he);
  }

-- ---- the corners of a facet

pub in_facet : (kind : Kind) (d f k : ℕ) → In k (facet_corners kind d f) → (k < corner_count kind d) × (corner_in_facet kind f k ≡ true)
in_facet kind d f k i = let r = from_filter (corner_in_facet kind f) (numbers (corner_count kind d)) k i in (from_In-numbers (corner_count kind d) k r.0, r.1)

pub of_facet : (kind : Kind) (d f k : ℕ) → k < corner_count kind d → corner_in_facet kind f k ≡ true → In k (facet_corners kind d f)
of_facet kind d f k h t = In-filter (corner_in_facet kind f) (numbers (corner_count kind d)) k (In-numbers (corner_count kind d) k h) t
