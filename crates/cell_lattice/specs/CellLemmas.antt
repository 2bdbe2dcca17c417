-- The laws of the canonical cells, of each kind and dimension, by computing.
use Rattle.std.specs.Prelude.{◌≡◌, ℕ, zero, suc, ◌^◌, ◌<◌, ◌≤◌, List, [], ◌∷◌, map, length, All, Bool, true, false, nat_lt, nat_le, ◌==◌, ◌&&◌, ℤ}
use Rattle.std.specs.Prelude.{pos, ◌+ℤ◌, slice_index, slice_index_or}
use Rattle.std.specs.List.{list_all}
use Rattle.std.proofs.Common.{ap, sym, ◌∙◌, refl, arith, get_or}
use Rattle.std.proofs.lemmas.Bool.{eqb-true, ltb-true, leb-true}
use Rattle.std.proofs.lemmas.Int.{ints}
use Rattle.std.proofs.Math.ListN.{get_or-map}
use Rattle.std.proofs.lemmas.Bool.Decides.{nat_tests}
use Rattle.iso_model.specs.declared.Kind.{Kind}
use Rattle.iso_model.specs.declared.Kind.TheVariants.{Cube, Simplex, Pyramid}
use Rattle.lists.specs.Orders.{numbers}
use Rattle.iso_model.specs.Turns.{turn, same_int}
use Rattle.iso_model.specs.Cells.{HasDimension, edges, edge_count, edge_ends, edge_between, corner_count, corner_basis, corner_point, edge_midpoint}
use Rattle.iso_model.specs.Cells.{facet_count, facet_corners, facet_edges, facets_with, corner_in_facet, edge_in_facet}
use Rattle.iso_model.specs.Seams.{Seam, seams, corner_across, edge_across}
use Rattle.iso_model.specs.CellLaws.{HasOwnEdges, MeetsCorners, KeepsEdges, LiesInTwoFacets, edge_direction, SpansAtCorner}
use Rattle.cell_lattice.specs.Agreement.{agree, agree_on}
use Rattle.iso_model.specs.Dimensions.{IsDimension, of_each_cell}
use Rattle.cell_lattice.specs.SeamTables.{seam_at, met_corners, padded}
use Rattle.cell_lattice.specs.Coordinates.{IsCoordinate}
use Rattle.iso_model.specs.Points.{axes}
use Rattle.lists.specs.Bits.{is_set, set_number}
use Rattle.lists.proofs.Tests.{and_left, and_right}

-- the number of seams: one for each axis of a cube or a simplex, and 11 of a pyramid
abbrev pub seam_count : Kind → ℕ → ℕ
seam_count Cube d = d
seam_count Simplex d = d
seam_count Pyramid d = 11

-- a test that each kind of cell passes at each number below a count
abbrev Passes : (Kind → ℕ → ℕ) → (Kind → ℕ → ℕ → Bool) → Kind → ℕ → Type 0
Passes count p kind d = map (p kind d) (numbers (count kind d)) ≡ map (λ _. true) (numbers (count kind d))

each_passes : (count : Kind → ℕ → ℕ) (p : Kind → ℕ → ℕ → Bool) → ((kind : Kind) (d : ℕ) → IsDimension d → HasDimension kind d → Passes count p kind d) →
    (kind : Kind) (d : ℕ) → IsDimension d → HasDimension kind d → (k : ℕ) → k < count kind d → p kind d k ≡ true
each_passes count p passes kind d is has = agree (count kind d) (p kind d) (λ _. true) (passes kind d is has)

-- an edge is found by its ends
pub found_by_ends : (kind : Kind) (d : ℕ) → IsDimension d → HasDimension kind d → (e : ℕ) → e < edge_count kind d
    → edge_between kind d (edge_ends kind d e).0 (edge_ends kind d e).1 ≡ e
found_by_ends kind d is has =
    agree (edge_count kind d) (λ e. edge_between kind d (edge_ends kind d e).0 (edge_ends kind d e).1) (λ e. e)
    (of_each_cell
    (λ k n.
    map (λ e. edge_between k n (edge_ends k n e).0 (edge_ends k n e).1) (numbers (edge_count k n)) ≡ map (λ e. e) (numbers (edge_count k n)))
    refl refl refl refl refl refl refl kind d is has)

pub own_edges : (kind : Kind) (d : ℕ) → IsDimension d → HasDimension kind d → HasOwnEdges kind d
own_edges kind d is has a b in_a in_b same =
    sym (found_by_ends kind d is has a in_a) ∙ ap (λ (p : ℕ × ℕ). edge_between kind d p.0 p.1) same ∙ found_by_ends kind d is has b in_b

pub as_many_edges : (kind : Kind) (d : ℕ) → IsDimension d → HasDimension kind d → length (edges kind d) ≡ edge_count kind d
as_many_edges = of_each_cell (λ k n. length (edges k n) ≡ edge_count k n) refl refl refl refl refl refl refl

-- the ends of an edge are corners, the smaller first
abbrev has_ordered_ends : Kind → ℕ → ℕ → Bool
has_ordered_ends kind d e = nat_lt (edge_ends kind d e).0 (edge_ends kind d e).1 && nat_lt (edge_ends kind d e).1 (corner_count kind d)

pub ordered_ends : (kind : Kind) (d : ℕ) → IsDimension d → HasDimension kind d → (e : ℕ) → e < edge_count kind d
    → ((edge_ends kind d e).0 < (edge_ends kind d e).1) × ((edge_ends kind d e).1 < corner_count kind d)
ordered_ends kind d is has e below =
    let passes : has_ordered_ends kind d e ≡ true =
    each_passes edge_count has_ordered_ends (of_each_cell (Passes edge_count has_ordered_ends) refl refl refl refl refl refl refl) kind d is has e
    below in
    (grind (arith, nat_tests), grind (arith, nat_tests))

pub counted_seams : (kind : Kind) (d : ℕ) → IsDimension d → HasDimension kind d → seam_count kind d ≡ length (seams kind d)
counted_seams = of_each_cell (λ k n. seam_count k n ≡ length (seams k n)) refl refl refl refl refl refl refl

-- a coordinate of a corner
abbrev has_coordinates : Kind → ℕ → ℕ → Bool
has_coordinates kind d k = list_all (λ x. nat_le x 2) (corner_point kind d k) && (length (corner_point kind d k) == d)

all_at : (p : ℕ → Bool) (xs : List ℕ) → list_all p xs ≡ true → (i : ℕ) → i < length xs → p (get_or xs i 0) ≡ true
all_at p [] h i below = absurd (omega (arith, below))
all_at p (x ∷ xs) h zero below = and_left (p x) (list_all p xs) h
all_at p (x ∷ xs) h (suc i) below = all_at p xs (and_right (p x) (list_all p xs) h) i (omega (arith, below))

small_at : (xs : List ℕ) → list_all (λ x. nat_le x 2) xs ≡ true → (i : ℕ) → i < length xs → get_or xs i 0 ≤ 2
small_at xs h i below = let passes : nat_le (get_or xs i 0) 2 ≡ true = all_at (λ x. nat_le x 2) xs h i below in grind (arith, nat_tests)

pub coordinates : (kind : Kind) (d : ℕ) → IsDimension d → HasDimension kind d → (k : ℕ) → k < corner_count kind d → (i : ℕ) → i < d
    → IsCoordinate (slice_index_or (map pos (corner_point kind d k)) i (pos 0))
coordinates kind d is has k below i in_axes =
    let passes : has_coordinates kind d k ≡ true =
    each_passes corner_count has_coordinates (of_each_cell (Passes corner_count has_coordinates) refl refl refl refl refl refl refl) kind d is has
    k below in
    let small : list_all (λ x. nat_le x 2) (corner_point kind d k) ≡ true = and_left _ (length (corner_point kind d k) == d) passes in
    let long : length (corner_point kind d k) ≡ d = eqb-true _ _ (and_right (list_all (λ x. nat_le x 2) (corner_point kind d k)) _ passes) in
    let at : get_or (corner_point kind d k) i 0 ≤ 2 = small_at (corner_point kind d k) small i (omega (arith, long, in_axes)) in
    let is_at : slice_index_or (map pos (corner_point kind d k)) i (pos 0) ≡ pos (get_or (corner_point kind d k) i 0) =
    get_or-map pos (corner_point kind d k) i 0 in
    rw is_at (omega (arith, ints, at), omega (arith, ints, at))

-- the sum of the two ends, axis by axis
abbrev added : Kind → ℕ → ℕ → List ℤ
added kind d e =
    map
    (λ i.
    slice_index_or (map pos (corner_point kind d (edge_ends kind d e).0)) i (pos 0)
    +ℤ slice_index_or (map pos (corner_point kind d (edge_ends kind d e).1)) i (pos 0))
    (axes d)

pub sum_by_axes : (kind : Kind) (d : ℕ) → IsDimension d → HasDimension kind d → (e : ℕ) → e < edge_count kind d →
    map
    (λ i.
    slice_index_or (map pos (corner_point kind d (edge_ends kind d e).0)) i (pos 0)
    +ℤ slice_index_or (map pos (corner_point kind d (edge_ends kind d e).1)) i (pos 0))
    (axes d)
    ≡ map pos (edge_midpoint kind d e)
sum_by_axes kind d is has =
    agree (edge_count kind d) (λ e. added kind d e) (λ e. map pos (edge_midpoint kind d e))
    (of_each_cell (λ q n. map (added q n) (numbers (edge_count q n)) ≡ map (λ e. map pos (edge_midpoint q n e)) (numbers (edge_count q n))) refl
    refl refl refl refl refl refl kind d is has)

pub meets_corners : (kind : Kind) (d : ℕ) → IsDimension d → HasDimension kind d → All (MeetsCorners kind d) (seams kind d)
meets_corners kind d is has =
    agree_on (λ (s : Seam). map (corner_across kind d s) (facet_corners kind d s.facet)) (λ (s : Seam). facet_corners kind d s.other) (seams kind d)
    (of_each_cell
    (λ k n.
    map (λ (s : Seam). map (corner_across k n s) (facet_corners k n s.facet)) (seams k n)
    ≡ map (λ (s : Seam). facet_corners k n s.other) (seams k n))
    refl refl refl refl refl refl refl kind d is has)

pub keeps_edges : (kind : Kind) (d : ℕ) → IsDimension d → HasDimension kind d → All (KeepsEdges kind d) (seams kind d)
keeps_edges kind d is has =
    agree_on (λ (s : Seam). map (edge_across kind d s) (facet_edges kind d s.facet)) (λ (s : Seam). facet_edges kind d s.other) (seams kind d)
    (of_each_cell
    (λ k n.
    map (λ (s : Seam). map (edge_across k n s) (facet_edges k n s.facet)) (seams k n)
    ≡ map (λ (s : Seam). facet_edges k n s.other) (seams k n))
    refl refl refl refl refl refl refl kind d is has)

pub two_facets : (kind : Kind) (d : ℕ) → d ≡ 3 → (e : ℕ) → e < edge_count kind 3 → LiesInTwoFacets kind e
two_facets kind d is = agree (edge_count kind 3) (λ e. length (facets_with kind 3 (e ∷ []))) (λ _. 2) (by_kind kind)
  where
    by_kind : (k : Kind) → map (λ e. length (facets_with k 3 (e ∷ []))) (numbers (edge_count k 3)) ≡ map (λ _. 2) (numbers (edge_count k 3))
    by_kind = elim [ Cube ↦ refl | Simplex ↦ refl | Pyramid ↦ refl ]

pub basis_spans : (kind : Kind) (d : ℕ) → IsDimension d → HasDimension kind d → (k : ℕ) → k < corner_count kind d → SpansAtCorner kind d k
unfolding turn
basis_spans kind d is has k below flat =
    let zero_turn : same_int (turn (map (edge_direction kind d) (corner_basis kind d k))) (pos 0) ≡ true = ap (λ z. same_int z (pos 0)) flat in
    let other = agree (corner_count kind d) (λ c. same_int (turn (map (edge_direction kind d) (corner_basis kind d c))) (pos 0)) (λ _. false)
    (of_each_cell
    (λ q n.
    map (λ c. same_int (turn (map (edge_direction q n) (corner_basis q n c))) (pos 0)) (numbers (corner_count q n))
    ≡ map (λ _. false) (numbers (corner_count q n)))
    refl refl refl refl refl refl refl kind d is has)
    k below in
    absurd (cc)

-- ---- what the calls answer, bit by bit and in range

pub facet_members : (kind : Kind) (d : ℕ) → IsDimension d → HasDimension kind d → (f : ℕ) → f < facet_count kind d → (k : ℕ) → k < corner_count kind d →
    is_set (set_number (facet_corners kind d f)) k ≡ corner_in_facet kind f k
facet_members kind d is has f in_f k in_k =
    agree (corner_count kind d) (is_set (set_number (facet_corners kind d f))) (corner_in_facet kind f)
    (agree (facet_count kind d) (λ g. map (is_set (set_number (facet_corners kind d g))) (numbers (corner_count kind d)))
    (λ g. map (corner_in_facet kind g) (numbers (corner_count kind d)))
    (of_each_cell (λ q n. map (λ g. map (is_set (set_number (facet_corners q n g))) (numbers (corner_count q n))) (numbers (facet_count q n)) ≡ map
    (λ g. map (corner_in_facet q g) (numbers (corner_count q n))) (numbers (facet_count q n))) refl refl refl refl refl refl refl kind d is has) f
    in_f) k in_k

pub facet_edge_members : (kind : Kind) (d : ℕ) → IsDimension d → HasDimension kind d → (f : ℕ) → f < facet_count kind d → (e : ℕ) → e < edge_count kind d →
    is_set (set_number (facet_edges kind d f)) e ≡ edge_in_facet kind d f e
facet_edge_members kind d is has f in_f e in_e =
    agree (edge_count kind d) (is_set (set_number (facet_edges kind d f))) (edge_in_facet kind d f)
    (agree (facet_count kind d) (λ g. map (is_set (set_number (facet_edges kind d g))) (numbers (edge_count kind d)))
    (λ g. map (edge_in_facet kind d g) (numbers (edge_count kind d)))
    (of_each_cell (λ q n. map (λ g. map (is_set (set_number (facet_edges q n g))) (numbers (edge_count q n))) (numbers (facet_count q n)) ≡ map
    (λ g. map (edge_in_facet q n g) (numbers (edge_count q n))) (numbers (facet_count q n))) refl refl refl refl refl refl refl kind d is has) f
    in_f) e in_e

abbrev has_few_corners : Kind → ℕ → ℕ → Bool
has_few_corners kind d f = nat_lt (set_number (facet_corners kind d f)) (2 ^ corner_count kind d)

pub few_corners : (kind : Kind) (d : ℕ) → IsDimension d → HasDimension kind d → (f : ℕ) → f < facet_count kind d
    → set_number (facet_corners kind d f) < 2 ^ corner_count kind d
few_corners kind d is has f below =
    let passes : has_few_corners kind d f ≡ true =
    each_passes facet_count has_few_corners (of_each_cell (Passes facet_count has_few_corners) refl refl refl refl refl refl refl) kind d is has f
    below in
    ltb-true _ _ passes

abbrev has_few_edges : Kind → ℕ → ℕ → Bool
has_few_edges kind d f = nat_lt (set_number (facet_edges kind d f)) (2 ^ edge_count kind d)

pub few_edges : (kind : Kind) (d : ℕ) → IsDimension d → HasDimension kind d → (f : ℕ) → f < facet_count kind d
    → set_number (facet_edges kind d f) < 2 ^ edge_count kind d
few_edges kind d is has f below =
    let passes : has_few_edges kind d f ≡ true =
    each_passes facet_count has_few_edges (of_each_cell (Passes facet_count has_few_edges) refl refl refl refl refl refl refl) kind d is has f
    below in
    ltb-true _ _ passes

abbrev has_basis : Kind → ℕ → ℕ → Bool
has_basis kind d k = list_all (λ e. nat_lt e (edge_count kind d)) (corner_basis kind d k) && (length (corner_basis kind d k) == d)

pub basis_edges : (kind : Kind) (d : ℕ) → IsDimension d → HasDimension kind d → (k : ℕ) → k < corner_count kind d → (i : ℕ) → i < d
    → slice_index (corner_basis kind d k) i < edge_count kind d
basis_edges kind d is has k below i in_axes =
    let passes : has_basis kind d k ≡ true =
    each_passes corner_count has_basis (of_each_cell (Passes corner_count has_basis) refl refl refl refl refl refl refl) kind d is has k below in
    let few : list_all (λ e. nat_lt e (edge_count kind d)) (corner_basis kind d k) ≡ true = and_left _ (length (corner_basis kind d k) == d) passes in
    let long : length (corner_basis kind d k) ≡ d = eqb-true _ _ (and_right (list_all (λ e. nat_lt e (edge_count kind d)) (corner_basis kind d k)) _ passes) in
    ltb-true _ _ (all_at (λ e. nat_lt e (edge_count kind d)) (corner_basis kind d k) few i (omega (arith, long, in_axes)))

abbrev has_facets : Kind → ℕ → ℕ → Bool
has_facets kind d n =
    nat_lt (seam_at kind d n).facet (facet_count kind d) && nat_lt (seam_at kind d n).other (facet_count kind d)
    && nat_le (length (met_corners kind d (seam_at kind d n))) 8
    && list_all (λ k. nat_lt k (corner_count kind d)) (padded 8 (met_corners kind d (seam_at kind d n)))
    && (length (padded 8 (met_corners kind d (seam_at kind d n))) == 8)

-- the facets of a seam, how many corners they have, and the corners
pub record IsInRange (kind : Kind) (d n : ℕ) : Type 0 where
  pub facet : (seam_at kind d n).facet < facet_count kind d
  pub other : (seam_at kind d n).other < facet_count kind d
  pub size : length (met_corners kind d (seam_at kind d n)) ≤ 8
  pub corners : (i : ℕ) → i < 8 → slice_index (padded 8 (met_corners kind d (seam_at kind d n))) i < corner_count kind d

pub seam_in_range : (kind : Kind) (d : ℕ) → IsDimension d → HasDimension kind d → (n : ℕ) → n < seam_count kind d → IsInRange kind d n
seam_in_range kind d is has n below =
    let passes : has_facets kind d n ≡ true =
    each_passes seam_count has_facets (of_each_cell (Passes seam_count has_facets) refl refl refl refl refl refl refl) kind d is has n below in
    let f : Bool = nat_lt (seam_at kind d n).facet (facet_count kind d) in
    let o : Bool = nat_lt (seam_at kind d n).other (facet_count kind d) in
    let s : Bool = nat_le (length (met_corners kind d (seam_at kind d n))) 8 in
    let c : Bool = list_all (λ k. nat_lt k (corner_count kind d)) (padded 8 (met_corners kind d (seam_at kind d n))) in
    let l : Bool = length (padded 8 (met_corners kind d (seam_at kind d n))) == 8 in
    let first_four : (f && o && s && c) ≡ true = and_left (f && o && s && c) l passes in
    let first_three : (f && o && s) ≡ true = and_left (f && o && s) c first_four in
    let long : length (padded 8 (met_corners kind d (seam_at kind d n))) ≡ 8 = eqb-true _ _ (and_right (f && o && s && c) l passes) in
    record {
      facet = ltb-true _ _ (and_left f o (and_left (f && o) s first_three));
      other = ltb-true _ _ (and_right f o (and_left (f && o) s first_three));
      size = leb-true _ _ (and_right (f && o) s first_three);
      corners =
          λ i h.
          ltb-true _ _
          (all_at (λ k. nat_lt k (corner_count kind d)) (padded 8 (met_corners kind d (seam_at kind d n)))
          (and_right (f && o && s) c first_four) i (omega (arith, long, h)));
    }
