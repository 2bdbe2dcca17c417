-- The cells of one cube have an edge at each point of the cube that can be a midpoint, and at no other, in each split.
use Rattle.std.proofs.Common.{ap, arith, inl, refl, sym, subst, ◌∙◌}
use Rattle.std.proofs.lemmas.Bool.{false≢true}
use Rattle.std.proofs.lemmas.Bool.{leb-true}
use Rattle.std.proofs.lemmas.List.Elements.{All-head, All-tail}
use Rattle.std.proofs.lemmas.Slice.Eq.{bytes_eq-Decides}
use Rattle.std.specs.List.{list_all, list_any}
use Rattle.std.specs.Prelude.{All, Bool, List, [], ◌∷◌, false, true, not, length, map, nat_le, suc, zero, ℕ, ◌&&◌, ◌≤◌, ◌==◌, ◌≡◌, if◌then◌else◌}
use Rattle.iso_model.specs.declared.Kind.{Kind}
use Rattle.iso_model.specs.Cells.{HasDimension, edge_count}
use Rattle.iso_model.specs.Splits.{Edge, cells_per_cube, midpoint}
use Rattle.iso_model.specs.Bipolar.{same_edge}
use Rattle.iso_model.specs.Dimensions.{IsDimension, of_each_cell}
use Rattle.lists.specs.Members.{In}
use Rattle.lists.specs.Orders.{numbers, same_list}
use Rattle.lists.proofs.MemberLaws.{All-from_In, all_In, any_from, from_any, lists_equal, In-flat_map, In-map, In-numbers}
use Rattle.lists.proofs.Tests.{and_left, and_right, equal_of}
use Rattle.edge_middles.specs.Middles.{HasAllMiddles, cube_middles, is_middle}
use Rattle.edge_middles.proofs.MiddlesFound.{squares_at_middles, cubes_at_middles, hypercubes_at_middles, triangles_at_middles}
use Rattle.edge_middles.proofs.MiddlesFound.{tetrahedra_at_middles, four_simplices_at_middles, pyramids_at_middles}
use Rattle.edge_middles.specs.Middles.{HasEdgesAtMiddles, edge_at, edge_from}
use Rattle.edge_middles.specs.MiddleTests.{edges_at_middles, cube_points, has_all_middles, lie_inside}
use Rattle.edge_middles.proofs.MiddlesFound.{squares, cubes, hypercubes, triangles, tetrahedra, four_simplices, pyramids}
use Rattle.edge_middles.proofs.MiddlesFound.{squares_inside, cubes_inside, hypercubes_inside}
use Rattle.edge_middles.proofs.MiddlesFound.{triangles_inside, tetrahedra_inside, four_simplices_inside, pyramids_inside}

all_found : (kind : Kind) (d : ℕ) → IsDimension d → HasDimension kind d → has_all_middles kind d ≡ true
all_found = of_each_cell (λ kind d. has_all_middles kind d ≡ true) squares cubes hypercubes triangles tetrahedra four_simplices pyramids

all_inside : (kind : Kind) (d : ℕ) → IsDimension d → HasDimension kind d → lie_inside kind d ≡ true
all_inside = of_each_cell (λ kind d. lie_inside kind d ≡ true) squares_inside cubes_inside hypercubes_inside triangles_inside
    tetrahedra_inside four_simplices_inside pyramids_inside

-- a point of the cube, by its coordinates
in_cube : (d : ℕ) (p : List ℕ) → length p ≡ d → All (λ c. c ≤ 4) p → In p (cube_points d)
in_cube zero [] e all = inl refl
in_cube zero (c ∷ p) e all = absurd (omega (arith, e))
in_cube (suc d) [] e all = absurd (omega (arith, e))
in_cube (suc d) (c ∷ p) e all =
    let rest = in_cube d p (omega (arith, e)) (All-tail (λ n. n ≤ 4) c p all) in
    let first : c ≤ 4 = All-head (λ n. n ≤ 4) c p all in
    In-flat_map (λ r. map (λ n. n ∷ r) (numbers 5)) (cube_points d) p (c ∷ p) rest
    (In-map (λ n. n ∷ p) (numbers 5) c (In-numbers 5 c (omega arith)))

-- what the test says of a point
by_test : (kind : Kind) (d : ℕ) (p : List ℕ) (b : Bool) → is_middle kind p ≡ b
    → (if b then list_any (same_list p) (cube_middles kind d) else not (list_any (same_list p) (cube_middles kind d))) ≡ true
    → (In p (cube_middles kind d) → is_middle kind p ≡ true) × (is_middle kind p ≡ true → In p (cube_middles kind d))
by_test kind d p true e t = (
  λ m. e,
  λ is.
      let there = from_any (same_list p) (cube_middles kind d) t in
      subst (λ q. In q (cube_middles kind d)) (sym (lists_equal p there.0 there.2)) there.1,
)
by_test kind d p false e t = (
  λ m.
      let there = any_from (same_list p) (cube_middles kind d) p m ((bytes_eq-Decides p p).1 refl) in
      absurd (false≢true (sym (ap not there) ∙ t)),
  λ is. absurd (false≢true (sym e ∙ is)),
)

pub has_all : (kind : Kind) (d : ℕ) → IsDimension d → HasDimension kind d → HasAllMiddles kind d
has_all kind d is fits m =
    let test : (p : List ℕ) → In p (cube_points d)
    → (if is_middle kind p then list_any (same_list p) (cube_middles kind d) else not (list_any (same_list p) (cube_middles kind d))) ≡ true =
    all_In (λ p. if is_middle kind p then list_any (same_list p) (cube_middles kind d) else not (list_any (same_list p) (cube_middles kind d)))
    (cube_points d) (all_found kind d is fits) in (
      λ there.
          let in_it = all_In (λ q. (length q == d) && list_all (λ c. nat_le c 4) q) (cube_middles kind d) (all_inside kind d is fits) m there in
          let long : length m ≡ d = equal_of (length m) d (and_left (length m == d) (list_all (λ c. nat_le c 4) m) in_it) in
          let each = and_right (length m == d) (list_all (λ c. nat_le c 4) m) in_it in
          let small : All (λ c. c ≤ 4) m = All-from_In (λ c. c ≤ 4) m (λ c i. leb-true c 4 (all_In (λ n. nat_le n 4) m each c i)) in
          (long, small, (by_test kind d m (is_middle kind m) refl (test m (in_cube d m long small))).0 there),
      λ can. (by_test kind d m (is_middle kind m) refl (test m (in_cube d m can.0 can.1))).1 can.2,
    )

-- ---- edges by their midpoints

all_at_middles : (kind : Kind) (d : ℕ) → IsDimension d → HasDimension kind d → edges_at_middles kind d ≡ true
all_at_middles = of_each_cell (λ kind d. edges_at_middles kind d ≡ true) squares_at_middles cubes_at_middles hypercubes_at_middles triangles_at_middles
    tetrahedra_at_middles four_simplices_at_middles pyramids_at_middles

pub edges_there : (kind : Kind) (d : ℕ) → IsDimension d → HasDimension kind d → HasEdgesAtMiddles kind d
edges_there kind d is fits rank e low few =
    let by_rank = all_In (λ r. list_all (λ n. same_edge (edge_at (midpoint (edge_from kind d r n))) (edge_from kind d r n)) (numbers (edge_count kind d)))
    (numbers (cells_per_cube kind d)) (all_at_middles kind d is fits) rank (In-numbers (cells_per_cube kind d) rank low) in
    let found : Edge = edge_at (midpoint (edge_from kind d rank e)) in
    let own : Edge = edge_from kind d rank e in
    let same : same_edge found own ≡ true =
    all_In (λ n. same_edge (edge_at (midpoint (edge_from kind d rank n))) (edge_from kind d rank n)) (numbers (edge_count kind d)) by_rank e
    (In-numbers (edge_count kind d) e few) in
    let low = lists_equal found.low own.low (and_left (same_list found.low own.low) (same_list found.high own.high) same) in
    let high = lists_equal found.high own.high (and_right (same_list found.low own.low) (same_list found.high own.high) same) in
    λ i. record { low = low i; high = high i }
