-- A grid has fewer than 2^32 edges: the midpoints of different edges have different numbers, and these are small.
use Rattle.std.proofs.Common.{◌≡◌, ℕ, suc, ◌+◌, ◌*◌, ◌/◌, ◌%◌, ◌^◌, ◌<◌, ◌≤◌, Bool, true, false, List, [], ◌∷◌, length, slice_index_or, refl, sym, ap}
use Rattle.std.proofs.Common.{◌∙◌, subst, arith, inl, inr, eqb}
use Rattle.std.specs.Prelude.{map, slice_index, Contains, ◌⊎◌, if◌then◌else◌}
use Rattle.std.specs.List.{list_any}
use native.Mathlib.Nat.{pow-succ'}
use Rattle.std.proofs.lemmas.Bool.{eqb-true}
use Rattle.std.proofs.lemmas.Nat.{div-mul-add, mod-mul-add}
use Rattle.std.proofs.lemmas.List.{get_or-map, length-map}
use Rattle.std.proofs.lemmas.List.Folds.{Any-from_list_any}
use Rattle.std.proofs.lemmas.Map.Keys.{IsDistinct-from_apart}
use Rattle.std.proofs.lemmas.Map.Steps.{length-le_from_distinct_below}
use Rattle.grid_split.specs.declared.split.Edge.{Edge}
use Rattle.grid_split.proofs.CubeNumbers.{product_of}
use Rattle.iso_model.specs.declared.Kind.{Kind}
use Rattle.iso_model.specs.Points.{comes_first}
use Rattle.iso_model.specs.Cells.{HasDimension, corner_count, edge_count, edge_ends}
use Rattle.iso_model.specs.Splits as Splits
use Rattle.iso_model.specs.Splits.{cell_count, cells_per_cube, cube_of, rank_of, corner, corner_offset, edge_of_ends, midpoint}
use Rattle.iso_model.specs.Neighbours.{HasEdge, HaveOwnMidpoints}
use Rattle.iso_model.specs.Values.{product, sample_number}
use Rattle.iso_model.proofs.BipolarLaws.{length-corner, length-edge}
use Rattle.iso_model.specs.Dimensions.{IsDimension}
use Rattle.split_laws.proofs.Coordinates.{lists_same, coordinate, cube_below, cube_in, rank_below}
use Rattle.split_laws.proofs.SplitTheorems.{small_offsets}
use Rattle.mixed_cubes.proofs.OffsetCases.{offset_case}
use Rattle.edge_vertex.specs.EdgeValue.{edge_of, edges_of}
use Rattle.edge_vertex.proofs.EdgeOrder.{plus_at}
use Rattle.lists.proofs.Contained.{Contains-at}
use Rattle.lists.proofs.Tests.{next_below}
use Rattle.iso_model.proofs.CellCounts.{some_axes}

-- ---- places by their numbers

number_in : (sizes x : List ℕ) → length x ≡ length sizes → ((i : ℕ) → i < length sizes → slice_index x i < slice_index sizes i)
    → sample_number sizes x < product sizes
number_in [] x long inside = omega arith
number_in (n ∷ sizes) [] long inside = absurd (omega (arith, long))
number_in (n ∷ sizes) (c ∷ x) long inside =
    let rest : sample_number sizes x < product sizes = number_in sizes x (omega (arith, long)) (λ i h. inside (suc i) (omega (arith, h))) in
    rw (product_of n sizes) (next_below c n (sample_number sizes x) (product sizes) (inside 0 (omega arith)) rest)

number_fixed : (sizes x y : List ℕ) → length x ≡ length sizes → length y ≡ length sizes
    → ((i : ℕ) → i < length sizes → slice_index x i < slice_index sizes i) → ((i : ℕ) → i < length sizes → slice_index y i < slice_index sizes i) →
    sample_number sizes x ≡ sample_number sizes y → x ≡ y
number_fixed [] [] [] lx ly hx hy same = refl
number_fixed [] (c ∷ x) y lx ly hx hy same = absurd (omega (arith, lx))
number_fixed [] [] (e ∷ y) lx ly hx hy same = absurd (omega (arith, ly))
number_fixed (n ∷ sizes) [] y lx ly hx hy same = absurd (omega (arith, lx))
number_fixed (n ∷ sizes) (c ∷ x) [] lx ly hx hy same = absurd (omega (arith, ly))
number_fixed (n ∷ sizes) (c ∷ x) (e ∷ y) lx ly hx hy same =
    let turned : sample_number sizes x * n + c ≡ sample_number sizes y * n + e = omega (arith, same) in
    let hc : c < n = hx 0 (omega arith) in
    let he : e < n = hy 0 (omega arith) in
    let first : c ≡ e = sym (mod-mul-add (sample_number sizes x) n c hc) ∙ ap (λ (v : ℕ). v % n) turned ∙ mod-mul-add (sample_number sizes y) n e he in
    let others : sample_number sizes x ≡ sample_number sizes y =
    sym (div-mul-add (sample_number sizes x) n c hc) ∙ ap (λ (v : ℕ). v / n) turned ∙ div-mul-add (sample_number sizes y) n e he in
    let tails : x ≡ y =
    number_fixed sizes x y (omega (arith, lx)) (omega (arith, ly)) (λ i h. hx (suc i) (omega (arith, h))) (λ i h. hy (suc i) (omega (arith, h)))
    others in
    rw (first, tails) refl

-- ---- midpoints

abbrev doubled : List ℕ → List ℕ
doubled sizes = map (λ n. 2 * n) sizes

abbrev halves : List ℕ → List ℕ
halves m = map (λ c. c / 2) m

product_doubled : (sizes : List ℕ) → product (doubled sizes) ≡ 2 ^ length sizes * product sizes
product_doubled [] = omega arith
product_doubled (n ∷ sizes) =
    product_of (2 * n) (doubled sizes) ∙ ap (λ (p : ℕ). (2 * n) * p) (product_doubled sizes) ∙ regrouped (2 ^ length sizes) (product sizes)
    ∙ ap (λ (t : ℕ). t * (n * product sizes)) (sym (pow-succ' 2 (length sizes))) ∙ ap (λ (p : ℕ). 2 ^ length (n ∷ sizes) * p) (sym (product_of n sizes))
  where
    regrouped : (t p : ℕ) → (2 * n) * (t * p) ≡ (2 * t) * (n * p)
    regrouped t p = grind arith

-- a midpoint lies in the grid, and its coordinates are all even or, in three dimensions, may be all odd
pub record IsMidpoint (sizes m : List ℕ) : Type 0 where
  pub long : length m ≡ length sizes
  pub inside : (i : ℕ) → i < length sizes → slice_index m i / 2 < 2 * slice_index sizes i
  pub parity : ((i : ℕ) → i < length sizes → slice_index m i % 2 ≡ 0) ⊎ ((length sizes ≡ 3) × ((i : ℕ) → i < length sizes → slice_index m i % 2 ≡ 1))

-- the number of a midpoint: odd ones come after the even ones
abbrev number : List ℕ → List ℕ → ℕ
number sizes m = sample_number (doubled sizes) (halves m) + 8 * product sizes * (slice_index m 0 % 2)

halves_inside : (sizes m : List ℕ) → IsMidpoint sizes m → (i : ℕ) → i < length (doubled sizes) → slice_index (halves m) i < slice_index (doubled sizes) i
halves_inside sizes m is i h =
    let below : i < length sizes = omega (arith, h, length-map sizes (λ n. 2 * n)) in
    let half : slice_index (halves m) i ≡ slice_index m i / 2 = get_or-map (λ c. c / 2) m i 0 0 (omega (arith, below, is.long)) in
    let twice : slice_index (doubled sizes) i ≡ 2 * slice_index sizes i = get_or-map (λ n. 2 * n) sizes i 0 0 below in
    let inside : slice_index m i / 2 < 2 * slice_index sizes i = is.inside i below in
    omega (arith, half, twice, inside)

halves_long : (sizes m : List ℕ) → IsMidpoint sizes m → length (halves m) ≡ length (doubled sizes)
halves_long sizes m is = length-map m (λ c. c / 2) ∙ is.long ∙ sym (length-map sizes (λ n. 2 * n))

half_number : (sizes m : List ℕ) → IsMidpoint sizes m → sample_number (doubled sizes) (halves m) < 2 ^ length sizes * product sizes
half_number sizes m is =
    subst (λ (p : ℕ). sample_number (doubled sizes) (halves m) < p) (product_doubled sizes)
    (number_in (doubled sizes) (halves m) (halves_long sizes m is) (halves_inside sizes m is))

sixteen : (d p : ℕ) → IsDimension d → 2 ^ d * p ≤ 16 * p
sixteen d p (inl e) = rw e (omega arith)
sixteen d p (inr (inl e)) = rw e (omega arith)
sixteen d p (inr (inr e)) = rw e (omega arith)

eight_in_three : (d p : ℕ) → d ≡ 3 → 2 ^ d * p ≡ 8 * p
eight_in_three d p e = rw e refl

even_number : (sizes m : List ℕ) → slice_index m 0 % 2 ≡ 0 → number sizes m ≡ sample_number (doubled sizes) (halves m)
even_number sizes m even = ap (λ (b : ℕ). sample_number (doubled sizes) (halves m) + 8 * product sizes * b) even ∙ omega arith

odd_number : (sizes m : List ℕ) → slice_index m 0 % 2 ≡ 1 → number sizes m ≡ sample_number (doubled sizes) (halves m) + 8 * product sizes
odd_number sizes m odd = ap (λ (b : ℕ). sample_number (doubled sizes) (halves m) + 8 * product sizes * b) odd ∙ omega arith

number_few : (sizes m : List ℕ) → IsDimension (length sizes) → product sizes ≤ 134217728 → IsMidpoint sizes m → number sizes m < 2147483648
number_few sizes m d few is =
    let below = half_number sizes m is in
    elim is.parity as (λ _. number sizes m < 2147483648) [
      | inl even ↦
          let first : slice_index m 0 % 2 ≡ 0 = even 0 (some_axes (length sizes) d) in
          omega (arith, even_number sizes m first, below, sixteen (length sizes) (product sizes) d, few)
      | inr odd ↦
          let first : slice_index m 0 % 2 ≡ 1 = odd.1 0 (some_axes (length sizes) d) in
          omega (arith, odd_number sizes m first, below, eight_in_three (length sizes) (product sizes) odd.0, few)
    ]

-- halves and parities fix a midpoint
from_halves : (sizes m n : List ℕ) → IsMidpoint sizes m → IsMidpoint sizes n
    → sample_number (doubled sizes) (halves m) ≡ sample_number (doubled sizes) (halves n)
    → ((i : ℕ) → i < length sizes → slice_index m i % 2 ≡ slice_index n i % 2) → m ≡ n
from_halves sizes m n im jn same parities =
    let equal : halves m ≡ halves n =
    number_fixed (doubled sizes) (halves m) (halves n) (halves_long sizes m im) (halves_long sizes n jn) (halves_inside sizes m im)
    (halves_inside sizes n jn) same in
    lists_same m n (im.long ∙ sym jn.long) (λ i h.
    let below : i < length sizes = omega (arith, h, im.long) in
    let half : slice_index m i / 2 ≡ slice_index n i / 2 =
    sym (get_or-map (λ c. c / 2) m i 0 0 h) ∙ ap (λ (xs : List ℕ). slice_index xs i) equal
    ∙ get_or-map (λ c. c / 2) n i 0 0 (omega (arith, below, jn.long)) in
    let left : slice_index m i % 2 ≡ slice_index n i % 2 = parities i below in
    omega (arith, half, left))

-- the number fixes the midpoint
number_own : (sizes m n : List ℕ) → IsDimension (length sizes) → IsMidpoint sizes m → IsMidpoint sizes n → number sizes m ≡ number sizes n → m ≡ n
number_own sizes m n d im jn same = go im.parity jn.parity
  where
    some : 0 < length sizes
    some = some_axes (length sizes) d

    go : ((i : ℕ) → i < length sizes → slice_index m i % 2 ≡ 0) ⊎ ((length sizes ≡ 3) × ((i : ℕ) → i < length sizes → slice_index m i % 2 ≡ 1))
        → ((i : ℕ) → i < length sizes → slice_index n i % 2 ≡ 0) ⊎ ((length sizes ≡ 3) × ((i : ℕ) → i < length sizes → slice_index n i % 2 ≡ 1))
        → m ≡ n
    go (inl even) (inl other) =
        from_halves sizes m n im jn (sym (even_number sizes m (even 0 some)) ∙ same ∙ even_number sizes n (other 0 some)) (λ i h. even i h ∙ sym (other i h))
    go (inr odd) (inr other) =
        let first = odd_number sizes m (odd.1 0 some) in
        let second = odd_number sizes n (other.1 0 some) in
        from_halves sizes m n im jn (omega (arith, first, second, same)) (λ i h. odd.1 i h ∙ sym (other.1 i h))
    go (inl even) (inr odd) =
        let first = even_number sizes m (even 0 some) in
        let second = odd_number sizes n (odd.1 0 some) in
        absurd (omega (arith, first, second, same, half_number sizes m im, eight_in_three (length sizes) (product sizes) odd.0))
    go (inr odd) (inl even) =
        let first = odd_number sizes m (odd.1 0 some) in
        let second = even_number sizes n (even 0 some) in
        absurd (omega (arith, first, second, same, half_number sizes n jn, eight_in_three (length sizes) (product sizes) odd.0))

-- ---- the midpoints of a grid's edges

sum_of_ends : (p q : List ℕ) (i : ℕ) → i < length p → length p ≡ length q → slice_index (midpoint (edge_of_ends p q)) i ≡ slice_index p i + slice_index q i
sum_of_ends p q i h long = go (comes_first p q)
  where
    go : (b : Bool) → slice_index (midpoint (if b then record { low = p; high = q } else record { low = q; high = p })) i ≡ slice_index p i + slice_index q i
    go true = plus_at p q i h long
    go false = plus_at q p i (omega (arith, h, long)) (sym long) ∙ omega arith

sum_inside : (x a b n : ℕ) → a ≤ 2 → b ≤ 2 → x + 1 < n → ((2 * x + a) + (2 * x + b)) / 2 < 2 * n
sum_inside x a b n ha hb below = omega (arith, ha, hb, below)

sum_even : (x a b : ℕ) → a % 2 ≡ b % 2 → ((2 * x + a) + (2 * x + b)) % 2 ≡ 0
sum_even x a b same = omega (arith, same)

sum_odd : (x a b : ℕ) → a % 2 + b % 2 ≡ 1 → ((2 * x + a) + (2 * x + b)) % 2 ≡ 1
sum_odd x a b one = omega (arith, one)

pub edge_midpoint : (kind : Kind) (sizes : List ℕ) (cell k : ℕ) → IsDimension (length sizes) → HasDimension kind (length sizes)
    → cell < cell_count kind sizes → 0 < cells_per_cube kind (length sizes) →
    (edge_ends kind (length sizes) k).0 < corner_count kind (length sizes) → (edge_ends kind (length sizes) k).1 < corner_count kind (length sizes)
    → IsMidpoint sizes (midpoint (Splits.edge kind sizes cell k))
edge_midpoint kind sizes cell k is has hc some first second =
    let d : ℕ = length sizes in
    let ends = edge_ends kind d k in
    let rank : ℕ = rank_of kind sizes cell in
    let x : List ℕ = cube_of kind sizes cell in
    let a : List ℕ = corner_offset kind d rank ends.0 in
    let b : List ℕ = corner_offset kind d rank ends.1 in
    let m : List ℕ = midpoint (Splits.edge kind sizes cell k) in
    let at : (i : ℕ) → i < d → slice_index m i ≡ (2 * slice_index x i + slice_index a i) + (2 * slice_index x i + slice_index b i) = λ i h.
    sum_of_ends (corner kind sizes cell ends.0) (corner kind sizes cell ends.1) i (omega (arith, h, length-corner kind sizes cell ends.0))
    (length-corner kind sizes cell ends.0 ∙ sym (length-corner kind sizes cell ends.1))
    ∙ ap (λ (c : ℕ). c + slice_index (corner kind sizes cell ends.1) i) (coordinate d (λ i. 2 * slice_index x i + slice_index a i) i h)
    ∙ ap (λ (c : ℕ). (2 * slice_index x i + slice_index a i) + c) (coordinate d (λ i. 2 * slice_index x i + slice_index b i) i h) in
    let below : (i : ℕ) → i < d → slice_index x i + 1 < slice_index sizes i = cube_below sizes (cell / cells_per_cube kind d) (cube_in kind sizes cell hc) in
    let small_a : (i : ℕ) → slice_index a i ≤ 2 = λ i. small_offsets kind d is has rank ends.0 i (rank_below kind sizes cell some) first in
    let small_b : (i : ℕ) → slice_index b i ≤ 2 = λ i. small_offsets kind d is has rank ends.1 i (rank_below kind sizes cell some) second in
    let odd_of : (n : ℕ) → n ≡ 1 → n % 2 ≡ 1 = λ (n : ℕ) (e : n ≡ 1). omega (arith, e) in
    record {
      long = length-edge kind sizes cell k;
      inside = λ i h. rw (at i h) (sum_inside (slice_index x i) (slice_index a i) (slice_index b i) (slice_index sizes i) (small_a i) (small_b i) (below i h));
      parity = elim (offset_case kind d rank ends.0 has) as
          (λ _. ((i : ℕ) → i < d → slice_index m i % 2 ≡ 0) ⊎ ((d ≡ 3) × ((i : ℕ) → i < d → slice_index m i % 2 ≡ 1))) [
            | inl even ↦ elim (offset_case kind d rank ends.1 has) as
                (λ _. ((i : ℕ) → i < d → slice_index m i % 2 ≡ 0) ⊎ ((d ≡ 3) × ((i : ℕ) → i < d → slice_index m i % 2 ≡ 1))) [
                  | inl other ↦
                      inl
                      (λ i h.
                      let ea : slice_index a i % 2 ≡ 0 = even i h in
                      let eb : slice_index b i % 2 ≡ 0 = other i h in
                      rw (at i h) (sum_even (slice_index x i) (slice_index a i) (slice_index b i) (ea ∙ sym eb)))
                  | inr centre ↦
                      inr (
                        centre.0,
                        λ i h.
                            let ea : slice_index a i % 2 ≡ 0 = even i h in
                            let eb : slice_index b i ≡ 1 = centre.1 i (omega (arith, h, centre.0)) in
                            rw (at i h) (sum_odd (slice_index x i) (slice_index a i) (slice_index b i) (omega (arith, ea, eb))),
                      )
                ]
            | inr centre ↦ elim (offset_case kind d rank ends.1 has) as
                (λ _. ((i : ℕ) → i < d → slice_index m i % 2 ≡ 0) ⊎ ((d ≡ 3) × ((i : ℕ) → i < d → slice_index m i % 2 ≡ 1))) [
                  | inl other ↦
                      inr (
                        centre.0,
                        λ i h.
                            let ea : slice_index a i ≡ 1 = centre.1 i (omega (arith, h, centre.0)) in
                            let eb : slice_index b i % 2 ≡ 0 = other i h in
                            rw (at i h) (sum_odd (slice_index x i) (slice_index a i) (slice_index b i) (omega (arith, ea, eb))),
                      )
                  | inr other ↦
                      inl
                      (λ i h.
                      let ea : slice_index a i ≡ 1 = centre.1 i (omega (arith, h, centre.0)) in
                      let eb : slice_index b i ≡ 1 = other.1 i (omega (arith, h, centre.0)) in
                      rw (at i h) (sum_even (slice_index x i) (slice_index a i) (slice_index b i) (ap (λ (n : ℕ). n % 2) (ea ∙ sym eb))))
                ]
          ];
    }

-- ---- different edges of a grid are fewer than 2^32

-- an edge of a cell of the grid
abbrev pub IsGridEdge : Kind → List ℕ → Splits.Edge → Type 0
IsGridEdge kind sizes e = (cell : ℕ) × (cell < cell_count kind sizes) × HasEdge kind sizes cell e

pub grid_edge_midpoint : (kind : Kind) (sizes : List ℕ) (e : Splits.Edge) → IsDimension (length sizes) → HasDimension kind (length sizes)
    → 0 < cells_per_cube kind (length sizes) →
    ((k : ℕ) → k < edge_count kind (length sizes)
    → ((edge_ends kind (length sizes) k).0 < corner_count kind (length sizes))
    × ((edge_ends kind (length sizes) k).1 < corner_count kind (length sizes)))
    →
    IsGridEdge kind sizes e → IsMidpoint sizes (midpoint e)
grid_edge_midpoint kind sizes e is has some ends r =
    let k : ℕ = r.2.0 in
    let here = ends k r.2.1 in
    subst (λ (d : Splits.Edge). IsMidpoint sizes (midpoint d)) r.2.2 (edge_midpoint kind sizes r.0 k is has r.1 some here.0 here.1)

pub few_edges : {D : ℕ} (kind : Kind) (sizes : List ℕ) (keys : List (Edge D)) → IsDimension (length sizes) → product sizes ≤ 134217728
    → HaveOwnMidpoints kind sizes →
    ((e : Splits.Edge) → Contains (edges_of keys) e → IsGridEdge kind sizes e)
    → ((e : Splits.Edge) → Contains (edges_of keys) e → IsMidpoint sizes (midpoint e)) →
    ((i j : ℕ) (d : Edge D) → i < j → j < length keys → slice_index_or keys i d ≡ slice_index_or keys j d → ⊥) → length keys < 4294967296
few_edges kind sizes [] is few own has mid apart = omega arith
few_edges {D} kind sizes (x ∷ keys) is few own has mid apart =
    let numbers_of : List ℕ = map (λ (e : Edge D). number sizes (midpoint (edge_of e))) (x ∷ keys) in
    let bound : length numbers_of ≤ 2147483648 = length-le_from_distinct_below numbers_of 2147483648 (IsDistinct-from_apart eqb numbers_of differ) below in
    omega (arith, bound, length-map (x ∷ keys) (λ (e : Edge D). number sizes (midpoint (edge_of e))))
  where
    member : (i : ℕ) → i < length (x ∷ keys) → Contains (edges_of (x ∷ keys)) (edge_of (slice_index_or (x ∷ keys) i x))
    member i h =
        subst (Contains (edges_of (x ∷ keys))) (get_or-map (edge_of {D = D}) (x ∷ keys) i x (edge_of x) h)
        (Contains-at (edges_of (x ∷ keys)) i (edge_of x) (omega (arith, h, length-map (x ∷ keys) (edge_of {D = D}))))

    numbered : (i d : ℕ) → i < length (x ∷ keys)
        → slice_index_or (map (λ (e : Edge D). number sizes (midpoint (edge_of e))) (x ∷ keys)) i d
        ≡ number sizes (midpoint (edge_of (slice_index_or (x ∷ keys) i x)))
    numbered i d h = get_or-map (λ (e : Edge D). number sizes (midpoint (edge_of e))) (x ∷ keys) i x d h

    same_edges : (i j : ℕ) → i < length (x ∷ keys) → j < length (x ∷ keys)
        → number sizes (midpoint (edge_of (slice_index_or (x ∷ keys) i x))) ≡ number sizes (midpoint (edge_of (slice_index_or (x ∷ keys) j x)))
        → slice_index_or (x ∷ keys) i x ≡ slice_index_or (x ∷ keys) j x
    same_edges i j hi hj same =
        let a : Edge D = slice_index_or (x ∷ keys) i x in
        let b : Edge D = slice_index_or (x ∷ keys) j x in
        let ha = has (edge_of a) (member i hi) in
        let hb = has (edge_of b) (member j hj) in
        let one : edge_of a ≡ edge_of b =
        own ha.0 hb.0 (edge_of a) (edge_of b) ha.1 hb.1 ha.2 hb.2
        (number_own sizes (midpoint (edge_of a)) (midpoint (edge_of b)) is (mid (edge_of a) (member i hi)) (mid (edge_of b) (member j hj))
        same) in
        let low : a.low ≡ b.low = ap (λ (e : Splits.Edge). e.low) one in
        let high : a.high ≡ b.high = ap (λ (e : Splits.Edge). e.high) one in
        λ t. record { low = low t; high = high t }

    differ : (i j d : ℕ) → i < j → j < length (map (λ (e : Edge D). number sizes (midpoint (edge_of e))) (x ∷ keys))
        → eqb (slice_index_or (map (λ (e : Edge D). number sizes (midpoint (edge_of e))) (x ∷ keys)) i d)
        (slice_index_or (map (λ (e : Edge D). number sizes (midpoint (edge_of e))) (x ∷ keys)) j d)
        ≡ false
    differ i j d less hj =
        let inside : j < length (x ∷ keys) = omega (arith, hj, length-map (x ∷ keys) (λ (e : Edge D). number sizes (midpoint (edge_of e)))) in
        let first : i < length (x ∷ keys) = omega (arith, inside, less) in
        let u : ℕ = slice_index_or (map (λ (e : Edge D). number sizes (midpoint (edge_of e))) (x ∷ keys)) i d in
        let w : ℕ = slice_index_or (map (λ (e : Edge D). number sizes (midpoint (edge_of e))) (x ∷ keys)) j d in
        go u w (eqb u w) refl (λ same. apart i j x less inside (same_edges i j first inside (sym (numbered i d first) ∙ same ∙ numbered j d inside)))
      where
        go : (u w : ℕ) (b : Bool) → eqb u w ≡ b → (u ≡ w → ⊥) → b ≡ false
        go u w true e never = absurd (never (eqb-true u w e))
        go u w false e never = refl

    below : (q : ℕ) → list_any (eqb q) (map (λ (e : Edge D). number sizes (midpoint (edge_of e))) (x ∷ keys)) ≡ true → q < 2147483648
    below q h =
        let any = Any-from_list_any (eqb q) (map (λ (e : Edge D). number sizes (midpoint (edge_of e))) (x ∷ keys)) h in
        let k : ℕ = any.0 in
        let inside : k < length (x ∷ keys) =
        let there : any.0 < length (map (λ (e : Edge D). number sizes (midpoint (edge_of e))) (x ∷ keys)) = any.2 in
        omega (arith, there, length-map (x ∷ keys) (λ (e : Edge D). number sizes (midpoint (edge_of e)))) in
        let is_q : q ≡ number sizes (midpoint (edge_of (slice_index_or (x ∷ keys) k x))) = eqb-true q any.1 any.4 ∙ sym any.3 ∙ numbered k any.1 inside in
        let small : number sizes (midpoint (edge_of (slice_index_or (x ∷ keys) k x))) < 2147483648 =
        number_few sizes (midpoint (edge_of (slice_index_or (x ∷ keys) k x))) is few
        (mid (edge_of (slice_index_or (x ∷ keys) k x)) (member k inside)) in
        omega (arith, is_q, small)
