-- Edges that are sorted by their midpoints ascend, last coordinate first.
use Rattle.std.proofs.Common.{◌≡◌, ℕ, zero, suc, ◌+◌, ◌-◌, ◌<◌, Bool, true, false, List, [], ◌∷◌, ◌++◌, length, slice_index_or, refl, sym, ap, ◌∙◌}
use Rattle.std.proofs.Common.{subst, arith, inl, inr, Ordering, is_lt, nat_cmp}
use Rattle.std.specs.Prelude.{reverse, nat_lt, ◌&&◌, slice_index, Contains}
use Rattle.std.specs.List.{AllAdjacentBelow, IsDistinct}
use Rattle.std.specs.List.Sorted.{IsSortedByKey}
use Rattle.std.specs.Ordering.{ordering_then}
use Rattle.std.specs.declared.cmp.Ordering.TheVariants.{Less, Equal, Greater}
use Rattle.std.specs.Cmp.Lexicographic.{slice_cmp}
use Rattle.std.proofs.lemmas.Bool.{false≢true, or_cases, and_parts}
use Rattle.std.proofs.lemmas.Bool.Decides.{nat_tests}
use Rattle.std.proofs.lemmas.List.{reverse-append, length-reverse, get_or-reverse, get_or-map, length-map}
use Rattle.std.proofs.lemmas.Map.Keys.{apart_from_distinct}
use Rattle.std.proofs.lemmas.Slice.Eq.{bytes_eq-Decides}
use Rattle.grid_split.specs.declared.split.Edge.{Edge}
use Rattle.lists.specs.Orders.{same_list}
use Rattle.iso_model.specs.Points.{plus, comes_first}
use Rattle.iso_model.specs.Splits as Splits
use Rattle.iso_model.proofs.OrderLaws.{comes_first-total}
use Rattle.split_laws.proofs.Coordinates.{lists_same}
use Rattle.edge_vertex.specs.EdgeValue.{edge_of, edges_of, order_of}
use Rattle.lists.proofs.Tests.{lt_of, of_lt, of_equal}
use Rattle.lists.proofs.Contained.{Contains-at}
use Rattle.iso_model.proofs.PointLaws.{length-plus}

-- ---- sums of points, last coordinate first

pub plus_at : (p q : List ℕ) (i : ℕ) → i < length p → length p ≡ length q → slice_index (plus p q) i ≡ slice_index p i + slice_index q i
plus_at [] q i h l = absurd (omega (arith, h))
plus_at (x ∷ p) [] i h l = absurd (omega (arith, l))
plus_at (x ∷ p) (y ∷ q) zero h l = refl
plus_at (x ∷ p) (y ∷ q) (suc i) h l = plus_at p q i (omega (arith, h)) (omega (arith, l))

pub reversed_is : (d : ℕ) (sum p q : List ℕ) → length sum ≡ d → length p ≡ d → length q ≡ d
    → ((i : ℕ) → i < d → slice_index sum i ≡ slice_index p (d - 1 - i) + slice_index q (d - 1 - i)) → sum ≡ reverse (plus p q)
reversed_is d sum p q ls lp lq at =
    let same : length p ≡ length q = lp ∙ sym lq in
    let whole : length (plus p q) ≡ d = length-plus p q same ∙ lp in
    lists_same sum (reverse (plus p q)) (ls ∙ sym whole ∙ sym (length-reverse (plus p q))) (λ i h.
    let inside : i < d = omega (arith, h, ls) in
    let place : length (plus p q) - 1 - i ≡ d - 1 - i = ap (λ (n : ℕ). n - 1 - i) whole in
    at i inside ∙ sym (plus_at p q (d - 1 - i) (omega (arith, inside, lp)) same) ∙ ap (slice_index (plus p q)) (sym place)
    ∙ sym (get_or-reverse (plus p q) i 0 (omega (arith, inside, whole))))

-- ---- the order of keys

then_case : (o r s : Ordering) → (is_lt r ≡ true → is_lt s ≡ true) → is_lt (ordering_then o r) ≡ true → is_lt (ordering_then o s) ≡ true
then_case Less r s f h = refl
then_case Equal r s f h = f h
then_case Greater r s f h = h

cmp_front : (a b xs ys : List ℕ) → length a ≡ length b → is_lt (slice_cmp nat_cmp a b) ≡ true → is_lt (slice_cmp nat_cmp (a ++ xs) (b ++ ys)) ≡ true
cmp_front [] [] xs ys l h = absurd (false≢true h)
cmp_front [] (y ∷ b) xs ys l h = absurd (omega (arith, l))
cmp_front (x ∷ a) [] xs ys l h = absurd (omega (arith, l))
cmp_front (x ∷ a) (y ∷ b) xs ys l h =
    then_case (nat_cmp x y) (slice_cmp nat_cmp a b) (slice_cmp nat_cmp (a ++ xs) (b ++ ys)) (λ k. cmp_front a b xs ys (omega (arith, l)) k) h

same_then : (z : ℕ) (o : Ordering) → is_lt o ≡ true → is_lt (ordering_then (nat_cmp z z) o) ≡ true
same_then z o h = rw (not_less z, of_equal z z refl) h
  where
    not_less : (n : ℕ) → nat_lt n n ≡ false
    not_less n = grind (arith, nat_tests)

cmp_same : (a : List ℕ) (x y : ℕ) → x < y → is_lt (slice_cmp nat_cmp (a ++ x ∷ []) (a ++ y ∷ [])) ≡ true
cmp_same [] x y h = rw (of_lt x y h) refl
cmp_same (z ∷ a) x y h = same_then z (slice_cmp nat_cmp (a ++ x ∷ []) (a ++ y ∷ [])) (cmp_same a x y h)

pub keys_ordered : (p q : List ℕ) → length p ≡ length q → comes_first p q ≡ true → is_lt (slice_cmp nat_cmp (reverse p) (reverse q)) ≡ true
keys_ordered [] q l h = absurd (false≢true h)
keys_ordered (x ∷ p) [] l h = absurd (false≢true h)
keys_ordered (x ∷ p) (y ∷ q) l h =
    let tails : length p ≡ length q = omega (arith, l) in
    let front : reverse (x ∷ p) ≡ reverse p ++ x ∷ [] = reverse-append (x ∷ []) p in
    let other : reverse (y ∷ q) ≡ reverse q ++ y ∷ [] = reverse-append (y ∷ []) q in
    let ordered : is_lt (slice_cmp nat_cmp (reverse p ++ x ∷ []) (reverse q ++ y ∷ [])) ≡ true =
    elim (or_cases (comes_first p q) (same_list p q && nat_lt x y) h) as (λ _. is_lt (slice_cmp nat_cmp (reverse p ++ x ∷ []) (reverse q ++ y ∷ [])) ≡ true) [
      | inl less ↦ cmp_front (reverse p) (reverse q) (x ∷ []) (y ∷ []) (length-reverse p ∙ tails ∙ sym (length-reverse q)) (keys_ordered p q tails less)
      | inr same ↦
          let parts = and_parts (same_list p q) (nat_lt x y) same in
          let equal : p ≡ q = (bytes_eq-Decides p q).0 parts.0 in
          subst (λ (r : List ℕ). is_lt (slice_cmp nat_cmp (reverse p ++ x ∷ []) (reverse r ++ y ∷ [])) ≡ true) equal
          (cmp_same (reverse p) x y (lt_of x y parts.1))
    ] in
    ap (λ (r : List ℕ). is_lt (slice_cmp nat_cmp r (reverse (y ∷ q)))) front
    ∙ ap (λ (r : List ℕ). is_lt (slice_cmp nat_cmp (reverse p ++ x ∷ []) r)) other ∙ ordered

-- ---- neighbours in a sorted list

pub all_apart : {D : ℕ} (E : Edge D → Edge D → Bool) (ks : List (Edge D)) → ((x y : Edge D) → x ≡ y → E x y ≡ true) → IsDistinct E ks
    → (i j : ℕ) (d : Edge D) → i < j → j < length ks → slice_index_or ks i d ≡ slice_index_or ks j d → ⊥
all_apart E ks itself apart i j d less h e =
    false≢true (sym (apart_from_distinct E ks i j d apart less h) ∙ itself (slice_index_or ks i d) (slice_index_or ks j d) e)

pub record SortedEdges {D : ℕ} (keys : List (Edge D)) : Type 0 where
  pub sorted : IsSortedByKey order_of (slice_cmp nat_cmp) keys
  pub apart : (i j : ℕ) (d : Edge D) → i < j → j < length keys → slice_index_or keys i d ≡ slice_index_or keys j d → ⊥

pub ascends : {D : ℕ} (n : ℕ) (keys : List (Edge D)) → SortedEdges keys → ((e : Splits.Edge) → Contains (edges_of keys) e → length (Splits.midpoint e) ≡ n)
    → ((d e : Splits.Edge) → Contains (edges_of keys) d → Contains (edges_of keys) e → Splits.midpoint d ≡ Splits.midpoint e → d ≡ e)
    → AllAdjacentBelow (λ (d e : Splits.Edge). comes_first (Splits.midpoint d) (Splits.midpoint e) ≡ true) (edges_of keys) (length (edges_of keys))
ascends n [] given wide own k d h = absurd (omega (arith, h))
ascends {D} n (x ∷ keys) given wide own k d h =
    let inside : k + 1 < length (x ∷ keys) = omega (arith, h, length-map (x ∷ keys) (edge_of {D = D})) in
    let a : Edge D = slice_index_or (x ∷ keys) k x in
    let b : Edge D = slice_index_or (x ∷ keys) (k + 1) x in
    let at_a : slice_index_or (edges_of (x ∷ keys)) k d ≡ edge_of a = get_or-map edge_of (x ∷ keys) k x d (omega (arith, inside)) in
    let at_b : slice_index_or (edges_of (x ∷ keys)) (k + 1) d ≡ edge_of b = get_or-map edge_of (x ∷ keys) (k + 1) x d inside in
    let in_a : Contains (edges_of (x ∷ keys)) (edge_of a) =
    subst (Contains (edges_of (x ∷ keys))) at_a (Contains-at (edges_of (x ∷ keys)) k d (omega (arith, h))) in
    let in_b : Contains (edges_of (x ∷ keys)) (edge_of b) = subst (Contains (edges_of (x ∷ keys))) at_b (Contains-at (edges_of (x ∷ keys)) (k + 1) d h) in
    let same : length (Splits.midpoint (edge_of a)) ≡ length (Splits.midpoint (edge_of b)) = wide (edge_of a) in_a ∙ sym (wide (edge_of b) in_b) in
    let sorted : is_lt (slice_cmp nat_cmp (reverse (Splits.midpoint (edge_of b))) (reverse (Splits.midpoint (edge_of a)))) ≡ false =
    given.sorted k x (omega arith) inside in
    let ordered : comes_first (Splits.midpoint (edge_of a)) (Splits.midpoint (edge_of b)) ≡ true =
    elim (comes_first-total (Splits.midpoint (edge_of a)) (Splits.midpoint (edge_of b)) same) as
    (λ _. comes_first (Splits.midpoint (edge_of a)) (Splits.midpoint (edge_of b)) ≡ true) [
      | inl less ↦ less
      | inr (inl equal) ↦
          let one : edge_of a ≡ edge_of b = own (edge_of a) (edge_of b) in_a in_b equal in
          let low : a.low ≡ b.low = ap (λ (e : Splits.Edge). e.low) one in
          let high : a.high ≡ b.high = ap (λ (e : Splits.Edge). e.high) one in
          absurd (given.apart k (k + 1) x (omega arith) inside (λ i. record { low = low i; high = high i }))
      | inr (inr more) ↦ absurd (false≢true (sym sorted ∙ keys_ordered (Splits.midpoint (edge_of b)) (Splits.midpoint (edge_of a)) (sym same) more))
    ] in
    ap (λ (e : Splits.Edge). comes_first (Splits.midpoint e) (Splits.midpoint (slice_index_or (edges_of (x ∷ keys)) (k + 1) d))) at_a
    ∙ ap (λ (e : Splits.Edge). comes_first (Splits.midpoint (edge_of a)) (Splits.midpoint e)) at_b ∙ ordered
