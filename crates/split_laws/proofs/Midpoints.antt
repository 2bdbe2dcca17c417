-- Different edges of a grid have different midpoints: the sum of the two ends tells both.
use Rattle.std.proofs.Common.{◌≡◌, ℕ, zero, suc, ◌+◌, ◌-◌, ◌*◌, ◌<◌, Bool, true, false, ◌&&◌, List, [], ◌∷◌, length, refl, ap, sym, ◌∙◌, subst, arith, inl, inr}
use Rattle.std.specs.Prelude.{◌⊎◌, nat_lt, slice_index, if◌then◌else◌}
use Rattle.std.proofs.lemmas.Bool.{cases_lt, cases_eq}
use Rattle.std.proofs.lemmas.Bool.Decides.{nat_tests}
use Rattle.iso_model.specs.declared.Kind.{Kind}
use Rattle.lists.specs.Orders.{same_list}
use Rattle.iso_model.specs.Points.{point, plus, comes_first}
use Rattle.iso_model.specs.Cells.{edge_count, edge_ends}
use Rattle.iso_model.specs.Splits.{corner_offset, cube_of, rank_of, corner, Edge, edge, edge_of_ends, midpoint}
use Rattle.iso_model.specs.Neighbours.{HaveOwnMidpoints}
use Rattle.split_checks.specs.CornerTests.{even_part}
use Rattle.split_laws.proofs.Coordinates.{coordinate, length-point, lists_same}
use Rattle.split_laws.proofs.Offsets.{OffsetsFit, EvenEnd, equal_lists}
use Rattle.split_laws.proofs.Placement.{below, coordinate_of}
use Rattle.split_laws.proofs.Sharing.{EndsAreCorners}
use Rattle.lists.proofs.MemberLaws.{lists_equal}
use Rattle.iso_model.proofs.PointLaws.{plus_comm}

-- ---- sums of points

pub plus_at : (p q : List ℕ) → length q ≡ length p → (i : ℕ) → i < length p → slice_index (plus p q) i ≡ slice_index p i + slice_index q i
plus_at [] q e i h = absurd (omega (arith, h))
plus_at (x ∷ p) [] e i h = absurd (omega (arith, e))
plus_at (x ∷ p) (y ∷ q) e zero h = refl
plus_at (x ∷ p) (y ∷ q) e (suc i) h = plus_at p q (omega (arith, e)) i (omega (arith, h))

-- ---- the order of two points

not_before_itself : (p : List ℕ) → comes_first p p ≡ false
not_before_itself [] = refl
not_before_itself (x ∷ p) = let apart : nat_lt x x ≡ false = grind (arith, nat_tests) in rw (not_before_itself p, apart) (and_false (same_list p p))
  where
    and_false : (b : Bool) → (b && false) ≡ false
    and_false true = refl
    and_false false = refl

-- one of two different points comes first
abbrev Ordered : List ℕ → List ℕ → Type 0
Ordered p q = (p ≡ q) ⊎ (((comes_first p q ≡ true) × (comes_first q p ≡ false)) ⊎ ((comes_first p q ≡ false) × (comes_first q p ≡ true)))

differ : (p q : List ℕ) → comes_first p q ≡ true → same_list p q ≡ false
differ p q h = go (same_list p q) refl
  where
    go : (b : Bool) → same_list p q ≡ b → b ≡ false
    go true e =
        let same : p ≡ q = lists_equal p q e in
        let clash : comes_first p p ≡ true = subst (λ (x : List ℕ). comes_first p x ≡ true) (sym same) h in
        let no_one = not_before_itself p in absurd (cc)
    go false e = refl

same_back : (p q : List ℕ) → same_list p q ≡ false → same_list q p ≡ false
same_back p q h = go (same_list q p) refl
  where
    go : (b : Bool) → same_list q p ≡ b → b ≡ false
    go true e = let same = equal_lists p q (sym (lists_equal q p e)) in absurd (cc)
    go false e = refl

one_first : (x y : ℕ) (p q : List ℕ) → Ordered p q → Ordered (x ∷ p) (y ∷ q)
one_first x y p q (inl e) =
    let forwards : comes_first p q ≡ false = subst (λ (z : List ℕ). comes_first p z ≡ false) e (not_before_itself p) in
    let backwards : comes_first q p ≡ false = subst (λ (z : List ℕ). comes_first z p ≡ false) e (not_before_itself p) in
    let same : same_list p q ≡ true = equal_lists p q e in
    let same' : same_list q p ≡ true = equal_lists q p (sym e) in
    elim (cases_eq x y) [
      | inl s ↦ inl (rw (s, e) refl)
      | inr apart ↦ (elim (cases_lt x y) [
        | inl less ↦
            (let a : nat_lt x y ≡ true = grind (arith, nat_tests) in
            let b : nat_lt y x ≡ false = grind (arith, nat_tests) in inr (inl (rw (forwards, same, a) refl, rw (backwards, same', b) refl)))
        | inr more ↦
            (let a : nat_lt x y ≡ false = grind (arith, nat_tests) in
            let b : nat_lt y x ≡ true = grind (arith, nat_tests) in inr (inr (rw (forwards, same, a) refl, rw (backwards, same', b) refl)))
      ])
    ]
one_first x y p q (inr (inl o)) = let d : same_list q p ≡ false = same_back p q (differ p q o.0) in inr (inl (rw o.0 refl, rw (o.1, d) refl))
one_first x y p q (inr (inr o)) = let d : same_list p q ≡ false = same_back q p (differ q p o.1) in inr (inr (rw (o.0, d) refl, rw o.1 refl))

ordered : (p q : List ℕ) → length q ≡ length p → Ordered p q
ordered [] [] e = inl refl
ordered [] (y ∷ q) e = absurd (omega (arith, e))
ordered (x ∷ p) [] e = absurd (omega (arith, e))
ordered (x ∷ p) (y ∷ q) e = one_first x y p q (ordered p q (omega (arith, e)))

-- an edge does not depend on the order in which its ends are given
pub either_order : (p q : List ℕ) → length q ≡ length p → edge_of_ends p q ≡ edge_of_ends q p
either_order p q e = elim (ordered p q e) [
  | inl same ↦ rw same refl
  | inr (inl o) ↦ rw (o.0, o.1) refl
  | inr (inr o) ↦ rw (o.0, o.1) refl
]

pub midpoint_of_ends : (p q : List ℕ) → midpoint (edge_of_ends p q) ≡ plus p q
midpoint_of_ends p q = go (comes_first p q)
  where
    ends : List ℕ → List ℕ → Edge
    ends a b = record { low = a; high = b }

    go : (b : Bool) → midpoint (if b then record { low = p; high = q } else record { low = q; high = p }) ≡ plus p q
    go true = refl
    go false = plus_comm q p

-- ---- both ends from their sum

abbrev pub even_end : ℕ → List ℕ → List ℕ
even_end d m = point d (λ i. even_part (slice_index m i))

abbrev pub other_end : ℕ → List ℕ → List ℕ
other_end d m = point d (λ i. slice_index m i - even_part (slice_index m i))

pub told : (d : ℕ) (p q : List ℕ) → length p ≡ d → length q ≡ d → EvenEnd d p q → (p ≡ even_end d (plus p q)) × (q ≡ other_end d (plus p q))
told d p q lp lq even = (
  lists_same p (even_end d (plus p q)) (lp ∙ sym (length-point d (λ i. even_part (slice_index (plus p q) i)))) (λ i h.
      let in_axes : i < d = omega (arith, h, lp) in
      even i in_axes ∙ sym (ap even_part (plus_at p q (lq ∙ sym lp) i h)) ∙ sym (coordinate d (λ j. even_part (slice_index (plus p q) j)) i in_axes)),
  lists_same q (other_end d (plus p q)) (lq ∙ sym (length-point d (λ i. slice_index (plus p q) i - even_part (slice_index (plus p q) i)))) (λ i h.
      let in_axes : i < d = omega (arith, h, lq) in
      let sum_at : slice_index (plus p q) i ≡ slice_index p i + slice_index q i = plus_at p q (lq ∙ sym lp) i (omega (arith, in_axes, lp)) in
      let half : slice_index p i ≡ even_part (slice_index (plus p q) i) = even i in_axes ∙ sym (ap even_part sum_at) in
      let rest : slice_index q i ≡ slice_index (plus p q) i - even_part (slice_index (plus p q) i) = omega (arith, sum_at, half) in
      rest ∙ sym (coordinate d (λ j. slice_index (plus p q) j - even_part (slice_index (plus p q) j)) i in_axes)),
)

module _ (kind : Kind) (sizes : List ℕ) (fit : OffsetsFit kind (length sizes)) (ends_in : EndsAreCorners kind (length sizes)) where
  -- ends told by their sum, moved to their cube
  even_corner : (c a b : ℕ)
      → EvenEnd (length sizes) (corner_offset kind (length sizes) (rank_of kind sizes c) a)
      (corner_offset kind (length sizes) (rank_of kind sizes c) b)
      → EvenEnd (length sizes) (corner kind sizes c a) (corner kind sizes c b)
  even_corner c a b even i h = omega (arith, even i h, coordinate_of kind sizes fit c a i h, coordinate_of kind sizes fit c b i h)

  long_corner : (c k : ℕ) → length (corner kind sizes c k) ≡ length sizes
  long_corner c k =
      length-point (length sizes)
      (λ i. 2 * slice_index (cube_of kind sizes c) i + slice_index (corner_offset kind (length sizes) (rank_of kind sizes c) k) i)

  pub edge_told : (c n : ℕ) → n < edge_count kind (length sizes) →
      edge kind sizes c n ≡ edge_of_ends (even_end (length sizes) (midpoint (edge kind sizes c n))) (other_end (length sizes) (midpoint (edge kind sizes c n)))
  edge_told c n hn =
      let a = (edge_ends kind (length sizes) n).0 in
      let b = (edge_ends kind (length sizes) n).1 in
      let sum_is : midpoint (edge kind sizes c n) ≡ plus (corner kind sizes c a) (corner kind sizes c b) =
      midpoint_of_ends (corner kind sizes c a) (corner kind sizes c b) in
      elim (fit.even (rank_of kind sizes c) n (below kind sizes fit c) hn) [
        | inl even ↦ (let both_ends = told (length sizes) (corner kind sizes c a) (corner kind sizes c b) (long_corner c a) (long_corner c b)
            (even_corner c a b even) in
            let first : corner kind sizes c a ≡ even_end (length sizes) (midpoint (edge kind sizes c n)) =
            both_ends.0 ∙ ap (even_end (length sizes)) (sym sum_is) in
            let second : corner kind sizes c b ≡ other_end (length sizes) (midpoint (edge kind sizes c n)) =
            both_ends.1 ∙ ap (other_end (length sizes)) (sym sum_is) in
            ap (λ (p : List ℕ). edge_of_ends p (corner kind sizes c b)) first
            ∙ ap (λ (q : List ℕ). edge_of_ends (even_end (length sizes) (midpoint (edge kind sizes c n))) q) second)
        | inr even ↦ (let both_ends = told (length sizes) (corner kind sizes c b) (corner kind sizes c a) (long_corner c b) (long_corner c a)
            (even_corner c b a even) in
            let swapped : plus (corner kind sizes c b) (corner kind sizes c a) ≡ midpoint (edge kind sizes c n) =
            plus_comm (corner kind sizes c b) (corner kind sizes c a) ∙ sym sum_is in
            let first : corner kind sizes c b ≡ even_end (length sizes) (midpoint (edge kind sizes c n)) = both_ends.0 ∙ ap (even_end (length sizes)) swapped in
            let second : corner kind sizes c a ≡ other_end (length sizes) (midpoint (edge kind sizes c n)) =
            both_ends.1 ∙ ap (other_end (length sizes)) swapped in
            either_order (corner kind sizes c a) (corner kind sizes c b) (long_corner c b ∙ sym (long_corner c a))
            ∙ ap (λ (p : List ℕ). edge_of_ends p (corner kind sizes c a)) first
            ∙ ap (λ (q : List ℕ). edge_of_ends (even_end (length sizes) (midpoint (edge kind sizes c n))) q) second)
      ]

  pub have_own_midpoints : HaveOwnMidpoints kind sizes
  have_own_midpoints c d x y hc hd has_x has_y same =
      let x_told : x ≡ edge_of_ends (even_end (length sizes) (midpoint x)) (other_end (length sizes) (midpoint x)) =
      subst (λ (z : Edge). z ≡ edge_of_ends (even_end (length sizes) (midpoint z)) (other_end (length sizes) (midpoint z))) has_x.2
      (edge_told c has_x.0 has_x.1) in
      let y_told : y ≡ edge_of_ends (even_end (length sizes) (midpoint y)) (other_end (length sizes) (midpoint y)) =
      subst (λ (z : Edge). z ≡ edge_of_ends (even_end (length sizes) (midpoint z)) (other_end (length sizes) (midpoint z))) has_y.2
      (edge_told d has_y.0 has_y.1) in
      x_told ∙ ap (λ (m : List ℕ). edge_of_ends (even_end (length sizes) m) (other_end (length sizes) m)) same ∙ sym y_told
