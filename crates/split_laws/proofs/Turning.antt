-- How a turn follows an order of the columns, some of them negated: by a finite test of the order.
use Rattle.std.proofs.Common.{◌≡◌, ℕ, ◌<◌, Bool, true, false, not, ◌&&◌, List, [], ◌∷◌, length, Option, Some, None, refl, ap, sym, ◌∙◌}
use Rattle.std.proofs.Common.{subst, arith, ℤ}
use Rattle.std.specs.Prelude.{map, pos, ◌+ℤ◌, ◌*ℤ◌, neg_ℤ, ◌==◌, slice_index, slice_index_or, nat_lt, if◌then◌else◌}
use Rattle.std.specs.List.{list_all}
use Rattle.std.proofs.Math.IntN.{neg_ℤ-neg_ℤ}
use Rattle.std.proofs.lemmas.Bool.{eqb-true, ltb-true}
use Rattle.std.proofs.lemmas.List.{length-map}
use Rattle.std.proofs.lemmas.Int.{ints}
use Rattle.std.proofs.lemmas.Slice.Eq.{bytes_eq-Decides}
use Rattle.lists.specs.Orders.{orders, is_odd_order, same_list}
use Rattle.iso_model.specs.Points.{axes}
use Rattle.iso_model.specs.Turns.{turn, total, signed, product_along}
use Rattle.split_checks.specs.ColumnTests.{odd_reversals, differs, keeps_parity, keep_first, pull, goes_on, rearranged, turns_well}
use Rattle.lists.proofs.MemberLaws.{at_numbers}
use Rattle.lists.proofs.Tests.{and_left, and_right}
use Rattle.polynomials.proofs.IntLaws.{neg-mul, mul-neg}

-- ---- a sum over a list of orders does not depend on their order

some_is : (a b : List (List ℕ)) → Some a ≡ Some b → a ≡ b
some_is a b h = cc

none_is : (P : Type 0) (a : List (List ℕ)) → None ≡ Some a → P
none_is P a h = cc

module _ (g : List ℕ → ℤ) where
  abbrev sum_over : List (List ℕ) → ℤ
  sum_over xs = total (map g xs)

  pull_case : (x y : List ℕ) (ys zs : List (List ℕ)) → ((ws : List (List ℕ)) → pull x ys ≡ Some ws → sum_over ys ≡ g x +ℤ sum_over ws) → (b : Bool)
      → (b ≡ true → x ≡ y) → (o : Option (List (List ℕ))) → pull x ys ≡ o →
      (if b then Some ys else keep_first y o) ≡ Some zs → sum_over (y ∷ ys) ≡ g x +ℤ sum_over zs
  pull_case x y ys zs later true same o is e = rw (same refl, some_is ys zs e) refl
  pull_case x y ys zs later false same None is e = none_is _ zs e
  pull_case x y ys zs later false same (Some ws) is e =
      let h : sum_over ys ≡ g x +ℤ sum_over ws = later ws is in
      subst (λ (v : List (List ℕ)). g y +ℤ sum_over ys ≡ g x +ℤ sum_over v) (some_is (y ∷ ws) zs e) (omega (arith, ints, h))

  sum-pull : (x : List ℕ) (ys zs : List (List ℕ)) → pull x ys ≡ Some zs → sum_over ys ≡ g x +ℤ sum_over zs
  sum-pull x [] zs e = none_is _ zs e
  sum-pull x (y ∷ ys) zs e = pull_case x y ys zs (λ ws h. sum-pull x ys ws h) (same_list x y) (bytes_eq-Decides x y).0 (pull x ys) refl e

  sum-rearranged_case : (x : List ℕ) (xs ys : List (List ℕ)) → ((zs : List (List ℕ)) → rearranged xs zs ≡ true → sum_over xs ≡ sum_over zs)
      → (o : Option (List (List ℕ))) → pull x ys ≡ o → goes_on (rearranged xs) o ≡ true → g x +ℤ sum_over xs ≡ sum_over ys
  sum-rearranged_case x xs ys later None is h = absurd (cc)
  sum-rearranged_case x xs ys later (Some zs) is h =
      let a : sum_over ys ≡ g x +ℤ sum_over zs = sum-pull x ys zs is in
      let b : sum_over xs ≡ sum_over zs = later zs h in
      omega (arith, ints, a, b)

  pub sum-rearranged : (xs ys : List (List ℕ)) → rearranged xs ys ≡ true → sum_over xs ≡ sum_over ys
  sum-rearranged [] [] h = refl
  sum-rearranged [] (y ∷ ys) h = absurd (cc)
  sum-rearranged (x ∷ xs) ys h = sum-rearranged_case x xs ys (sum-rearranged xs) (pull x ys) refl h

-- ---- signs

-- the sign of a product
signed_product : (a b : Bool) (x y : ℤ) → signed a x *ℤ signed b y ≡ signed (if a then not b else b) (x *ℤ y)
signed_product true true x y = neg-mul x (neg_ℤ y) ∙ ap neg_ℤ (mul-neg x y) ∙ neg_ℤ-neg_ℤ (x *ℤ y)
signed_product true false x y = neg-mul x y
signed_product false true x y = mul-neg x y
signed_product false false x y = refl

signed_twice : (a b : Bool) (x : ℤ) → signed a (signed b x) ≡ signed (differs a b) x
signed_twice true true x = neg_ℤ-neg_ℤ x
signed_twice true false x = refl
signed_twice false b x = refl

signed_sum : (b : Bool) (u v w z : ℤ) → u ≡ signed b v → w ≡ signed b z → u +ℤ w ≡ signed b (v +ℤ z)
signed_sum true u v w z e f = omega (arith, ints, e, f)
signed_sum false u v w z e f = omega (arith, ints, e, f)

signed_zero : (b : Bool) → pos 0 ≡ signed b (pos 0)
signed_zero true = refl
signed_zero false = refl

no_difference : (a b : Bool) → not (differs a b) ≡ true → a ≡ b
no_difference true true h = refl
no_difference true false h = cc
no_difference false true h = cc
no_difference false false h = refl

-- ---- columns in another order: column i of the new rows is column cols i of the old ones, negated where revs i

module _ (d : ℕ) (cols : List ℕ) (revs : List Bool) where
  abbrev pub turned_row : List ℤ → List ℤ
  turned_row row = map (λ i. signed (slice_index_or revs i false) (slice_index_or row (slice_index cols i) (pos 0))) (axes d)

  all_axes : (order : List ℕ) → list_all (λ i. nat_lt i d) order ≡ true → (rows : List (List ℤ)) → length order ≡ length rows →
      product_along (map turned_row rows) order ≡ signed (odd_reversals revs order) (product_along rows (map (slice_index cols) order))
  all_axes [] h [] e = refl
  all_axes [] h (row ∷ rows) e = absurd (omega (arith, e))
  all_axes (i ∷ order) h [] e = absurd (omega (arith, e))
  all_axes (i ∷ order) h (row ∷ rows) e =
      let small : i < d = ltb-true i d (and_left (nat_lt i d) (list_all (λ j. nat_lt j d) order) h) in
      let rest = all_axes order (and_right (nat_lt i d) (list_all (λ j. nat_lt j d) order) h) rows (omega (arith, e)) in
      ap (λ (x : ℤ). x *ℤ product_along (map turned_row rows) order)
      (at_numbers (λ j. signed (slice_index_or revs j false) (slice_index_or row (slice_index cols j) (pos 0))) d i (pos 0) small)
      ∙ ap (λ (y : ℤ). signed (slice_index_or revs i false) (slice_index_or row (slice_index cols i) (pos 0)) *ℤ y) rest
      ∙ signed_product (slice_index_or revs i false) (odd_reversals revs order) (slice_index_or row (slice_index cols i) (pos 0))
      (product_along rows (map (slice_index cols) order))

  module _ (odd : Bool) (rows : List (List ℤ)) (long : length rows ≡ d) where
    abbrev along : List (List ℤ) → List ℕ → ℤ
    along rs o = signed (is_odd_order o) (product_along rs o)

    along_at : (order : List ℕ) → keeps_parity d cols revs odd order ≡ true
        → along (map turned_row rows) order ≡ signed odd (along rows (map (slice_index cols) order))
    along_at order h =
        let small : Bool = list_all (λ i. nat_lt i d) order in
        let many : Bool = length order == d in
        let even : Bool = not (differs (differs (is_odd_order order) (odd_reversals revs order)) (differs odd (is_odd_order (map (slice_index cols) order)))) in
        let two : (small && many) ≡ true = and_left (small && many) even h in
        let as_long : length order ≡ length rows = eqb-true (length order) d (and_right small many two) ∙ sym long in
        let parity : differs (is_odd_order order) (odd_reversals revs order) ≡ differs odd (is_odd_order (map (slice_index cols) order)) =
        no_difference (differs (is_odd_order order) (odd_reversals revs order)) (differs odd (is_odd_order (map (slice_index cols) order)))
        (and_right (small && many) even h) in
        ap (signed (is_odd_order order)) (all_axes order (and_left small many two) rows as_long)
        ∙ signed_twice (is_odd_order order) (odd_reversals revs order) (product_along rows (map (slice_index cols) order))
        ∙ ap (λ (b : Bool). signed b (product_along rows (map (slice_index cols) order))) parity
        ∙ sym (signed_twice odd (is_odd_order (map (slice_index cols) order)) (product_along rows (map (slice_index cols) order)))

    sum_turned : (xs : List (List ℕ)) → list_all (keeps_parity d cols revs odd) xs ≡ true
        → total (map (along (map turned_row rows)) xs) ≡ signed odd (total (map (along rows) (map (map (slice_index cols)) xs)))
    sum_turned [] h = signed_zero odd
    sum_turned (x ∷ xs) h =
        signed_sum odd (along (map turned_row rows) x) (along rows (map (slice_index cols) x)) (total (map (along (map turned_row rows)) xs))
        (total (map (along rows) (map (map (slice_index cols)) xs)))
        (along_at x (and_left (keeps_parity d cols revs odd x) (list_all (keeps_parity d cols revs odd) xs) h))
        (sum_turned xs (and_right (keeps_parity d cols revs odd x) (list_all (keeps_parity d cols revs odd) xs) h))

    -- the turn is the old one, negated where the order of the columns and the negations are odd together
    pub turn_law : turns_well d cols revs odd ≡ true → turn (map turned_row rows) ≡ signed odd (turn rows)
    unfolding turn
    turn_law h =
        ap (λ (n : ℕ). total (map (along (map turned_row rows)) (orders n))) (length-map rows turned_row ∙ long)
        ∙ sum_turned (orders d)
        (and_left (list_all (keeps_parity d cols revs odd) (orders d)) (rearranged (map (map (slice_index cols)) (orders d)) (orders d)) h)
        ∙ ap (signed odd)
        (sum-rearranged (along rows) (map (map (slice_index cols)) (orders d)) (orders d)
        (and_right (list_all (keeps_parity d cols revs odd) (orders d)) (rearranged (map (map (slice_index cols)) (orders d)) (orders d)) h))
        ∙ ap (λ (n : ℕ). signed odd (total (map (along rows) (orders n)))) (sym long)
