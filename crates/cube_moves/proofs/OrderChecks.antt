-- What the orders of two, three and four axes are, by computing.
use Rattle.std.specs.Prelude.{◌≡◌, ℕ, ◌+◌, ◌^◌, ◌<◌, Bool, true, ◌&&◌, ◌==◌, nat_lt, nat_eq, List, map, length, slice_index, Contains}
use Rattle.std.specs.List.{list_all, position_or_len}
use Rattle.std.proofs.Common.{refl, sym, ap, ◌∙◌, subst, arith}
use Rattle.std.proofs.lemmas.Bool.{and_parts, ltb-true, eqb-true}
use Rattle.std.proofs.lemmas.List.FromFn.{length-range_with_len, get_or-range_with_len}
use Rattle.std.proofs.lemmas.List.Sums.{AllPass-from_list_all}
use Rattle.iso_model.specs.Moves.{move_corner}
use Rattle.cube_moves.proofs.MovedBits.{order_alone}
use Rattle.lists.specs.Orders.{numbers, orders}
use Rattle.iso_model.specs.Dimensions.{IsDimension, in_each_dimension}

-- what a test that is passed at all numbers below n says of each
pub each_below : (p : ℕ → Bool) (n : ℕ) → list_all p (numbers n) ≡ true → (k : ℕ) → k < n → p k ≡ true
each_below p n all k h =
    let plain : 0 + k ≡ k = omega arith in
    ap p (sym (get_or-range_with_len 0 n k 0 h ∙ plain)) ∙ AllPass-from_list_all p (numbers n) all k 0 (omega (arith, length-range_with_len 0 n))

-- a test that each order of the axes passes
pub each_order : (p : ℕ → List ℕ → Bool) → list_all (p 2) (orders 2) ≡ true → list_all (p 3) (orders 3) ≡ true → list_all (p 4) (orders 4) ≡ true →
    (d : ℕ) → IsDimension d → (axes : List ℕ) → Contains (orders d) axes → p d axes ≡ true
each_order p two three four =
    in_each_dimension (λ d. (axes : List ℕ) → Contains (orders d) axes → p d axes ≡ true) (pass 2 two) (pass 3 three) (pass 4 four)
  where
    pass : (d : ℕ) → list_all (p d) (orders d) ≡ true → (axes : List ℕ) → Contains (orders d) axes → p d axes ≡ true
    pass d all axes c = subst (λ (xs : List ℕ). p d xs ≡ true) c.2 (AllPass-from_list_all (p d) (orders d) all c.0 axes c.1)

-- the order that takes each axis back
abbrev pub back : ℕ → List ℕ → List ℕ
back d axes = map (λ a. position_or_len (nat_eq a) axes) (numbers d)

abbrev goes_back : ℕ → List ℕ → Bool
goes_back d axes = list_all (λ c. move_corner d (order_alone axes) (move_corner d (order_alone (back d axes)) c) == c) (numbers (2 ^ d))

all_go_back : (d : ℕ) → IsDimension d → (axes : List ℕ) → Contains (orders d) axes → goes_back d axes ≡ true
all_go_back = each_order goes_back refl refl refl

pub goes-back : (d : ℕ) → IsDimension d → (axes : List ℕ) → Contains (orders d) axes → (c : ℕ) → c < 2 ^ d
    → move_corner d (order_alone axes) (move_corner d (order_alone (back d axes)) c) ≡ c
goes-back d is axes o c h =
    eqb-true _ _ (each_below (λ c. move_corner d (order_alone axes) (move_corner d (order_alone (back d axes)) c) == c) (2 ^ d) (all_go_back d is axes o) c h)

-- an order of D axes has D members, each below D
abbrev is_order : ℕ → List ℕ → Bool
is_order d axes = (length axes == d) && list_all (λ i. nat_lt (slice_index axes i) d) (numbers d)

all_are_orders : (d : ℕ) → IsDimension d → (axes : List ℕ) → Contains (orders d) axes → is_order d axes ≡ true
all_are_orders = each_order is_order refl refl refl

pub axis-below : (d : ℕ) → IsDimension d → (axes : List ℕ) → Contains (orders d) axes → (i : ℕ) → i < d → slice_index axes i < d
axis-below d is axes o i h =
    ltb-true (slice_index axes i) d
    (each_below (λ i. nat_lt (slice_index axes i) d) d
    (and_parts (length axes == d) (list_all (λ i. nat_lt (slice_index axes i) d) (numbers d)) (all_are_orders d is axes o)).1 i h)
