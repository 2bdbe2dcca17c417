-- The points of a grid in quarter-units stand in order, last coordinate first, and so do those of them that pass a test.
use Rattle.std.proofs.Common.{ap, arith, inl, inr, refl, subst, ◌∙◌}
use Rattle.std.proofs.lemmas.Bool.{or_left, or_right}
use Rattle.std.proofs.lemmas.List.Elements.{Contains-append_cases}
use Rattle.std.proofs.lemmas.Slice.Eq.{bytes_eq-Decides}
use Rattle.std.specs.List.{range_with_len}
use Rattle.std.specs.Prelude.{Bool, Contains, List, [], ◌∷◌, ◌++◌, false, true, filter, flat_map, map, nat_lt, suc, zero, ℕ}
use Rattle.std.specs.Prelude.{◌*◌, ◌+◌, ◌-◌, ◌<◌, ◌&&◌, ◌≡◌, if◌then◌else◌}
use Rattle.iso_model.specs.Points.{comes_first}
use Rattle.iso_model.proofs.BipolarLaws.{Contains-flat_map}
use Rattle.iso_model.proofs.OrderLaws.{Earlier}
use Rattle.lists.specs.Members.{AscendsBy}
use Rattle.lists.specs.Orders.{numbers, same_list}
use Rattle.lists.proofs.Contained.{Contains-filter, Contains-head, Contains-tail, from_Contains-map, none_contained}
use Rattle.lists.proofs.MemberLaws.{In_from, above_range}
use Rattle.lists.proofs.Tests.{of_lt}
use Rattle.edge_middles.specs.GridMiddles.{quarter_points}

-- ---- lists that are made of others

pub append_ascends : {X : Type 0} (R : X → X → Type 0) (xs ys : List X) → AscendsBy R xs → AscendsBy R ys
    → ((x y : X) → Contains xs x → Contains ys y → R x y) → AscendsBy R (xs ++ ys)
append_ascends R [] ys a b before = b
append_ascends {X} R (x ∷ xs) ys a b before = (
  λ z c. elim (Contains-append_cases xs ys z c) as (λ _. R x z) [
    | inl m ↦ a.0 z m
    | inr m ↦ before x z (Contains-head x xs) m
  ],
  append_ascends R xs ys a.1 b (λ w y c d. before w y (Contains-tail w x xs c) d),
)

-- lists one after another ascend where each does, and where each member of an earlier one stands before those of a later one
pub flat_map_ascends : {X Y : Type 0} (R : X → X → Type 0) (S : Y → Y → Type 0) (f : X → List Y) (xs : List X) → AscendsBy R xs
    → ((x : X) → AscendsBy S (f x)) → ((x y : X) (a b : Y) → Contains xs x → Contains xs y → R x y → Contains (f x) a → Contains (f y) b → S a b)
    → AscendsBy S (flat_map f xs)
flat_map_ascends R S f [] a each before = tt
flat_map_ascends R S f (x ∷ xs) a each before =
    let later = flat_map_ascends R S f xs a.1 each (λ y z v w i j. before y z v w (Contains-tail y x xs i) (Contains-tail z x xs j)) in
    append_ascends S (f x) (flat_map f xs) (each x) later (λ v w c d.
    let from = Contains-flat_map f xs w d in
    before x from.0 v w (Contains-head x xs) (Contains-tail from.0 x xs from.1) (a.0 from.0 from.1) c from.2)

pub map_ascends : {X Y : Type 0} (R : X → X → Type 0) (S : Y → Y → Type 0) (f : X → Y) (xs : List X)
    → ((x y : X) → Contains xs x → Contains xs y → R x y → S (f x) (f y)) → AscendsBy R xs → AscendsBy S (map f xs)
map_ascends R S f [] keeps a = tt
map_ascends {X} {Y} R S f (x ∷ xs) keeps a = (
  λ z c.
      let from = from_Contains-map f xs z c in
      subst (λ w. S (f x) w) from.2 (keeps x from.0 (Contains-head x xs) (Contains-tail from.0 x xs from.1) (a.0 from.0 from.1)),
  map_ascends R S f xs (λ v w c d r. keeps v w (Contains-tail v x xs c) (Contains-tail w x xs d) r) a.1,
)

-- ---- points

-- a point comes before another
abbrev pub ComesFirst : List ℕ → List ℕ → Type 0
ComesFirst = Earlier (λ p. p)

-- points that pass a test
pub passing_ascend : (p : List ℕ → Bool) (ms : List (List ℕ)) → AscendsBy ComesFirst ms → AscendsBy ComesFirst (filter p ms)
passing_ascend p [] a = tt
passing_ascend p (m ∷ ms) a = elim (p m) as (λ b. AscendsBy ComesFirst (if b then m ∷ filter p ms else filter p ms)) [
  | true ↦ (λ n c. a.0 n (Contains-filter p ms n c), passing_ascend p ms a.1)
  | false ↦ passing_ascend p ms a.1
]

pub first_by_rest : (a b : ℕ) (p q : List ℕ) → comes_first p q ≡ true → comes_first (a ∷ p) (b ∷ q) ≡ true
first_by_rest a b p q e = or_left (comes_first p q) (same_list p q && nat_lt a b) e

pub first_by_head : (a b : ℕ) (p : List ℕ) → a < b → comes_first (a ∷ p) (b ∷ p) ≡ true
first_by_head a b p less =
    or_right (comes_first p p) (same_list p p && nat_lt a b) (ap (λ t. t && nat_lt a b) ((bytes_eq-Decides p p).1 refl) ∙ of_lt a b less)

row_ascends : (rest : List ℕ) (a n : ℕ) → AscendsBy ComesFirst (map (λ c. c ∷ rest) (range_with_len a n))
row_ascends rest a zero = tt
row_ascends rest a (suc n) = (
  λ p c.
      let from = from_Contains-map (λ k. k ∷ rest) (range_with_len (a + 1) n) p c in
      let later : a < from.0 = omega (arith, above_range (a + 1) n from.0 (In_from (range_with_len (a + 1) n) from.0 from.1)) in
      subst (λ q. comes_first (a ∷ rest) q ≡ true) from.2 (first_by_head a from.0 rest later),
  row_ascends rest (a + 1) n,
)

pub points_ascend : (sizes : List ℕ) → AscendsBy ComesFirst (quarter_points sizes)
points_ascend [] = (λ y c. absurd (none_contained y c), tt)
points_ascend (n ∷ sizes) =
    flat_map_ascends ComesFirst ComesFirst (λ rest. map (λ c. c ∷ rest) (numbers (4 * n - 3))) (quarter_points sizes) (points_ascend sizes)
    (λ rest. row_ascends rest 0 (4 * n - 3))
    (λ p q v w i j e c d.
    let one = from_Contains-map (λ k. k ∷ p) (numbers (4 * n - 3)) v c in
    let other = from_Contains-map (λ k. k ∷ q) (numbers (4 * n - 3)) w d in
    subst (λ x. comes_first x w ≡ true) one.2 (subst (λ y. comes_first (one.0 ∷ p) y ≡ true) other.2 (first_by_rest one.0 other.0 p q e)))
