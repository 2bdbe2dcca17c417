-- Places of edges in a list that the code holds.
use Rattle.std.proofs.Common.{◌≡◌, ℕ, suc, ◌+◌, ◌<◌, ◌≤◌, Bool, true, false, not, cond, List, [], ◌∷◌, length, Option, Some, None, refl, sym, ap, subst, arith}
use Rattle.std.specs.Prelude.{map, nat_lt}
use Rattle.std.specs.List.{position_or_len}
use Rattle.std.proofs.lemmas.Bool.Decides.{nat_tests}
use Rattle.std.proofs.lemmas.Slice.Eq.{bytes_eq-Decides}
use borrow.Author.Tests.{ltb-true}
use Rattle.grid_split.specs.declared.split.Edge.{Edge}
use Rattle.lists.specs.Orders.{same_list}
use Rattle.iso_model.specs.Bipolar.{same_edge, place_in}
use Rattle.edge_vertex.specs.EdgeValue.{edge_of, edges_of}
use Rattle.lists.proofs.Tests.{same_tests, and_left, and_right}

-- a test carried over a map gives the same place
pub place_same : {A B : Type 0} (E : A → Bool) (S : B → Bool) (f : A → B) → ((y : A) → E y ≡ S (f y)) → (xs : List A)
    → position_or_len E xs ≡ position_or_len S (map f xs)
place_same E S f same [] = refl
place_same E S f same (x ∷ xs) = rw (same x, place_same E S f same xs) refl

-- two edges are the same where their ends are
pub same_ends : {D : ℕ} (x y : Edge D) → same_edge (edge_of x) (edge_of y) ≡ true → x ≡ y
same_ends x y h =
    let low : x.low ≡ y.low = (bytes_eq-Decides x.low y.low).0 (and_left (same_list x.low y.low) (same_list x.high y.high) h) in
    let high : x.high ≡ y.high = (bytes_eq-Decides x.high y.high).0 (and_right (same_list x.low y.low) (same_list x.high y.high) h) in
    λ i. record { low = low i; high = high i }

pub edge_itself : {D : ℕ} (x y : Edge D) → x ≡ y → same_edge (edge_of x) (edge_of y) ≡ true
edge_itself x y e =
    let low : same_list x.low y.low ≡ true = (bytes_eq-Decides x.low y.low).1 (ap (λ (z : Edge _). z.low) e) in
    let high : same_list x.high y.high ≡ true = (bytes_eq-Decides x.high y.high).1 (ap (λ (z : Edge _). z.high) e) in
    rw (low, high) refl

-- a test of equality gives the place of the edge
pub edge_place : {D : ℕ} (E : Edge D → Bool) (x : Edge D) (xs : List (Edge D)) → ((y : Edge D) → E y ≡ true → x ≡ y)
    → ((y : Edge D) → x ≡ y → E y ≡ true) → position_or_len E xs ≡ place_in (edges_of xs) (edge_of x)
edge_place E x xs same itself =
    place_same E (same_edge (edge_of x)) edge_of
    (λ y. same_tests (E y) (same_edge (edge_of x) (edge_of y)) (λ h. edge_itself x y (same y h)) (λ h. itself y (same_ends x y h))) xs

abbrev pub nothing : Option ℕ
nothing = None

-- what a search by place answers
pub found_place : (n len : ℕ) (k : ℕ) → cond (nat_lt n len) (Some n) None ≡ Some k → (k ≡ n) × (k < len)
found_place n len k e = go (nat_lt n len) (λ h. ltb-true n len h) e
  where
    go : (b : Bool) → (b ≡ true → n < len) → cond b (Some n) None ≡ Some k → (k ≡ n) × (k < len)
    go true f h = let same : n ≡ k = cc in (sym same, subst (λ (m : ℕ). m < len) same (f refl))
    go false f h = absurd (cc)

pub no_place : (n len : ℕ) → n ≤ len → cond (nat_lt n len) (Some n) None ≡ nothing → n ≡ len
no_place n len most e = go (nat_lt n len) (λ h. le_of_not n len h) e
  where
    le_of_not : (a b : ℕ) → nat_lt a b ≡ false → b ≤ a
    le_of_not a b h = grind (arith, nat_tests)

    go : (b : Bool) → (b ≡ false → len ≤ n) → cond b (Some n) None ≡ nothing → n ≡ len
    go true f h = absurd (cc)
    go false f h = let least : len ≤ n = f refl in omega (arith, most, least)

pub place_most : {A : Type 0} (E : A → Bool) (xs : List A) → position_or_len E xs ≤ length xs
place_most E [] = omega arith
place_most E (x ∷ xs) = go (E x) (position_or_len E xs) (place_most E xs)
  where
    go : (b : Bool) (m : ℕ) → m ≤ length xs → cond (not b) (1 + m) 0 ≤ suc (length xs)
    go true m h = omega arith
    go false m h = omega (arith, h)
