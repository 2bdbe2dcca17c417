-- The orders of all members of a list have these members and no others.
use Rattle.std.proofs.Common.{◌≡◌, ℕ, zero, suc, List, [], ◌∷◌, length, refl, sym, subst, arith, inl, inr}
use Rattle.std.specs.Prelude.{map, ◌⊎◌}
use Rattle.lists.specs.Orders.{picks, orders_of}
use Rattle.lists.specs.Members.{In}
use Rattle.lists.proofs.MemberLaws.{from_In-map, from_In-flat_map}

-- a member is picked: it and the others are the members of the list, and the others are one fewer
record IsPicked {X : Type 0} (xs : List X) (p : X × List X) : Type 0 where
  picked : In p.0 xs
  others : (x : X) → In x p.1 → In x xs
  all : (x : X) → In x xs → (x ≡ p.0) ⊎ In x p.1
  count : length xs ≡ suc (length p.1)

-- picks are so
is_picked : {X : Type 0} (xs : List X) (p : X × List X) → In p (picks xs) → IsPicked xs p
is_picked [] p m = absurd m
is_picked {X} (x ∷ xs) p (inl e) =
    subst (λ (q : X × List X). IsPicked (x ∷ xs) q) (sym e) (record { picked = inl refl; others = λ y i. inr i; all = λ y i. i; count = refl })
is_picked {X} (x ∷ xs) p (inr m) =
    let r = from_In-map (λ (q : X × List X). (q.0, x ∷ q.1)) (picks xs) p m in
    subst (λ (q : X × List X). IsPicked (x ∷ xs) q) (sym r.2) (put_before x xs r.0 (is_picked xs r.0 r.1))
  where
    before : (y z : X) (us vs : List X) → (In y us → In y vs) → In y (z ∷ us) → In y (z ∷ vs)
    before y z us vs h (inl s) = inl s
    before y z us vs h (inr j) = inr (h j)

    found : (y z u : X) (us vs : List X) → (In y vs → (y ≡ u) ⊎ In y us) → In y (z ∷ vs) → (y ≡ u) ⊎ In y (z ∷ us)
    found y z u us vs h (inl s) = inr (inl s)
    found y z u us vs h (inr j) = elim (h j) as (λ _. (y ≡ u) ⊎ In y (z ∷ us)) [ inl t ↦ inl t | inr k ↦ inr (inr k) ]

    put_before : (z : X) (zs : List X) (q : X × List X) → IsPicked zs q → IsPicked (z ∷ zs) (q.0, z ∷ q.1)
    put_before z zs q h = record {
      picked = inr h.picked;
      others = λ y i. before y z q.1 zs (h.others y) i;
      all = λ y i. found y z q.0 q.1 zs (h.all y) i;
      count = omega (arith, h.count);
    }

-- an order of n + 1 members begins with a picked one, and an order of the others follows
record IsOrder {X : Type 0} (n : ℕ) (xs r : List X) : Type 0 where
  pick : X × List X
  further : List X
  is_pick : IsPicked xs pick
  is_order : In further (orders_of n pick.1)
  is : r ≡ pick.0 ∷ further

is_ordered : {X : Type 0} (n : ℕ) (xs r : List X) → In r (orders_of (suc n) xs) → IsOrder n xs r
is_ordered {X} n xs r m =
    let a = from_In-flat_map (λ (p : X × List X). map (λ (q : List X). p.0 ∷ q) (orders_of n p.1)) (picks xs) r m in
    let b = from_In-map (λ (q : List X). a.0.0 ∷ q) (orders_of n a.0.1) r a.2 in
    record { pick = a.0; further = b.0; is_pick = is_picked xs a.0 a.1; is_order = b.1; is = b.2 }

-- an order has members of the list
pub order_inside : {X : Type 0} (n : ℕ) (xs r : List X) → In r (orders_of n xs) → (x : X) → In x r → In x xs
order_inside {X} zero xs r (inl e) x i = absurd (subst (λ (l : List X). In x l) e i)
order_inside zero xs r (inr m) x i = absurd m
order_inside {X} (suc n) xs r m x i =
    let o = is_ordered n xs r m in
    by o (λ j. o.is_pick.others x (order_inside n o.pick.1 o.further o.is_order x j)) (subst (λ (l : List X). In x l) o.is i)
  where
    by : (o : IsOrder n xs r) → (In x o.further → In x xs) → In x (o.pick.0 ∷ o.further) → In x xs
    by o later (inl s) = subst (λ (y : X). In y xs) (sym s) o.is_pick.picked
    by o later (inr j) = later j

-- an order of as many members as there are has all of them
pub order_whole : {X : Type 0} (n : ℕ) (xs r : List X) → length xs ≡ n → In r (orders_of n xs) → (x : X) → In x xs → In x r
order_whole zero [] r long m x i = absurd i
order_whole zero (y ∷ xs) r long m x i = absurd (omega (arith, long))
order_whole {X} (suc n) xs r long m x i =
    let o = is_ordered n xs r m in
    subst (λ (l : List X). In x l) (sym o.is)
    (by o (λ j. order_whole n o.pick.1 o.further (omega (arith, long, o.is_pick.count)) o.is_order x j) (o.is_pick.all x i))
  where
    by : (o : IsOrder n xs r) → (In x o.pick.1 → In x o.further) → (x ≡ o.pick.0) ⊎ In x o.pick.1 → In x (o.pick.0 ∷ o.further)
    by o later (inl s) = inl s
    by o later (inr j) = inr (later j)
