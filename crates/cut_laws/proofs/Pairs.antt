-- The pairs of numbers below a number, and that their list ascends.
use Rattle.std.proofs.Common.{◌≡◌, ℕ, zero, suc, ◌+◌, ◌-◌, ◌<◌, Bool, true, List, [], ◌∷◌, ◌++◌, refl, inl, inr, sym, subst, arith}
use Rattle.std.specs.Prelude.{map, filter, flat_map, Contains, false, if◌then◌else◌}
use Rattle.std.specs.List.{range_with_len}
use Rattle.lists.specs.Orders.{numbers}
use Rattle.lists.specs.Members.{In, IsStrict, AscendsBy}
use Rattle.lists.proofs.Contained.{Contains-filter}
use Rattle.lists.proofs.MemberLaws.{In_from, Contains_from, In-map, from_In-map, In-range, from_In-range, above_range, In-flat_map, from_In-flat_map}
use Rattle.lists.proofs.MemberLaws.{from_In-append}
use Rattle.cut_laws.specs.declared.Link.{Link}
use Rattle.cut_laws.specs.Cuts.{pairs}
use Rattle.cut_laws.specs.CutSteps.{Below}

below_itself : (l : Link) → Below l l → ⊥
below_itself l (inl h) = omega (arith, h)
below_itself l (inr h) = omega (arith, h.1)

below_trans : (j k l : Link) → Below j k → Below k l → Below j l
below_trans j k l (inl a) (inl b) = inl (omega (arith, a, b))
below_trans j k l (inl a) (inr b) = inl (omega (arith, a, b.0))
below_trans j k l (inr a) (inl b) = inl (omega (arith, a.0, b))
below_trans j k l (inr a) (inr b) = inr (omega (arith, a.0, b.0), omega (arith, a.1, b.1))

pub below_strict : IsStrict Below
below_strict = record { irreflexive = below_itself; transitive = below_trans }

-- two lists that ascend, where all of the first stands before all of the second
ascends_joined : (xs ys : List Link) → AscendsBy Below xs → AscendsBy Below ys → ((x y : Link) → Contains xs x → Contains ys y → Below x y)
    → AscendsBy Below (xs ++ ys)
ascends_joined [] ys a b h = b
ascends_joined (x ∷ xs) ys a b h = (
  λ y c. elim (from_In-append xs ys y (In_from (xs ++ ys) y c)) as (λ _. Below x y) [
    | inl i ↦ a.0 y (Contains_from xs y i)
    | inr i ↦ h x y (Contains_from (x ∷ xs) x (inl refl)) (Contains_from ys y i)
  ],
  ascends_joined xs ys a.1 b (λ z y c d. h z y (Contains_from (x ∷ xs) z (inr (In_from xs z c))) d),
)

pub ascends_filter : (p : Link → Bool) (xs : List Link) → AscendsBy Below xs → AscendsBy Below (filter p xs)
ascends_filter p [] a = tt
ascends_filter p (x ∷ xs) a = go (p x) (ascends_filter p xs a.1)
  where
    go : (b : Bool) → AscendsBy Below (filter p xs) → AscendsBy Below (if b then x ∷ filter p xs else filter p xs)
    go true kept = (λ y c. a.0 y (Contains-filter p xs y c), kept)
    go false kept = kept

-- the pairs with this low number
abbrev row : ℕ → ℕ → List Link
row n a = map (λ b. record { low = a; high = b }) (range_with_len (a + 1) (n - (a + 1)))

row_ascends : (a from count : ℕ) → AscendsBy Below (map (λ b. record { low = a; high = b }) (range_with_len from count))
row_ascends a from zero = tt
row_ascends a from (suc count) = (
  λ y c.
      let r = from_In-map (λ b. record { low = a; high = b }) (range_with_len (from + 1) count) y (In_from _ y c) in
      let above = above_range (from + 1) count r.0 r.1 in
      subst (λ (l : Link). Below (record { low = a; high = from }) l) (sym r.2) (inr (refl, omega (arith, above))),
  row_ascends a (from + 1) count,
)

row_members : (n a : ℕ) (l : Link) → In l (row n a) → (l.low ≡ a) × (a < l.high) × (l.high < n)
row_members n a l i =
    let r = from_In-map (λ b. record { low = a; high = b }) (range_with_len (a + 1) (n - (a + 1))) l i in
    let above = above_range (a + 1) (n - (a + 1)) r.0 r.1 in
    let below = from_In-range (a + 1) (n - (a + 1)) r.0 r.1 in
    subst (λ (k : Link). (k.low ≡ a) × (a < k.high) × (k.high < n)) (sym r.2) (refl, omega (arith, above), omega (arith, above, below))

rows_ascend : (n from count : ℕ) → AscendsBy Below (flat_map (row n) (range_with_len from count))
rows_ascend n from zero = tt
rows_ascend n from (suc count) =
    ascends_joined (row n from) (flat_map (row n) (range_with_len (from + 1) count)) (row_ascends from (from + 1) (n - (from + 1)))
    (rows_ascend n (from + 1) count)
    (λ x y c d.
    let first = row_members n from x (In_from (row n from) x c) in
    let r = from_In-flat_map (row n) (range_with_len (from + 1) count) y (In_from _ y d) in
    let later = row_members n r.0 y r.2 in
    let above = above_range (from + 1) count r.0 r.1 in
    inl (omega (arith, first.0, later.0, above)))

pub pairs_ascend : (n : ℕ) → AscendsBy Below (pairs n)
pairs_ascend n = rows_ascend n 0 n

pub pair_members : (n : ℕ) (l : Link) → Contains (pairs n) l → (l.low < l.high) × (l.high < n)
pair_members n l c =
    let r = from_In-flat_map (row n) (numbers n) l (In_from (pairs n) l c) in
    let m = row_members n r.0 l r.2 in
    (omega (arith, m.0, m.1), m.2)

pub member_pairs : (n : ℕ) (l : Link) → l.low < l.high → l.high < n → Contains (pairs n) l
member_pairs n l h b =
    let inside : In l.low (numbers n) = In-range 0 n l.low (omega arith) (omega (arith, h, b)) in
    let high : In l.high (range_with_len (l.low + 1) (n - (l.low + 1))) = In-range (l.low + 1) (n - (l.low + 1)) l.high (omega (arith, h)) (omega (arith, h, b)) in
    Contains_from (pairs n) l (In-flat_map (row n) (numbers n) l.low l inside (In-map (λ b. record { low = l.low; high = b }) (range_with_len (l.low + 1) (n - (l.low + 1))) l.high high))
