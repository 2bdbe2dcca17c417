-- The links found in the simplices, one simplex after the other, and the list of links.
use Rattle.std.proofs.Common.{◌≡◌, ℕ, suc, ◌+◌, ◌*◌, ◌<◌, ◌≤◌, Bool, true, false, List, [], ◌∷◌, length, refl, inl, inr, ap, sym, ◌∙◌, subst, arith}
use Rattle.std.specs.Prelude.{map, count_by, flat_map, Contains, ◌↔◌, ◌&&◌, nat_le, slice_index, if◌then◌else◌}
use Rattle.std.proofs.lemmas.Bool.{and_parts}
use Rattle.std.proofs.lemmas.List.{length-append}
use Rattle.std.proofs.lemmas.List.Sums.{length-filter, count_by-le-length}
use Rattle.lists.specs.Orders.{numbers, has, is_distinct, put_in, sorted}
use Rattle.lists.specs.Members.{In, Ascends, AscendsBy}
use Rattle.lists.proofs.Orderings.{ascends_same}
use Rattle.lists.proofs.DistinctLists.{from_distinct_test}
use Rattle.lists.proofs.Contained.{each-from_All}
use Rattle.lists.proofs.MemberLaws.{In_from, Contains_from, In-map, In-filter, from_filter, In-flat_map, from_In-flat_map, any_from, from_any}
use Rattle.lists.proofs.MemberLaws.{In_of_has, has_of_In, In-numbers}
use Rattle.mesh_laws.proofs.TakenMembers.{In-sorted, from_In-sorted}
use Rattle.mesh_laws.proofs.FaceLists.{sorted_ascends}
use Rattle.cut_laws.specs.declared.Link.{Link}
use Rattle.cut_laws.specs.Cuts.{pairs, is_link, stand_together, links_below, link_at}
use Rattle.cut_laws.specs.CutSteps.{Below, IsSimplex, AreLinks, is_parted, links_in}
use Rattle.cut_laws.proofs.Pairs.{below_strict, pairs_ascend, ascends_filter, pair_members, member_pairs}

-- ---- four numbers in order

pub record FourInOrder (w : List ℕ) : Type 0 where
  pub a : ℕ
  pub b : ℕ
  pub c : ℕ
  pub d : ℕ
  pub is : sorted w ≡ a ∷ b ∷ c ∷ d ∷ []
  pub first : a < b
  pub second : b < c
  pub third : c < d

length-put_in : (x : ℕ) (ys : List ℕ) → length (put_in x ys) ≡ suc (length ys)
length-put_in x [] = refl
length-put_in x (y ∷ ys) = go (nat_le x y) (length-put_in x ys)
  where
    go : (t : Bool) → length (put_in x ys) ≡ suc (length ys) → length (if t then x ∷ y ∷ ys else y ∷ put_in x ys) ≡ suc (suc (length ys))
    go true e = refl
    go false e = ap suc e

length-sorted : (w : List ℕ) → length (sorted w) ≡ length w
length-sorted [] = refl
length-sorted (x ∷ w) = length-put_in x (sorted w) ∙ ap suc (length-sorted w)

as_four : (w s : List ℕ) → sorted w ≡ s → length s ≡ 4 → Ascends s → FourInOrder w
as_four w [] e l h = absurd (omega (arith, l))
as_four w (a ∷ []) e l h = absurd (omega (arith, l))
as_four w (a ∷ b ∷ []) e l h = absurd (omega (arith, l))
as_four w (a ∷ b ∷ c ∷ []) e l h = absurd (omega (arith, l))
as_four w (a ∷ b ∷ c ∷ d ∷ []) e l h = record {
  a = a;
  b = b;
  c = c;
  d = d;
  is = e;
  first = h.0 b (inl refl);
  second = h.1.0 c (inl refl);
  third = h.1.1.0 d (inl refl);
}
as_four w (a ∷ b ∷ c ∷ d ∷ x ∷ s) e l h = absurd (omega (arith, l))

pub four_in_order : (w : List ℕ) → length w ≡ 4 → is_distinct w ≡ true → FourInOrder w
four_in_order w l d = as_four w (sorted w) refl (length-sorted w ∙ l) (sorted_ascends w (from_distinct_test w d))

-- ---- the links of one simplex

-- both ends of a local edge stand in the simplex, in order
pub edge_members : (w : List ℕ) → FourInOrder w → (l : Link) → In l (map (link_at w) (numbers 6)) → In l.low w × In l.high w × (l.low < l.high)
edge_members w f l i = from_sorted (subst (λ (s : List ℕ). In l (six s)) f.is i)
  where
    pair : ℕ → ℕ → Link
    pair x y = record { low = x; high = y }

    six : List ℕ → List Link
    six s = pair (slice_index s 0) (slice_index s 1) ∷ pair (slice_index s 0) (slice_index s 2) ∷ pair (slice_index s 0) (slice_index s 3)
        ∷ pair (slice_index s 1) (slice_index s 2) ∷ pair (slice_index s 1) (slice_index s 3) ∷ pair (slice_index s 2) (slice_index s 3) ∷ []

    stands : (x y : ℕ) → l ≡ pair x y → In x (sorted w) → In y (sorted w) → x < y → In l.low w × In l.high w × (l.low < l.high)
    stands x y e i j h = subst (λ (k : Link). In k.low w × In k.high w × (k.low < k.high)) (sym e) (from_In-sorted x w i, from_In-sorted y w j, h)

    at : (k : ℕ) → In k (f.a ∷ f.b ∷ f.c ∷ f.d ∷ []) → In k (sorted w)
    at k i = subst (λ (s : List ℕ). In k s) (sym f.is) i

    ia : In f.a (sorted w)
    ia = at f.a (inl refl)

    ib : In f.b (sorted w)
    ib = at f.b (inr (inl refl))

    ic : In f.c (sorted w)
    ic = at f.c (inr (inr (inl refl)))

    id : In f.d (sorted w)
    id = at f.d (inr (inr (inr (inl refl))))

    from_sorted : In l (six (f.a ∷ f.b ∷ f.c ∷ f.d ∷ [])) → In l.low w × In l.high w × (l.low < l.high)
    from_sorted (inl e) = stands f.a f.b e ia ib f.first
    from_sorted (inr (inl e)) = stands f.a f.c e ia ic (omega (arith, f.first, f.second))
    from_sorted (inr (inr (inl e))) = stands f.a f.d e ia id (omega (arith, f.first, f.second, f.third))
    from_sorted (inr (inr (inr (inl e)))) = stands f.b f.c e ib ic f.second
    from_sorted (inr (inr (inr (inr (inl e))))) = stands f.b f.d e ib id (omega (arith, f.second, f.third))
    from_sorted (inr (inr (inr (inr (inr (inl e)))))) = stands f.c f.d e ic id f.third
    from_sorted (inr (inr (inr (inr (inr (inr none)))))) = elim none [ ]

-- two numbers of the simplex in order are a local edge
pub members_edge : (w : List ℕ) → FourInOrder w → (l : Link) → In l.low w → In l.high w → l.low < l.high → In l (map (link_at w) (numbers 6))
members_edge w f l i j h =
    found (subst (λ (s : List ℕ). In l.low s) f.is (In-sorted l.low w i)) (subst (λ (s : List ℕ). In l.high s) f.is (In-sorted l.high w j))
  where
    pair : ℕ → ℕ → Link
    pair x y = record { low = x; high = y }

    at : (k : ℕ) (x y : ℕ) → In k (numbers 6) → link_at w k ≡ pair x y → l.low ≡ x → l.high ≡ y → In l (map (link_at w) (numbers 6))
    at k x y i e p q = subst (λ (m : Link). In m (map (link_at w) (numbers 6))) (e ∙ same x y p q) (In-map (link_at w) (numbers 6) k i)
      where
        same : (x y : ℕ) → l.low ≡ x → l.high ≡ y → pair x y ≡ l
        same x y p q = subst (λ (z : ℕ). pair z y ≡ l) p (subst (λ (z : ℕ). pair l.low z ≡ l) q refl)

    edge : (k x y : ℕ) → k < 6 → link_at w k ≡ pair x y → l.low ≡ x → l.high ≡ y → In l (map (link_at w) (numbers 6))
    edge k x y h e p q = at k x y (In-numbers 6 k h) e p q

    place : (i j : ℕ) → pair (slice_index (sorted w) i) (slice_index (sorted w) j) ≡ pair (slice_index (f.a ∷ f.b ∷ f.c ∷ f.d ∷ []) i) (slice_index (f.a ∷ f.b ∷ f.c ∷ f.d ∷ []) j)
    place i j = ap (λ (s : List ℕ). pair (slice_index s i) (slice_index s j)) f.is

    found : In l.low (f.a ∷ f.b ∷ f.c ∷ f.d ∷ []) → In l.high (f.a ∷ f.b ∷ f.c ∷ f.d ∷ []) → In l (map (link_at w) (numbers 6))
    found (inl p) (inl q) = absurd (omega (arith, p, q, h))
    found (inl p) (inr (inl q)) = edge 0 f.a f.b (omega arith) (place 0 1) p q
    found (inl p) (inr (inr (inl q))) = edge 1 f.a f.c (omega arith) (place 0 2) p q
    found (inl p) (inr (inr (inr (inr none)))) = elim none [ ]
    found (inl p) (inr (inr (inr (inl q)))) = edge 2 f.a f.d (omega arith) (place 0 3) p q
    found (inr (inl p)) (inl q) = absurd (omega (arith, p, q, h, f.first))
    found (inr (inl p)) (inr (inl q)) = absurd (omega (arith, p, q, h))
    found (inr (inl p)) (inr (inr (inl q))) = edge 3 f.b f.c (omega arith) (place 1 2) p q
    found (inr (inl p)) (inr (inr (inr (inr none)))) = elim none [ ]
    found (inr (inl p)) (inr (inr (inr (inl q)))) = edge 4 f.b f.d (omega arith) (place 1 3) p q
    found (inr (inr (inl p))) (inl q) = absurd (omega (arith, p, q, h, f.first, f.second))
    found (inr (inr (inl p))) (inr (inl q)) = absurd (omega (arith, p, q, h, f.second))
    found (inr (inr (inl p))) (inr (inr (inl q))) = absurd (omega (arith, p, q, h))
    found (inr (inr (inl p))) (inr (inr (inr (inr none)))) = elim none [ ]
    found (inr (inr (inl p))) (inr (inr (inr (inl q)))) = edge 5 f.c f.d (omega arith) (place 2 3) p q
    found (inr (inr (inr (inl p)))) (inl q) = absurd (omega (arith, p, q, h, f.first, f.second, f.third))
    found (inr (inr (inr (inl p)))) (inr (inl q)) = absurd (omega (arith, p, q, h, f.second, f.third))
    found (inr (inr (inr (inl p)))) (inr (inr (inl q))) = absurd (omega (arith, p, q, h, f.third))
    found (inr (inr (inr (inl p)))) (inr (inr (inr (inl q)))) = absurd (omega (arith, p, q, h))
    found (inr (inr (inr (inl p)))) (inr (inr (inr (inr none)))) = elim none [ ]
    found (inr (inr (inr (inr none)))) _ = elim none [ ]

-- ---- the links of all simplices

module _ (n : ℕ) (late : ℕ → Bool) (simplices : List (List ℕ)) (are : (w : List ℕ) → In w simplices → IsSimplex n w) where
  pub found_is_link : (l : Link) → Contains (flat_map (links_in late) simplices) l → Contains (links_below n late simplices) l
  found_is_link l c =
      let r = from_In-flat_map (links_in late) simplices l (In_from _ l c) in
      let p = from_filter (is_parted late) (map (link_at r.0) (numbers 6)) l r.2 in
      let f = four_in_order r.0 (are r.0 r.1).four (are r.0 r.1).distinct in
      let m = edge_members r.0 f l p.0 in
      let both : (has r.0 l.low && has r.0 l.high) ≡ true = rw (has_of_In r.0 l.low m.0) (has_of_In r.0 l.high m.1) in
      let together : stand_together simplices l.low l.high ≡ true = any_from (λ w. has w l.low && has w l.high) simplices r.0 r.1 both in
      let link : is_link late simplices l ≡ true = rw together p.1 in
      let pair = In_from (pairs n) l (member_pairs n l m.2 (each-from_All (λ k. k < n) r.0 (are r.0 r.1).below l.high (Contains_from r.0 l.high m.1))) in
      Contains_from (links_below n late simplices) l (In-filter (is_link late simplices) (pairs n) l pair link)

  pub link_is_found : (l : Link) → Contains (links_below n late simplices) l → Contains (flat_map (links_in late) simplices) l
  link_is_found l c =
      let p = from_filter (is_link late simplices) (pairs n) l (In_from (links_below n late simplices) l c) in
      let parts = and_parts (stand_together simplices l.low l.high) (is_parted late l) p.1 in
      let r = from_any (λ w. has w l.low && has w l.high) simplices parts.0 in
      let ends = and_parts (has r.0 l.low) (has r.0 l.high) r.2 in
      let f = four_in_order r.0 (are r.0 r.1).four (are r.0 r.1).distinct in
      let order = pair_members n l (Contains_from (pairs n) l p.0) in
      let e = members_edge r.0 f l (In_of_has r.0 l.low ends.0) (In_of_has r.0 l.high ends.1) order.0 in
      let i = In-filter (is_parted late) (map (link_at r.0) (numbers 6)) l e parts.1 in
      Contains_from (flat_map (links_in late) simplices) l (In-flat_map (links_in late) simplices r.0 l r.1 i)

  -- a list that ascends and has the links found in the simplices is the list of links
  pub found_links_are : (ls : List Link) → AscendsBy Below ls → ((l : Link) → Contains ls l ↔ Contains (flat_map (links_in late) simplices) l)
      → ls ≡ links_below n late simplices
  found_links_are ls a same =
      ascends_same Below below_strict ls (links_below n late simplices) a (ascends_filter (is_link late simplices) (pairs n) (pairs_ascend n))
      (λ l. (λ c. found_is_link l ((same l).0 c), λ c. (same l).1 (link_is_found l c)))

-- ---- each link has ends below n

pub link_ends : (n : ℕ) (late : ℕ → Bool) (simplices : List (List ℕ)) (l : Link) → Contains (links_below n late simplices) l
    → (l.low < l.high) × (l.high < n) × (is_parted late l ≡ true)
link_ends n late simplices l c =
    let p = from_filter (is_link late simplices) (pairs n) l (In_from (links_below n late simplices) l c) in
    let parts = and_parts (stand_together simplices l.low l.high) (is_parted late l) p.1 in
    let order = pair_members n l (Contains_from (pairs n) l p.0) in
    (order.0, order.1, parts.1)

-- the links are links in order
pub links_are : (n : ℕ) (late : ℕ → Bool) (simplices : List (List ℕ)) → AreLinks late (links_below n late simplices)
links_are n late simplices = record {
  ascend = ascends_filter (is_link late simplices) (pairs n) (pairs_ascend n);
  parted = λ l c. (link_ends n late simplices l c).2;
}

-- a pair of which both ends are late, or none is, is no link
pub not_parted : (late : ℕ → Bool) (ls : List Link) → AreLinks late ls → (l : Link) → is_parted late l ≡ false → Contains ls l → ⊥
not_parted late ls are l e c = let p = are.parted l c in absurd (cc)

-- each simplex has six edges
pub found_few : (late : ℕ → Bool) (simplices : List (List ℕ)) → length (flat_map (links_in late) simplices) ≤ 6 * length simplices
found_few late [] = omega arith
found_few late (w ∷ ws) =
    let some : length (links_in late w) ≡ count_by (is_parted late) (map (link_at w) (numbers 6)) =
    length-filter (is_parted late) (map (link_at w) (numbers 6)) in
    let six : count_by (is_parted late) (map (link_at w) (numbers 6)) ≤ 6 = count_by-le-length (is_parted late) (map (link_at w) (numbers 6)) in
    omega (arith, length-append (links_in late w) (flat_map (links_in late) ws), some, six, found_few late ws)
