-- Links in the order of a sort, and the number that a search finds.
use Rattle.std.proofs.Common.{◌≡◌, ℕ, zero, suc, ◌+◌, ◌<◌, Bool, true, false, List, [], ◌∷◌, length, get_or, refl, inl, inr, ap, sym, ◌∙◌, subst, arith}
use Rattle.std.specs.Prelude.{Contains, ◌⊎◌, ◌↔◌, ◌≢◌, ◌==◌, slice_index_or, cond, Result, Ok, Err, MatchResult, ⊤}
use Rattle.std.specs.Ordering.{nat_cmp, ordering_then, is_lt, MatchOrdering}
use Rattle.std.specs.declared.cmp.Ordering.{Ordering}
use Rattle.std.specs.declared.cmp.Ordering.TheVariants.{Less, Equal, Greater}
use Rattle.std.specs.Cmp.{ranks, nat_cmp_is, IsTotalOrder, IsEquivalence, then_total}
use Rattle.std.specs.List.{dedup, dedup_from}
use Rattle.std.specs.List.Sorted.{IsSorted, IsPermutation, IsBinarySearchResult, IsSearchInRange, IsPartitionPoint}
use Rattle.std.proofs.lemmas.Bool.{cases_lt}
use Rattle.std.proofs.lemmas.Cmp.{nat_cmp_total, tied_itself}
use Rattle.std.proofs.lemmas.List.Kept.{Contains-from_dedup, Contains-dedup}
use Rattle.std.proofs.lemmas.List.Sorted.{searchable_from_sorted, Contains-permutation, IsPermutation-sym}
use Rattle.std.proofs.lemmas.List.Sums.{position_or_len_is}
use Rattle.lists.specs.Members.{AscendsBy}
use Rattle.lists.proofs.Contained.{none_contained, Contains-split, Contains-at, Contains-head, Contains-tail}
use Rattle.lists.proofs.Tests.{next_place, equal_of, of_equal, and_left, and_right}
use Rattle.cut_laws.specs.declared.Link.{Link}
use Rattle.cut_laws.specs.Cuts.{same_link, number_in}
use Rattle.cut_laws.specs.CutSteps.{Below}
use Rattle.cut_laws.proofs.Pairs.{below_strict}

-- ---- the order of links

abbrev pub link_cmp : Link → Link → Ordering
link_cmp k l = ordering_then (nat_cmp k.low l.low) (nat_cmp k.high l.high)

link_total : IsTotalOrder link_cmp
link_total = record {
  antisymm = λ x y. both.antisymm (x.low, x.high) (y.low, y.high);
  trans = λ x y z. both.trans (x.low, x.high) (y.low, y.high) (z.low, z.high);
  congr = λ x y z. both.congr (x.low, x.high) (y.low, y.high) (z.low, z.high);
}
  where
    first : IsTotalOrder (λ (x y : ℕ × ℕ). nat_cmp x.0 y.0)
    first = record {
      antisymm = λ x y. nat_cmp_total.antisymm x.0 y.0;
      trans = λ x y z. nat_cmp_total.trans x.0 y.0 z.0;
      congr = λ x y z. nat_cmp_total.congr x.0 y.0 z.0;
    }

    second : IsTotalOrder (λ (x y : ℕ × ℕ). nat_cmp x.1 y.1)
    second = record {
      antisymm = λ x y. nat_cmp_total.antisymm x.1 y.1;
      trans = λ x y z. nat_cmp_total.trans x.1 y.1 z.1;
      congr = λ x y z. nat_cmp_total.congr x.1 y.1 z.1;
    }

    both : IsTotalOrder (λ (x y : ℕ × ℕ). ordering_then (nat_cmp x.0 y.0) (nat_cmp x.1 y.1))
    both = then_total first second

same_numbers : (k l : Link) → k.low ≡ l.low → k.high ≡ l.high → k ≡ l
same_numbers k l p q = subst (λ (z : ℕ). k ≡ record { low = z; high = l.high }) p (subst (λ (z : ℕ). k ≡ record { low = k.low; high = z }) q refl)

-- a link that is not less than another one is that one or comes after it
not_less : (k l : Link) → is_lt (link_cmp l k) ≡ false → Below k l ⊎ (k ≡ l)
not_less k l e = go (nat_cmp l.low k.low) (nat_cmp l.high k.high) (ranks l.low k.low) (ranks l.high k.high) e
  where
    go : (o p : Ordering) → MatchOrdering o (l.low < k.low) (l.low ≡ k.low) (k.low < l.low)
        → MatchOrdering p (l.high < k.high) (l.high ≡ k.high) (k.high < l.high) → is_lt (ordering_then o p) ≡ false → Below k l ⊎ (k ≡ l)
    go Less p a b e = absurd (cc)
    go Equal Less a b e = absurd (cc)
    go Equal Equal a b e = inr (same_numbers k l (sym a) (sym b))
    go Equal Greater a b e = inl (inr (sym a, b))
    go Greater p a b e = inl (inl a)

-- a link that comes before another one: the other one is not less
below_not_less : (k l : Link) → Below k l → is_lt (link_cmp l k) ≡ false
below_not_less k l (inl h) = ap (λ (o : Ordering). is_lt (ordering_then o (nat_cmp l.high k.high))) (sym (nat_cmp_is l.low k.low Greater h))
below_not_less k l (inr h) =
    ap (λ (o : Ordering). is_lt (ordering_then o (nat_cmp l.high k.high))) (sym (nat_cmp_is l.low k.low Equal (sym h.0)))
    ∙ ap is_lt (sym (nat_cmp_is l.high k.high Greater h.1))

tied : (k l : Link) → link_cmp k l ≡ Equal → k ≡ l
tied k l e = go (nat_cmp k.low l.low) (nat_cmp k.high l.high) (ranks k.low l.low) (ranks k.high l.high) e
  where
    go : (o p : Ordering) → MatchOrdering o (k.low < l.low) (k.low ≡ l.low) (l.low < k.low)
        → MatchOrdering p (k.high < l.high) (k.high ≡ l.high) (l.high < k.high) → ordering_then o p ≡ Equal → k ≡ l
    go Less p a b e = absurd (cc)
    go Equal Less a b e = absurd (cc)
    go Equal Equal a b e = same_numbers k l a b
    go Equal Greater a b e = absurd (cc)
    go Greater p a b e = absurd (cc)

-- ---- sorted links without repeats ascend

-- each link is one of those behind it or comes before it
abbrev Rises : List Link → Type 0
Rises [] = ⊤
Rises (x ∷ xs) = ((y : Link) → Contains xs y → Below x y ⊎ (x ≡ y)) × Rises xs

rises_on : (x y z : Link) → Below x y ⊎ (x ≡ y) → Below y z ⊎ (y ≡ z) → Below x z ⊎ (x ≡ z)
rises_on x y z (inl a) (inl b) = inl (below_strict.transitive x y z a b)
rises_on x y z (inl a) (inr b) = inl (subst (Below x) b a)
rises_on x y z (inr a) b = subst (λ (w : Link). Below w z ⊎ (w ≡ z)) (sym a) b

sorted_tail : (x : Link) (xs : List Link) → IsSorted link_cmp (x ∷ xs) → IsSorted link_cmp xs
sorted_tail x xs s k d a b =
    subst (λ (n : ℕ). is_lt (link_cmp (slice_index_or (x ∷ xs) n d) (slice_index_or xs k d)) ≡ false) (sym (next_place k))
    (s (suc k) d (omega arith) (omega (arith, b)))

rises : (xs : List Link) → IsSorted link_cmp xs → Rises xs
rises [] s = tt
rises (x ∷ []) s = (λ y c. absurd (none_contained y c), tt)
rises (x ∷ y ∷ ys) s =
    let more = rises (y ∷ ys) (sorted_tail x (y ∷ ys) s) in
    let first : Below x y ⊎ (x ≡ y) = not_less x y (s 0 x (omega arith) (omega arith)) in (
      λ z c. elim (Contains-split z y ys c) as (λ _. Below x z ⊎ (x ≡ z)) [
        | inl e ↦ subst (λ (w : Link). Below x w ⊎ (x ≡ w)) e first
        | inr m ↦ rises_on x y z first (more.0 z m)
      ],
      more,
    )

same_link_is : (k l : Link) → same_link k l ≡ true → k ≡ l
same_link_is k l e = same_numbers k l (equal_of k.low l.low (and_left (k.low == l.low) (k.high == l.high) e))
    (equal_of k.high l.high (and_right (k.low == l.low) (k.high == l.high) e))

is_same_link : (k l : Link) → k ≡ l → same_link k l ≡ true
is_same_link k l e = subst (λ (m : Link). same_link k m ≡ true) e (rw (of_equal k.low k.low refl) (of_equal k.high k.high refl))

apart : (k l : Link) → same_link k l ≡ false → k ≢ l
apart k l e f = absurd (go (is_same_link k l f))
  where
    go : same_link k l ≡ true → ⊥
    go g = cc

not_same : (k l : Link) → k ≢ l → same_link k l ≡ false
not_same k l n = go (same_link k l) refl
  where
    go : (b : Bool) → same_link k l ≡ b → b ≡ false
    go true e = absurd (n (same_link_is k l e))
    go false e = refl

link_equivalence : IsEquivalence same_link
link_equivalence = record {
  refl = λ x. is_same_link x x refl;
  symm = λ x y. swapped x y (same_link x y) refl;
  congr = λ x y z a. ap (λ (k : Link). same_link k z) (same_link_is x y a);
}
  where
    swapped : (x y : Link) (b : Bool) → same_link x y ≡ b → same_link x y ≡ same_link y x
    swapped x y true e = e ∙ sym (is_same_link y x (sym (same_link_is x y e)))
    swapped x y false e = e ∙ sym (not_same y x (λ f. apart x y e (sym f)))

dedup_ascends : (k : Link) (xs : List Link) → Rises (k ∷ xs) → AscendsBy Below (dedup_from same_link k xs)
dedup_ascends k [] r = (λ y c. absurd (none_contained y c), tt)
dedup_ascends k (x ∷ xs) r =
    go (same_link x k) refl (dedup_ascends k xs (λ y c. r.0 y (Contains-tail y x xs c), r.1.1)) (dedup_ascends x xs r.1)
  where
    from_x : (y : Link) → Contains (dedup_from same_link x xs) y → Below x y ⊎ (x ≡ y)
    from_x y c = elim (Contains-split y x xs (Contains-from_dedup same_link (x ∷ xs) y c)) as (λ _. Below x y ⊎ (x ≡ y)) [
      | inl e ↦ inr e
      | inr m ↦ r.1.0 y m
    ]

    first : x ≢ k → Below k x
    first n = elim (r.0 x (Contains-head x xs)) as (λ _. Below k x) [
      | inl b ↦ b
      | inr e ↦ absurd (n (sym e))
    ]

    before : Below k x → (y : Link) → Below x y ⊎ (x ≡ y) → Below k y
    before b y (inl c) = below_strict.transitive k x y b c
    before b y (inr e) = subst (Below k) e b

    go : (b : Bool) → same_link x k ≡ b → AscendsBy Below (dedup_from same_link k xs) → AscendsBy Below (dedup_from same_link x xs)
        → AscendsBy Below (cond b (dedup_from same_link k xs) (k ∷ dedup_from same_link x xs))
    go true e same other = same
    go false e same other = (λ y c. before (first (apart x k e)) y (from_x y c), other)

pub sorted_once : (xs : List Link) → IsSorted link_cmp xs → AscendsBy Below (dedup same_link xs)
sorted_once [] s = tt
sorted_once (x ∷ xs) s = dedup_ascends x xs (rises (x ∷ xs) s)

pub same_once : (xs : List Link) (l : Link) → Contains (dedup same_link xs) l ↔ Contains xs l
same_once xs l = (Contains-from_dedup same_link xs l, Contains-dedup link_equivalence same_link_is xs l)

-- ---- the number of a link

ascends_places : (ls : List Link) → AscendsBy Below ls → (i j : ℕ) (d : Link) → i < j → j < length ls → Below (get_or ls i d) (get_or ls j d)
ascends_places [] a i j d h l = absurd (omega (arith, l))
ascends_places (x ∷ xs) a i zero d h l = absurd (omega (arith, h))
ascends_places (x ∷ xs) a zero (suc j) d h l = a.0 (get_or xs j d) (Contains-at xs j d (omega (arith, l)))
ascends_places (x ∷ xs) a (suc i) (suc j) d h l = ascends_places xs a.1 i j d (omega (arith, h)) (omega (arith, l))

pub ascends_sorted : (ls : List Link) → AscendsBy Below ls → IsSorted link_cmp ls
ascends_sorted ls a k d h l = below_not_less (slice_index_or ls k d) (slice_index_or ls (k + 1) d) (ascends_places ls a k (k + 1) d (omega arith) l)

-- the link at a place has this number
pub number_at : (ls : List Link) → AscendsBy Below ls → (i : ℕ) (l : Link) → i < length ls → get_or ls i l ≡ l → number_in ls l ≡ i
number_at ls a i l h e =
    position_or_len_is (same_link l) ls i l (omega (arith, h))
    (λ k b. not_same l (get_or ls k l) (λ f.
    below_strict.irreflexive l (subst (λ (m : Link). Below m l) (sym f) (subst (Below (get_or ls k l)) e (ascends_places ls a k i l b h)))))
    (λ _. is_same_link l (get_or ls i l) (sym e))

-- a link that is not among them has their number as its number
pub number_none : (ls : List Link) (l : Link) → (Contains ls l → ⊥) → number_in ls l ≡ length ls
number_none ls l none =
    position_or_len_is (same_link l) ls (length ls) l (omega arith) (λ k w. not_same l (get_or ls k l) (λ f. none (k, w, sym f)))
    (λ w. absurd (omega (arith, w)))

-- what a search says of the number of a link: it is the place that was found, or that of no link
abbrev pub SaysNumber : List Link → Link → Result ℕ ℕ → Type 0
SaysNumber ls l r = MatchResult r (λ i. number_in ls l ≡ i) (λ i. number_in ls l ≡ length ls)

pub searched_number : (ls : List Link) → AscendsBy Below ls → (l : Link) (r : Result ℕ ℕ) → IsSearchInRange r (length ls)
    → IsBinarySearchResult (λ y. link_cmp y l) ls r → SaysNumber ls l r
searched_number ls a l (Ok i) b h = number_at ls a i l b (tied (get_or ls i l) l (h l))
searched_number ls a l (Err i) b h = number_none ls l (λ c. other c.0 c.1 (sym c.2))
  where
    parted : IsPartitionPoint (λ y. link_cmp y l ≡ Less) (λ y. link_cmp y l ≡ Greater) ls i
    parted = h (searchable_from_sorted link_total (λ k. k) ls l (ascends_sorted ls a))

    itself : link_cmp l l ≡ Equal
    itself = tied_itself link_total l

    less_equal : Less ≡ Equal → ⊥
    less_equal e = absurd (cc)

    greater_equal : Greater ≡ Equal → ⊥
    greater_equal e = absurd (cc)

    other : (k : ℕ) → k < length ls → l ≡ get_or ls k l → ⊥
    other k w f = elim (cases_lt k i) as (λ _. ⊥) [
      | inl c ↦ let e : link_cmp l l ≡ Less = subst (λ (m : Link). link_cmp m l ≡ Less) (sym f) (parted.0 k l (omega arith) c) in less_equal (sym e ∙ itself)
      | inr c ↦ let e : link_cmp l l ≡ Greater = subst (λ (m : Link). link_cmp m l ≡ Greater) (sym f) (parted.1 k l (omega (arith, c)) w) in greater_equal (sym e ∙ itself)
    ]

-- links that are sorted and freed of repeats, where the same links were found before, ascend and are the ones that were found
pub ordered_once : (found sorted : List Link) → IsPermutation found sorted → IsSorted link_cmp sorted
    → AscendsBy Below (dedup same_link sorted) × ((l : Link) → Contains (dedup same_link sorted) l ↔ Contains found l)
ordered_once found sorted order up = (
  sorted_once sorted up,
  λ l. (
    λ c. Contains-permutation sorted found l (IsPermutation-sym found sorted order) ((same_once sorted l).0 c),
    λ c. (same_once sorted l).1 (Contains-permutation found sorted l order c),
  ),
)
