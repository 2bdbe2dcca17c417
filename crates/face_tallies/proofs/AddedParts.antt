-- How parts add up.
use borrow.Author.Differences.{up, down}
use Rattle.std.specs.Prelude.{◌≡◌, ◌≢◌, ◌⊎◌, ℕ, zero, suc, ◌+◌, ◌-◌, ◌*◌, ◌^◌, ◌<◌, ◌≤◌, ℤ, pos, ◌+ℤ◌, ◌-ℤ◌, unsigned_abs, Bool, true, false, ◌&&◌}
use Rattle.std.specs.Prelude.{◌==◌, nat_lt, List, [], ◌∷◌, ◌++◌, map, length, take, sum_by, slice_index_or, slice_set, All, IsPermutation}
use Rattle.std.specs.Prelude.{if◌then◌else◌}
use Rattle.std.specs.List.{AllAdjacentBelow, range_with_len}
use Rattle.std.specs.List.Sorted.{IsNonDecreasingBy}
use Rattle.std.proofs.Common.{refl, sym, ap, ◌∙◌, subst, arith, inl, inr}
use Rattle.std.proofs.lemmas.Int.{ints}
use Rattle.std.proofs.lemmas.Bool.{cases_eq, cases_lt, and_parts, and_from, eqb-true, eq-eqb, both_ways}
use Rattle.std.proofs.lemmas.Bool.Decides.{nat_tests}
use Rattle.std.proofs.lemmas.List.{take_more, length-set, length_push, get_or-set_same, get_or-set_other, get_or_push, get_or_append_left}
use Rattle.std.proofs.lemmas.List.Elements.{All-set, All-push}
use Rattle.std.proofs.lemmas.List.FromFn.{map-range_with_len_more}
use Rattle.std.proofs.lemmas.List.Sorted.{All-permutation, sum_by-IsPermutation}
use Rattle.std.proofs.lemmas.List.Sums.{sum_by-cons, sum_by-append, sum_by-set}
use Rattle.std.proofs.Math.Nat.{mul-le-mul_right}
use Rattle.lists.specs.Orders.{numbers}
use Rattle.iso_model.specs.Turns.{total}
use Rattle.face_tallies.specs.declared.faces.FaceTally.{FaceTally}
use Rattle.face_tallies.specs.Parts.{part_at, parts_of, all_parts, count_at, sum_at, whole_count, IsWeighed, joined, put_at, AddsParts}
use Rattle.lists.proofs.Contained.{any_default}

-- ---- sums of whole numbers, as differences

module _ {X : Type 0} (g : X → ℤ) where
  as_difference : (xs : List X) → total (map g xs) ≡ pos (sum_by (λ x. up (g x)) xs) -ℤ pos (sum_by (λ x. down (g x)) xs)
  as_difference [] = refl
  as_difference (x ∷ xs) = omega (arith, ints, sum_by-cons (λ y. up (g y)) x xs, sum_by-cons (λ y. down (g y)) x xs, as_difference xs)

  pub total-append : (xs ys : List X) → total (map g (xs ++ ys)) ≡ total (map g xs) +ℤ total (map g ys)
  total-append xs ys =
      omega (
        arith,
        ints,
        as_difference (xs ++ ys),
        as_difference xs,
        as_difference ys,
        sum_by-append (λ y. up (g y)) xs ys,
        sum_by-append (λ y. down (g y)) xs ys,
      )

  pub total-set : (xs : List X) (i : ℕ) (y d : X) → i < length xs → total (map g (slice_set xs i y)) +ℤ g (slice_index_or xs i d) ≡ total (map g xs) +ℤ g y
  total-set xs i y d h =
      omega (arith, ints, as_difference (slice_set xs i y), as_difference xs, sum_by-set (λ z. up (g z)) xs i y d h, sum_by-set (λ z. down (g z)) xs i y d h)

  pub total-permutation : (xs ys : List X) → IsPermutation xs ys → total (map g ys) ≡ total (map g xs)
  total-permutation xs ys p =
      omega (arith, ints, as_difference ys, as_difference xs, sum_by-IsPermutation (λ z. up (g z)) xs ys p, sum_by-IsPermutation (λ z. down (g z)) xs ys p)

-- ---- what a part has at a set

abbrev pub count_of : ℕ → FaceTally → ℕ
count_of set t = if t.edges == set then t.count else 0

abbrev pub sum_of : ℕ → FaceTally → ℤ
sum_of set t = if t.edges == set then t.sum else pos 0

joined_count : (set : ℕ) (t part : FaceTally) → t.edges ≡ part.edges → count_of set (joined t part) ≡ count_of set t + count_of set part
joined_count set t part e = by_test (t.edges == set) refl
  where
    by_test : (b : Bool) → (t.edges == set) ≡ b → count_of set (joined t part) ≡ count_of set t + count_of set part
    by_test true h = let k : (part.edges == set) ≡ true = ap (λ n. n == set) (sym e) ∙ h in rw (h, k) refl
    by_test false h = let k : (part.edges == set) ≡ false = ap (λ n. n == set) (sym e) ∙ h in rw (h, k) refl

joined_sum : (set : ℕ) (t part : FaceTally) → t.edges ≡ part.edges → sum_of set (joined t part) ≡ sum_of set t +ℤ sum_of set part
joined_sum set t part e = by_test (t.edges == set) refl
  where
    by_test : (b : Bool) → (t.edges == set) ≡ b → sum_of set (joined t part) ≡ sum_of set t +ℤ sum_of set part
    by_test true h = let k : (part.edges == set) ≡ true = ap (λ n. n == set) (sym e) ∙ h in rw (h, k) refl
    by_test false h = let k : (part.edges == set) ≡ false = ap (λ n. n == set) (sym e) ∙ h in rw (h, k) refl

joined_weighed : (t part : FaceTally) → IsWeighed t → IsWeighed part → IsWeighed (joined t part)
joined_weighed t part a b = record { some = omega (arith, a.some); small = bound t.sum part.sum t.count part.count a.small b.small }
  where
    bound : (x y : ℤ) (m n : ℕ) → unsigned_abs x ≤ m → unsigned_abs y ≤ n → unsigned_abs (x +ℤ y) ≤ m + n
    bound x y m n h k = omega (arith, ints)

-- ---- one more part

-- as the test of the place says
abbrev put_by : Bool → ℕ → FaceTally → List FaceTally → List FaceTally
put_by b place part parts = if b then slice_set parts place (joined (slice_index_or parts place part) part) else parts ++ part ∷ []

pub record IsThere (place : ℕ) (part : FaceTally) (parts : List FaceTally) : Type 0 where
  pub inside : place < length parts
  pub same : (slice_index_or parts place part).edges ≡ part.edges

is_there : (place : ℕ) (part : FaceTally) (parts : List FaceTally)
    → (nat_lt place (length parts) && ((slice_index_or parts place part).edges == part.edges)) ≡ true → IsThere place part parts
is_there place part parts h =
    let p = and_parts (nat_lt place (length parts)) ((slice_index_or parts place part).edges == part.edges) h in
    record { inside = lt_of place (length parts) p.0; same = eqb-true (slice_index_or parts place part).edges part.edges p.1 }
  where
    lt_of : (a b : ℕ) → nat_lt a b ≡ true → a < b
    lt_of a b e = grind (arith, nat_tests)

one_count : (set : ℕ) (part : FaceTally) → count_at set (part ∷ []) ≡ count_of set part
one_count set part = sum_by-cons (count_of set) part [] ∙ omega arith

one_sum : (set : ℕ) (part : FaceTally) → sum_at set (part ∷ []) ≡ sum_of set part
one_sum set part = zero_right (sum_of set part)
  where
    zero_right : (x : ℤ) → x +ℤ pos 0 ≡ x
    zero_right x = omega (arith, ints)

pub put_adds : (place : ℕ) (part : FaceTally) (parts : List FaceTally) → All IsWeighed parts → IsWeighed part
    → AddsParts (part ∷ []) parts (put_at place part parts)
put_adds place part parts all one = by_test (nat_lt place (length parts) && ((slice_index_or parts place part).edges == part.edges)) refl
  where
    joins : IsThere place part parts → AddsParts (part ∷ []) parts (put_by true place part parts)
    joins h =
        let t = slice_index_or parts place part in
        record {
          count = λ set. omega (arith, sum_by-set (count_of set) parts place (joined t part) part h.inside, joined_count set t part h.same, one_count set part);
          sum =
              λ set.
              added (sum_at set (put_by true place part parts)) (sum_of set t) (sum_at set parts) (sum_of set part) (sum_of set (joined t part))
              (sum_at set (part ∷ []))
              (total-set (sum_of set) parts place (joined t part) part h.inside) (joined_sum set t part h.same) (one_sum set part);
          whole =
              omega (
                arith,
                sum_by-set (λ (s : FaceTally). s.count) parts place (joined t part) part h.inside,
                sum_by-cons (λ (s : FaceTally). s.count) part [],
              );
          weighed = All-set IsWeighed parts place (joined t part) (joined_weighed t part (all place part h.inside) one) all;
        }
      where
        added : (new old all one both more : ℤ) → new +ℤ old ≡ all +ℤ both → both ≡ old +ℤ one → more ≡ one → new ≡ all +ℤ more
        added new old all one both more e f h = omega (arith, ints)

    ends : AddsParts (part ∷ []) parts (put_by false place part parts)
    ends = record {
      count = λ set. sum_by-append (count_of set) parts (part ∷ []);
      sum = λ set. total-append (sum_of set) parts (part ∷ []);
      whole = sum_by-append (λ (s : FaceTally). s.count) parts (part ∷ []);
      weighed = All-push IsWeighed parts part all one;
    }

    by_test : (b : Bool) → (nat_lt place (length parts) && ((slice_index_or parts place part).edges == part.edges)) ≡ b
        → AddsParts (part ∷ []) parts (put_by b place part parts)
    by_test true e = joins (is_there place part parts e)
    by_test false e = ends

-- ---- some more parts

pub adds_none : (parts : List FaceTally) → All IsWeighed parts → AddsParts [] parts parts
adds_none parts all = record {
  count = λ set. omega arith;
  sum = λ set. zero_right (sum_at set parts);
  whole = omega arith;
  weighed = all;
}
  where
    zero_right : (x : ℤ) → x ≡ x +ℤ pos 0
    zero_right x = omega (arith, ints)

pub adds_more : (more again old mid new : List FaceTally) → AddsParts more old mid → AddsParts again mid new → AddsParts (more ++ again) old new
adds_more more again old mid new a b = record {
  count = λ set. omega (arith, a.count set, b.count set, sum_by-append (count_of set) more again);
  sum =
      λ set.
      added (sum_at set old) (sum_at set more) (sum_at set again) (sum_at set mid) (sum_at set new) (sum_at set (more ++ again)) (a.sum set)
      (b.sum set) (total-append (sum_of set) more again);
  whole = omega (arith, a.whole, b.whole, sum_by-append (λ (s : FaceTally). s.count) more again);
  weighed = b.weighed;
}
  where
    added : (o m g i n s : ℤ) → i ≡ o +ℤ m → n ≡ i +ℤ g → s ≡ m +ℤ g → n ≡ o +ℤ s
    added o m g i n s e f h = omega (arith, ints)

pub adds_permutation : (more old mid new : List FaceTally) → AddsParts more old mid → IsPermutation mid new → AddsParts more old new
adds_permutation more old mid new a p = record {
  count = λ set. sum_by-IsPermutation (count_of set) mid new p ∙ a.count set;
  sum = λ set. total-permutation (sum_of set) mid new p ∙ a.sum set;
  whole = sum_by-IsPermutation (λ (s : FaceTally). s.count) mid new p ∙ a.whole;
  weighed = All-permutation IsWeighed mid new p a.weighed;
}

-- the next place of a tuple
pub places_more : (w : List ℕ) (place : ℕ) → map (part_at w) (numbers (place + 1)) ≡ map (part_at w) (numbers place) ++ part_at w place ∷ []
places_more w place = map-range_with_len_more (part_at w) 0 place place (omega arith)

-- the next part
pub taken_more : (parts : List FaceTally) (i : ℕ) (part : FaceTally) → i < length parts → part ≡ slice_index_or parts i part
    → take (i + 1) parts ≡ take i parts ++ part ∷ []
taken_more parts i part inside read = take_more parts i part inside ∙ ap (λ (t : FaceTally). take i parts ++ t ∷ []) (sym read)

-- the next tuple
pub tuples_more : (ws : List (List ℕ)) (i : ℕ) (w : List ℕ) → i < length ws → w ≡ slice_index_or ws i w
    → all_parts (take (i + 1) ws) ≡ all_parts (take i ws) ++ parts_of w
tuples_more ws i w inside read = ap all_parts (take_more ws i w inside ∙ ap (λ v. take i ws ++ v ∷ []) (sym read)) ∙ push (take i ws)
  where
    assoc : (xs ys zs : List FaceTally) → xs ++ (ys ++ zs) ≡ (xs ++ ys) ++ zs
    assoc [] ys zs = refl
    assoc (x ∷ xs) ys zs = ap (λ (ts : List FaceTally). x ∷ ts) (assoc xs ys zs)

    right_none : (xs : List FaceTally) → xs ++ [] ≡ xs
    right_none [] = refl
    right_none (x ∷ xs) = ap (λ (ts : List FaceTally). x ∷ ts) (right_none xs)

    push : (vs : List (List ℕ)) → all_parts (vs ++ w ∷ []) ≡ all_parts vs ++ parts_of w
    push [] = right_none (parts_of w)
    push (v ∷ vs) = ap (λ (ts : List FaceTally). parts_of v ++ ts) (push vs) ∙ assoc (parts_of v) (all_parts vs) (parts_of w)

-- each place counts one
pub places_count : (w : List ℕ) (n : ℕ) → whole_count (map (part_at w) (numbers n)) ≡ n
places_count w n = from 0 n
  where
    from : (a m : ℕ) → whole_count (map (part_at w) (range_with_len a m)) ≡ m
    from a zero = refl
    from a (suc m) = omega (arith, sum_by-cons (λ (s : FaceTally). s.count) (part_at w a) (map (part_at w) (range_with_len (a + 1) m)), from (a + 1) m)

pub wide_more : (d : ℕ) (ws : List (List ℕ)) (i : ℕ) (w : List ℕ) → i < length ws → w ≡ slice_index_or ws i w → length w ≡ d
    → All (λ v. length v ≡ d) (take i ws) → All (λ v. length v ≡ d) (take (i + 1) ws)
wide_more d ws i w inside read wide all =
    subst (λ vs. All (λ v. length v ≡ d) vs) (sym (take_more ws i w inside ∙ ap (λ v. take i ws ++ v ∷ []) (sym read)))
    (All-push (λ v. length v ≡ d) (take i ws) w all wide)

pub few_faces : (d i n : ℕ) → d ≤ 4 → i < n → n ≤ 2 ^ 28 → d * i + d ≤ 2 ^ 62
few_faces d i n h k l = let m = mul-le-mul_right (i + 1) h in omega (arith, m, k, l)

pub few_in_all : (d n : ℕ) → d ≤ 4 → n ≤ 2 ^ 28 → d * n ≤ 2 ^ 62
few_in_all d n h l = let m = mul-le-mul_right n h in omega (arith, m, l)

-- ---- parts in order

abbrev pub AscendsBySets : List FaceTally → Type 0
AscendsBySets parts = AllAdjacentBelow (λ (a b : FaceTally). a.edges < b.edges) parts (length parts)

pub put_bounded : (bound place : ℕ) (part : FaceTally) (parts : List FaceTally) → All (λ (t : FaceTally). t.edges ≤ bound) parts → part.edges ≤ bound
    → All (λ (t : FaceTally). t.edges ≤ bound) (put_at place part parts)
put_bounded bound place part parts all one = by_test (nat_lt place (length parts) && ((slice_index_or parts place part).edges == part.edges)) refl
  where
    by_test : (b : Bool) → (nat_lt place (length parts) && ((slice_index_or parts place part).edges == part.edges)) ≡ b
        → All (λ (t : FaceTally). t.edges ≤ bound) (put_by b place part parts)
    by_test true e =
        let h = is_there place part parts e in
        All-set (λ (t : FaceTally). t.edges ≤ bound) parts place (joined (slice_index_or parts place part) part) (all place part h.inside) all
    by_test false e = All-push (λ (t : FaceTally). t.edges ≤ bound) parts part all one

pub put_ascends : (part : FaceTally) (parts : List FaceTally) → AscendsBySets parts → All (λ (t : FaceTally). t.edges ≤ part.edges) parts
    → AscendsBySets (put_at (length parts - 1) part parts)
put_ascends part parts up_to all =
    by_test (nat_lt (length parts - 1) (length parts) && ((slice_index_or parts (length parts - 1) part).edges == part.edges)) refl
  where
    same_sets : IsThere (length parts - 1) part parts → (k : ℕ) (d : FaceTally)
        → (slice_index_or (put_by true (length parts - 1) part parts) k d).edges ≡ (slice_index_or parts k d).edges
    same_sets h k d = elim (cases_eq k (length parts - 1)) as
        (λ _. (slice_index_or (put_by true (length parts - 1) part parts) k d).edges ≡ (slice_index_or parts k d).edges) [
          | inl s ↦
              let new = joined (slice_index_or parts (length parts - 1) part) part in
              ap (λ (j : ℕ). (slice_index_or (slice_set parts (length parts - 1) new) j d).edges) s
              ∙ ap (λ (t : FaceTally). t.edges) (get_or-set_same parts (length parts - 1) new d h.inside)
              ∙ ap (λ (t : FaceTally). t.edges) (any_default parts (length parts - 1) part d h.inside)
              ∙ ap (λ (j : ℕ). (slice_index_or parts j d).edges) (sym s)
          | inr n ↦
              ap (λ (t : FaceTally). t.edges)
              (get_or-set_other parts (length parts - 1) k (joined (slice_index_or parts (length parts - 1) part) part) d n)
        ]

    joins : IsThere (length parts - 1) part parts → AscendsBySets (put_by true (length parts - 1) part parts)
    joins h = λ k d less.
        let size = length-set parts (length parts - 1) (joined (slice_index_or parts (length parts - 1) part) part) in
        let before = up_to k d (omega (arith, size, less)) in
        let low = same_sets h k d in
        let high = same_sets h (k + 1) d in
        rw (low, high) before

    ends : (nat_lt (length parts - 1) (length parts) && ((slice_index_or parts (length parts - 1) part).edges == part.edges)) ≡ false
        → AscendsBySets (parts ++ part ∷ [])
    ends e = λ k d less. by_place k d (let size = length_push parts part in omega (arith, size, less)) (cases_lt (k + 1) (length parts))
      where
        differs : (k : ℕ) → k + 1 ≡ length parts → (slice_index_or parts k part).edges ≢ part.edges
        differs k at same =
            let there : k ≡ length parts - 1 = omega (arith, at) in
            let inside : nat_lt (length parts - 1) (length parts) ≡ true = grind (arith, nat_tests) in
            let equal : ((slice_index_or parts (length parts - 1) part).edges == part.edges) ≡ true =
            eq-eqb (slice_index_or parts (length parts - 1) part).edges part.edges (ap (λ (j : ℕ). (slice_index_or parts j part).edges) (sym there) ∙ same) in
            both_ways (nat_lt (length parts - 1) (length parts) && ((slice_index_or parts (length parts - 1) part).edges == part.edges)) e
            (and_from _ _ inside equal)

        by_place : (k : ℕ) (d : FaceTally) → k + 1 < length parts + 1 → (k + 1 < length parts) ⊎ (length parts ≤ k + 1)
            → (slice_index_or (parts ++ part ∷ []) k d).edges < (slice_index_or (parts ++ part ∷ []) (k + 1) d).edges
        by_place k d less (inl inside) =
            let before = up_to k d inside in
            rw (get_or_append_left parts (part ∷ []) d k (omega arith), get_or_append_left parts (part ∷ []) d (k + 1) inside) before
        by_place k d less (inr end) =
            let at : k + 1 ≡ length parts = omega (arith, less, end) in
            let inside : k < length parts = omega (arith, at) in
            let few : (slice_index_or parts k part).edges ≤ part.edges = all k part inside in
            let apart : (slice_index_or parts k part).edges ≢ part.edges = differs k at in
            let below : (slice_index_or parts k part).edges < part.edges = omega arith in
            rw (get_or_append_left parts (part ∷ []) d k inside, get_or_push parts part d (k + 1) (sym at), any_default parts k d part inside) below

    by_test : (b : Bool) → (nat_lt (length parts - 1) (length parts) && ((slice_index_or parts (length parts - 1) part).edges == part.edges)) ≡ b
        → AscendsBySets (put_by b (length parts - 1) part parts)
    by_test true e = joins (is_there (length parts - 1) part parts e)
    by_test false e = ends e

-- the parts so far are no greater than those that are still to come
pub record AreBelowRest (parts : List FaceTally) (i : ℕ) (tallies : List FaceTally) : Type 0 where
  pub bounded : (j : ℕ) (d : FaceTally) → i ≤ j → j < length parts → All (λ (t : FaceTally). t.edges ≤ (slice_index_or parts j d).edges) tallies

pub below_none : (parts : List FaceTally) → AreBelowRest parts 0 []
below_none parts = record { bounded = λ j d low high k e less. absurd (let never : k < 0 = less in omega (arith, never)) }

pub below_more : (parts : List FaceTally) (i place : ℕ) (part : FaceTally) (tallies : List FaceTally)
    → IsNonDecreasingBy (λ (t : FaceTally). t.edges) parts → i < length parts → part ≡ slice_index_or parts i part
    → AreBelowRest parts i tallies → AreBelowRest parts (i + 1) (put_at place part tallies)
below_more parts i place part tallies sorted inside read b = record {
  bounded = λ j d low high.
      put_bounded (slice_index_or parts j d).edges place part tallies (b.bounded j d (omega (arith, low)) high)
      (let there : slice_index_or parts i d ≡ part = any_default parts i d part inside ∙ sym read in
      let rises : (slice_index_or parts i d).edges ≤ (slice_index_or parts j d).edges = sorted i j d (omega (arith, low)) high in
      subst (λ (t : FaceTally). t.edges ≤ (slice_index_or parts j d).edges) there rises);
}

pub ascends_more : (parts : List FaceTally) (i : ℕ) (part : FaceTally) (tallies : List FaceTally) → i < length parts
    → part ≡ slice_index_or parts i part → AreBelowRest parts i tallies → AscendsBySets tallies
    → AscendsBySets (put_at (length tallies - 1) part tallies)
ascends_more parts i part tallies inside read b up_to =
    put_ascends part tallies up_to
    (subst (λ (t : FaceTally). All (λ (s : FaceTally). s.edges ≤ t.edges) tallies) (sym read) (b.bounded i part (omega arith) inside))
