-- Members that stand once in an ascending list of lists, and what sorting fixes.
use Rattle.std.proofs.Common.{Bool, List, [], ap, arith, false, inl, inr, length, refl, subst, suc, sym, true, zero, ℕ, ◌+◌, ◌-◌, ◌<◌, ◌≤◌, ◌∙◌, ◌∷◌, ◌≡◌}
use Rattle.std.specs.Prelude.{cond, count_by, nat_lt, slice_index_or, ◌==◌, ◌≢◌}
use Rattle.std.specs.Cmp.Lexicographic.{slice_cmp}
use Rattle.std.specs.declared.cmp.Ordering.TheVariants.{Less, Equal, Greater}
use Rattle.std.specs.List.Sorted.{IsNonDecreasing, IsPermutation, IsSorted}
use Rattle.std.specs.Ordering.{is_lt, nat_cmp, ordering_then}
use Rattle.std.proofs.lemmas.Bool.{cases_lt}
use Rattle.std.proofs.lemmas.Bool.Decides.{nat_tests}
use Rattle.std.proofs.lemmas.Cmp.{nat_list_cmp_total}
use Rattle.std.proofs.lemmas.List.Sorted.{ranks_by, sorted_far, sum_by-IsPermutation}
use Rattle.std.proofs.lemmas.Slice.Eq.{bytes_eq-Decides}
use Rattle.lists.specs.Orders.{inversions, same_list, sorted}
use Rattle.lists.proofs.Sorting.{bit, count_by-cons, count-sorted, inversions-sorted}
use Rattle.mesh_laws.specs.FaceKeys.{is_once_at}

-- ---- counts of a list in a list of lists

same_self : (x : List ℕ) → same_list x x ≡ true
same_self x = (bytes_eq-Decides x x).1 refl

same_not : (x y : List ℕ) → x ≢ y → same_list x y ≡ false
same_not x y n = go (same_list x y) refl
  where
    go : (b : Bool) → same_list x y ≡ b → b ≡ false
    go true e = absurd (n ((bytes_eq-Decides x y).0 e))
    go false e = refl

pub never_counted : (x : List ℕ) (ks : List (List ℕ)) → ((j : ℕ) → j < length ks → slice_index_or ks j [] ≢ x) → count_by (same_list x) ks ≡ 0
never_counted x [] apart = refl
never_counted x (k ∷ ks) apart =
    let first : bit (same_list x k) ≡ 0 = ap bit (same_not x k (λ e. apart 0 (omega arith) (sym e))) in
    omega (arith, count_by-cons (same_list x) k ks, first, never_counted x ks (λ j h. apart (suc j) (omega (arith, h))))

pub counted_once : (ks : List (List ℕ)) (i : ℕ) → i < length ks → ((j : ℕ) → j < length ks → j ≢ i → slice_index_or ks j [] ≢ slice_index_or ks i [])
    → count_by (same_list (slice_index_or ks i [])) ks ≡ 1
counted_once [] i h apart = absurd (omega arith)
counted_once (k ∷ ks) zero h apart =
    let first : bit (same_list k k) ≡ 1 = ap bit (same_self k) in
    omega (
      arith,
      count_by-cons (same_list k) k ks,
      first,
      never_counted k ks (λ j l. apart (suc j) (omega (arith, l)) (λ (e : suc j ≡ 0). omega (arith, e))),
    )
counted_once (k ∷ ks) (suc i) h apart =
    let x = slice_index_or ks i [] in
    let first : bit (same_list x k) ≡ 0 = ap bit (same_not x k (λ e. apart 0 (omega arith) (λ (s : 0 ≡ suc i). omega (arith, s)) (sym e))) in
    omega (
      arith,
      count_by-cons (same_list x) k ks,
      first,
      counted_once ks i (omega arith) (λ j l n. apart (suc j) (omega (arith, l)) (λ (e : suc j ≡ suc i). n (omega (arith, e)))),
    )

pub counted_some : (x : List ℕ) (ks : List (List ℕ)) (i : ℕ) → i < length ks → slice_index_or ks i [] ≡ x → 1 ≤ count_by (same_list x) ks
counted_some x [] i h e = absurd (omega arith)
counted_some x (k ∷ ks) zero h e =
    let first : bit (same_list x k) ≡ 1 = ap bit (ap (same_list x) e ∙ same_self x) in
    omega (arith, count_by-cons (same_list x) k ks, first)
counted_some x (k ∷ ks) (suc i) h e = omega (arith, count_by-cons (same_list x) k ks, counted_some x ks i (omega arith) e)

pub counted_twice : (x : List ℕ) (ks : List (List ℕ)) (i j : ℕ) → i < j → j < length ks → slice_index_or ks i [] ≡ x → slice_index_or ks j [] ≡ x
    → 2 ≤ count_by (same_list x) ks
counted_twice x [] i j l h e f = absurd (omega arith)
counted_twice x (k ∷ ks) i zero l h e f = absurd (omega (arith, l))
counted_twice x (k ∷ ks) zero (suc j) l h e f =
    let first : bit (same_list x k) ≡ 1 = ap bit (ap (same_list x) e ∙ same_self x) in
    omega (arith, count_by-cons (same_list x) k ks, first, counted_some x ks j (omega arith) f)
counted_twice x (k ∷ ks) (suc i) (suc j) l h e f =
    omega (arith, count_by-cons (same_list x) k ks, counted_twice x ks i j (omega arith) (omega arith) e f)

-- ---- in an ascending list what is the same stands side by side

before : List ℕ → List ℕ → Bool
before x y = is_lt (slice_cmp nat_cmp x y)

pub tie : (x y : List ℕ) → is_lt (slice_cmp nat_cmp x y) ≡ false → is_lt (slice_cmp nat_cmp y x) ≡ false → x ≡ y
tie [] [] e f = refl
tie [] (y ∷ ys) e f = absurd (cc)
tie (x ∷ xs) [] e f = absurd (cc)
tie (x ∷ xs) (y ∷ ys) e f = by_tests (λ u v. tie xs ys u v) (nat_lt x y) refl (x == y) refl (nat_lt y x) refl (y == x) refl e f
  where
    equal : (a b : ℕ) → (a == b) ≡ true → a ≡ b
    equal a b t = grind (arith, nat_tests)

    all_apart : (a b : ℕ) → nat_lt a b ≡ false → (a == b) ≡ false → nat_lt b a ≡ false → ⊥
    all_apart a b p q r = grind (arith, nat_tests)

    turned : (a b : ℕ) → (a == b) ≡ true → nat_lt b a ≡ false × ((b == a) ≡ true)
    turned a b t = (grind (arith, nat_tests), grind (arith, nat_tests))

    by_tests : (is_lt (slice_cmp nat_cmp xs ys) ≡ false → is_lt (slice_cmp nat_cmp ys xs) ≡ false → xs ≡ ys)
        → (p : Bool) → nat_lt x y ≡ p → (q : Bool) → (x == y) ≡ q → (r : Bool) → nat_lt y x ≡ r → (s : Bool) → (y == x) ≡ s
        → is_lt (ordering_then (cond p Less (cond q Equal Greater)) (slice_cmp nat_cmp xs ys)) ≡ false
        → is_lt (ordering_then (cond r Less (cond s Equal Greater)) (slice_cmp nat_cmp ys xs)) ≡ false → x ∷ xs ≡ y ∷ ys
    by_tests more true pe q qe r re s se e f = absurd (cc)
    by_tests more false pe q qe true re s se e f = absurd (cc)
    by_tests more false pe true qe false re true se e f =
        let head = equal x y qe in
        let rest = more e f in
        cc
    by_tests more false pe true qe false re false se e f = absurd (let t = (turned x y qe).1 in cc)
    by_tests more false pe false qe false re s se e f = absurd (all_apart x y pe qe re)

module _ (ks : List (List ℕ)) (up : IsSorted (slice_cmp nat_cmp) ks) where
  not_before : (i j : ℕ) → i ≤ j → j < length ks → is_lt (slice_cmp nat_cmp (slice_index_or ks j []) (slice_index_or ks i [])) ≡ false
  not_before i j l h = sorted_far (λ x y. is_lt (slice_cmp nat_cmp x y)) (ranks_by nat_list_cmp_total (λ x. x)) ks up i j [] l h

  -- what is the same at two places is the same between them
  between : (i m j : ℕ) → i ≤ m → m ≤ j → j < length ks → slice_index_or ks i [] ≡ slice_index_or ks j [] → slice_index_or ks m [] ≡ slice_index_or ks j []
  between i m j l h k e =
      tie (slice_index_or ks m []) (slice_index_or ks j [])
      (subst (λ (x : List ℕ). is_lt (slice_cmp nat_cmp (slice_index_or ks m []) x) ≡ false) e (not_before i m l (omega (arith, h, k))))
      (not_before m j h k)

  pub once_at : (i : ℕ) → i < length ks → (0 < i → slice_index_or ks (i - 1) [] ≢ slice_index_or ks i [])
      → (i + 1 < length ks → slice_index_or ks (i + 1) [] ≢ slice_index_or ks i []) → is_once_at ks i ≡ true
  once_at i h below above =
      let one = counted_once ks i h (λ j l n e. elim (cases_lt j i) as (λ _. ⊥) [
        | inl less ↦ below (omega (arith, less)) (between j (i - 1) i (omega (arith, less)) (omega arith) h e)
        | inr more ↦
            let far : i + 1 ≤ j = above_it j more n in
            above (omega (arith, far, l)) (between i (i + 1) j (omega arith) far l (sym e) ∙ e)
      ]) in
      ap (λ (n : ℕ). n == 1) one
    where
      above_it : (j : ℕ) → i ≤ j → j ≢ i → i + 1 ≤ j
      above_it j l n = elim (cases_lt i j) as (λ _. i + 1 ≤ j) [
        | inl m ↦ omega (arith, m)
        | inr m ↦ absurd (n (omega (arith, l, m)))
      ]

pub twice_at : (ks : List (List ℕ)) (i j : ℕ) → i < j → j < length ks → slice_index_or ks i [] ≡ slice_index_or ks j []
    → (is_once_at ks i ≡ false) × (is_once_at ks j ≡ false)
twice_at ks i j l h e = (
  two (count_by (same_list (slice_index_or ks i [])) ks) (counted_twice (slice_index_or ks i []) ks i j l h refl (sym e)),
  two (count_by (same_list (slice_index_or ks j [])) ks) (counted_twice (slice_index_or ks j []) ks i j l h e refl),
)
  where
    two : (n : ℕ) → 2 ≤ n → (n == 1) ≡ false
    two n m = grind (arith, nat_tests)

-- ---- sorting

-- two lists in order with the same counts are the same
pub same_in_order : (xs ys : List ℕ) → inversions xs ≡ 0 → inversions ys ≡ 0 → ((p : ℕ → Bool) → count_by p xs ≡ count_by p ys) → xs ≡ ys
same_in_order [] [] a b same = refl
same_in_order [] (y ∷ ys) a b same =
    let all : bit true ≡ 1 = refl in
    absurd (omega (arith, same (λ z. true), count_by-cons (λ z. true) y ys, all))
same_in_order (x ∷ xs) [] a b same =
    let all : bit true ≡ 1 = refl in
    absurd (omega (arith, same (λ z. true), count_by-cons (λ z. true) x xs, all))
same_in_order (x ∷ xs) (y ∷ ys) a b same =
    let low : x ≤ y = least x y xs ys (omega (arith, a)) same in
    let high : y ≤ x = least y x ys xs (omega (arith, b)) (λ p. sym (same p)) in
    let head : x ≡ y = omega (arith, low, high) in
    let rest : xs ≡ ys = same_in_order xs ys (omega (arith, a)) (omega (arith, b)) (λ p.
    let here : bit (p x) ≡ bit (p y) = ap (λ (z : ℕ). bit (p z)) head in
    omega (arith, same p, count_by-cons p x xs, count_by-cons p y ys, here)) in
    cc
  where
    least : (x y : ℕ) (xs ys : List ℕ) → count_by (λ z. nat_lt z x) xs ≡ 0 → ((p : ℕ → Bool) → count_by p (x ∷ xs) ≡ count_by p (y ∷ ys)) → x ≤ y
    least x y xs ys none same =
        let self : bit (nat_lt x x) ≡ 0 = ap bit (not_less x) in
        let all = same (λ z. nat_lt z x) in
        at_least x y (omega (arith, all, count_by-cons (λ z. nat_lt z x) x xs, count_by-cons (λ z. nat_lt z x) y ys, self, none))
      where
        not_less : (a : ℕ) → nat_lt a a ≡ false
        not_less a = grind (arith, nat_tests)

        at_least : (a b : ℕ) → bit (nat_lt b a) ≡ 0 → a ≤ b
        at_least a b e = grind (arith, nat_tests)

in_order : (xs : List ℕ) → IsNonDecreasing xs → inversions xs ≡ 0
in_order [] up = refl
in_order (x ∷ xs) up =
    omega (
      arith,
      none xs (λ k h. up 0 (suc k) 0 (omega arith) (omega (arith, h))),
      in_order xs (λ i j d l h. up (suc i) (suc j) d (omega (arith, l)) (omega (arith, h))),
    )
  where
    none : (ys : List ℕ) → ((k : ℕ) → k < length ys → x ≤ slice_index_or ys k 0) → count_by (λ z. nat_lt z x) ys ≡ 0
    none [] above = refl
    none (y ∷ ys) above =
        let first : bit (nat_lt y x) ≡ 0 = ap bit (not_below y (above 0 (omega arith))) in
        omega (arith, count_by-cons (λ z. nat_lt z x) y ys, first, none ys (λ k h. above (suc k) (omega (arith, h))))
      where
        not_below : (y : ℕ) → x ≤ y → nat_lt y x ≡ false
        not_below y l = grind (arith, nat_tests)

-- a list in order with the members of another is that one, sorted
pub is_sorted : (xs ys : List ℕ) → IsPermutation xs ys → IsNonDecreasing ys → ys ≡ sorted xs
is_sorted xs ys moved up =
    same_in_order ys (sorted xs) (in_order ys up) (inversions-sorted xs)
    (λ p. sum_by-IsPermutation (λ z. cond (p z) 1 0) xs ys moved ∙ sym (count-sorted p xs))
