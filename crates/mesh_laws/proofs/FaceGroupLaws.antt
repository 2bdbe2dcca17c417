-- Faces in groups: one more, and how many stand once.
use Rattle.std.proofs.Common.{Bool, List, [], ap, arith, false, inl, inr, length, refl, subst, suc, sym, true, zero, ℕ, ◌++◌, ◌+◌, ◌-◌, ◌<◌, ◌∙◌, ◌∷◌, ◌≡◌}
use Rattle.std.proofs.Common.{ext_get_or, append-nil, mod-lt, take}
use Rattle.std.proofs.Common.{Global}
use Rattle.std.specs.Prelude.{cond, count_by, filter, map, slice_index_or, slice_set, sum_by, nat_lt, ◌==◌, ◌≢◌, Vec}
use Rattle.std.proofs.lemmas.Bool.{false≢true, cases_eq, ne_eqb, eq-eqb}
use Rattle.std.proofs.lemmas.Bool.Decides.{nat_tests}
use Rattle.std.proofs.lemmas.List.{append_assoc, get_or-set_same, get_or-set_other, length-set, map-set, get_or-map, map-append, length-append}
use Rattle.std.proofs.lemmas.List.Elements.{filter-append}
use Rattle.std.proofs.lemmas.List.Sums.{sum_by-cons, sum_by-append}
use Rattle.std.proofs.lemmas.List.FromFn.{length-map-range_with_len, map-range_with_len_more, sum_by-map-range_with_len_more}
use Rattle.std.specs.List.Sorted.{IsPermutation}
use Rattle.std.proofs.lemmas.List.Sorted.{sum_by-IsPermutation}
use Rattle.std.proofs.lemmas.Slice.Eq.{bytes_eq-Decides}
use Rattle.lists.specs.Orders.{numbers, same_list}
use Rattle.lists.proofs.MemberLaws.{at_numbers}
use Rattle.lists.proofs.Sorting.{bit, count_by-cons}
use Rattle.iso_model.specs.Faces.{faces_of}
use Rattle.mesh_laws.specs.FaceKeys.{is_once, padded, all_faces}
use Rattle.mesh_laws.proofs.FaceKeyLists.{count_same, all_more}
use Rattle.mesh_laws.specs.FaceGroups.{group, group_of, groups_of, once_count, AreGroups, TakeFaces}

-- ---- one more face

-- its group has it at the end, and the others are as they were
pub one_more : (n : ℕ) (keys : List (List ℕ)) (key : List ℕ) (at : ℕ) (old : List (List ℕ)) → at ≡ group_of n key → at < n → old ≡ group n keys at
    → slice_set (groups_of n keys) at (old ++ key ∷ []) ≡ groups_of n (keys ++ key ∷ [])
one_more n keys key at old is h e =
    ext_get_or [] (slice_set (groups_of n keys) at (old ++ key ∷ [])) (groups_of n (keys ++ key ∷ []))
    (length-set (groups_of n keys) at _ ∙ count keys ∙ sym (count (keys ++ key ∷ [])))
    (λ i l. each i (omega (arith, l, length-set (groups_of n keys) at (old ++ key ∷ []), count keys)))
  where
    count : (ks : List (List ℕ)) → length (groups_of n ks) ≡ n
    count ks = length-map-range_with_len (group n ks) 0 n

    joined : (i : ℕ) → group n (keys ++ key ∷ []) i ≡ group n keys i ++ filter (λ k. group_of n k == i) (key ∷ [])
    joined i = filter-append (λ k. group_of n k == i) keys (key ∷ [])

    here : filter (λ k. group_of n k == at) (key ∷ []) ≡ key ∷ []
    here = ap (λ (b : Bool). cond b (key ∷ []) []) (eq-eqb (group_of n key) at (sym is))

    elsewhere : (i : ℕ) → i ≢ at → filter (λ k. group_of n k == i) (key ∷ []) ≡ []
    elsewhere i apart = ap (λ (b : Bool). cond b (key ∷ []) []) (ne_eqb (group_of n key) i (λ e. apart (sym (is ∙ e))))

    HasSame : ℕ → Type 0
    HasSame i = slice_index_or (slice_set (groups_of n keys) at (old ++ key ∷ [])) i [] ≡ slice_index_or (groups_of n (keys ++ key ∷ [])) i []

    each : (i : ℕ) → i < n → HasSame i
    each i l = elim (cases_eq i at) as (λ _. HasSame i) [
      | inl s ↦
          subst HasSame (sym s)
          (get_or-set_same (groups_of n keys) at (old ++ key ∷ []) [] (omega (arith, h, count keys))
          ∙ ap (λ (ks : List (List ℕ)). ks ++ key ∷ []) e
          ∙ sym (at_numbers (group n (keys ++ key ∷ [])) n at [] h ∙ joined at ∙ ap (λ (ks : List (List ℕ)). group n keys at ++ ks) here))
      | inr apart ↦
          get_or-set_other (groups_of n keys) at i (old ++ key ∷ []) [] apart ∙ at_numbers (group n keys) n i [] l
          ∙ sym (at_numbers (group n (keys ++ key ∷ [])) n i [] l ∙ joined i ∙ ap (λ (ks : List (List ℕ)). group n keys i ++ ks) (elsewhere i apart)
          ∙ append-nil (group n keys i))
    ]

-- ---- sums over groups

-- where the terms are the same for what is chosen
same_chosen : {X : Type 0} (p : X → Bool) (f g : X → ℕ) → ((x : X) → p x ≡ true → f x ≡ g x) → (xs : List X) → sum_by f (filter p xs) ≡ sum_by g (filter p xs)
same_chosen p f g same [] = refl
same_chosen p f g same (x ∷ xs) = by_test (same_chosen p f g same xs) (p x) refl
  where
    by_test : sum_by f (filter p xs) ≡ sum_by g (filter p xs) → (b : Bool) → p x ≡ b
        → sum_by f (cond b (x ∷ filter p xs) (filter p xs)) ≡ sum_by g (cond b (x ∷ filter p xs) (filter p xs))
    by_test rest true e = sum_by-cons f x (filter p xs) ∙ added (f x) (g x) (same x e) rest ∙ sym (sum_by-cons g x (filter p xs))
      where
        added : (a b : ℕ) {m n : ℕ} → a ≡ b → m ≡ n → a + m ≡ b + n
        added a b e r = omega (arith, e, r)
    by_test rest false e = rest

-- those below n + 1 are those below n and those at n
split_below : {X : Type 0} (h f : X → ℕ) (n : ℕ) (xs : List X)
    → sum_by f (filter (λ x. nat_lt (h x) (n + 1)) xs) ≡ sum_by f (filter (λ x. nat_lt (h x) n) xs) + sum_by f (filter (λ x. h x == n) xs)
split_below h f n [] = refl
split_below {X} h f n (x ∷ xs) =
    by_tests (filter (λ x. nat_lt (h x) (n + 1)) xs) (filter (λ x. nat_lt (h x) n) xs) (filter (λ x. h x == n) xs) (split_below h f n xs)
    (nat_lt (h x) (n + 1)) refl (nat_lt (h x) n) refl (h x == n) refl
  where
    apart : (m n : ℕ) → nat_lt m n ≡ true → (m == n) ≡ true → ⊥
    apart m n a b = grind (arith, nat_tests)

    below : (m n : ℕ) → nat_lt m (n + 1) ≡ true → nat_lt m n ≡ false → (m == n) ≡ false → ⊥
    below m n a b c = grind (arith, nat_tests)

    above : (m n : ℕ) → nat_lt m (n + 1) ≡ false → nat_lt m n ≡ true → ⊥
    above m n a b = grind (arith, nat_tests)

    at_it : (m n : ℕ) → nat_lt m (n + 1) ≡ false → (m == n) ≡ true → ⊥
    at_it m n a b = grind (arith, nat_tests)

    first : (a b l h : ℕ) → b ≡ l + h → a + b ≡ (a + l) + h
    first a b l h e = omega (arith, e)

    second : (a b l h : ℕ) → b ≡ l + h → a + b ≡ l + (a + h)
    second a b l h e = omega (arith, e)

    by_tests : (both low here : List X) → sum_by f both ≡ sum_by f low + sum_by f here
        → (a : Bool) → nat_lt (h x) (n + 1) ≡ a → (b : Bool) → nat_lt (h x) n ≡ b → (c : Bool) → (h x == n) ≡ c
        → sum_by f (cond a (x ∷ both) both) ≡ sum_by f (cond b (x ∷ low) low) + sum_by f (cond c (x ∷ here) here)
    by_tests both low here rest true ea true eb true ec = absurd (apart (h x) n eb ec)
    by_tests both low here rest true ea true eb false ec =
        sum_by-cons f x both ∙ first (f x) (sum_by f both) (sum_by f low) (sum_by f here) rest ∙ ap (λ m. m + sum_by f here) (sym (sum_by-cons f x low))
    by_tests both low here rest true ea false eb true ec =
        sum_by-cons f x both ∙ second (f x) (sum_by f both) (sum_by f low) (sum_by f here) rest ∙ ap (λ m. sum_by f low + m) (sym (sum_by-cons f x here))
    by_tests both low here rest true ea false eb false ec = absurd (below (h x) n ea eb ec)
    by_tests both low here rest false ea true eb c ec = absurd (above (h x) n ea eb)
    by_tests both low here rest false ea false eb true ec = absurd (at_it (h x) n ea ec)
    by_tests both low here rest false ea false eb false ec = rest

-- the sum over those below n is the sum over the first n groups
sum_below : {X : Type 0} (h f : X → ℕ) (n : ℕ) (xs : List X)
    → sum_by f (filter (λ x. nat_lt (h x) n) xs) ≡ sum_by (sum_by f) (map (λ g. filter (λ x. h x == g) xs) (numbers n))
sum_below {X} h f zero xs = none xs
  where
    never : (m : ℕ) → nat_lt m 0 ≡ false
    never m = grind (arith, nat_tests)

    none : (ys : List X) → sum_by f (filter (λ x. nat_lt (h x) 0) ys) ≡ 0
    none [] = refl
    none (y ∷ ys) = ap (λ (b : Bool). sum_by f (cond b (y ∷ filter (λ x. nat_lt (h x) 0) ys) (filter (λ x. nat_lt (h x) 0) ys))) (never (h y)) ∙ none ys
sum_below {X} h f (suc n) xs =
    let groups : ℕ → List X = λ g. filter (λ x. h x == g) xs in
    let more : sum_by (sum_by f) (map groups (numbers (n + 1))) ≡ sum_by (sum_by f) (map groups (numbers n)) + sum_by f (groups n) =
    sum_by-map-range_with_len_more (sum_by f) groups 0 n n (omega arith) in
    let next : n + 1 ≡ suc n = omega arith in
    subst (λ (m : ℕ). sum_by f (filter (λ x. nat_lt (h x) m) xs) ≡ sum_by (sum_by f) (map groups (numbers m))) next
    (split_below h f n xs ∙ ap (λ m. m + sum_by f (groups n)) (sum_below h f n xs) ∙ sym more)

-- all are below n
sum_all : {X : Type 0} (h f : X → ℕ) (n : ℕ) → ((x : X) → h x < n) → (xs : List X)
    → sum_by f (filter (λ x. nat_lt (h x) n) xs) ≡ sum_by f xs
sum_all h f n less [] = refl
sum_all h f n less (x ∷ xs) =
    ap (λ (b : Bool). sum_by f (cond b (x ∷ filter (λ x. nat_lt (h x) n) xs) (filter (λ x. nat_lt (h x) n) xs))) (passes (h x) n (less x))
    ∙ sum_by-cons f x (filter (λ x. nat_lt (h x) n) xs) ∙ ap (λ m. f x + m) (sum_all h f n less xs) ∙ sym (sum_by-cons f x xs)
  where
    passes : (m n : ℕ) → m < n → nat_lt m n ≡ true
    passes m n l = grind (arith, nat_tests)

-- ---- how many stand once

-- a member stands in its group as often as among all
counted_in_group : (n : ℕ) (key : List ℕ) (keys : List (List ℕ)) (g : ℕ) → (group_of n key == g) ≡ true
    → count_by (same_list key) (group n keys g) ≡ count_by (same_list key) keys
counted_in_group n key [] g e = refl
counted_in_group n key (k ∷ ks) g e = by_tests (counted_in_group n key ks g e) (group_of n k == g) refl
  where
    by_tests : count_by (same_list key) (group n ks g) ≡ count_by (same_list key) ks → (b : Bool) → (group_of n k == g) ≡ b
        → count_by (same_list key) (cond b (k ∷ group n ks g) (group n ks g)) ≡ count_by (same_list key) (k ∷ ks)
    by_tests rest true t = omega (arith, count_by-cons (same_list key) k (group n ks g), count_by-cons (same_list key) k ks, rest)
    by_tests rest false t =
        let apart : bit (same_list key k) ≡ 0 = ap bit (other (same_list key k) refl) in
        omega (arith, count_by-cons (same_list key) k ks, apart, rest)
      where
        other : (b : Bool) → same_list key k ≡ b → b ≡ false
        other true s = absurd (false≢true (sym t ∙ ap (λ (x : List ℕ). group_of n x == g) (sym ((bytes_eq-Decides key k).0 s)) ∙ e))
        other false s = refl

-- so many stand once in any order
pub once_moved : (xs ys : List (List ℕ)) → IsPermutation xs ys → once_count ys ≡ once_count xs
once_moved xs ys moved =
    sum_by-IsPermutation (λ k. cond (is_once ys k) 1 0) xs ys moved
    ∙ count_same (is_once ys) (is_once xs) (λ k. ap (λ (n : ℕ). n == 1) (sum_by-IsPermutation (λ j. cond (same_list k j) 1 0) xs ys moved)) xs

-- so many stand once in their groups as among all
pub once_in_groups : (n : ℕ) (keys : List (List ℕ)) → 0 < n → sum_by once_count (groups_of n keys) ≡ once_count keys
once_in_groups n keys some =
    same_sums (numbers n) ∙ sym (sum_below (group_of n) (λ k. cond (is_once keys k) 1 0) n keys)
    ∙ sum_all (group_of n) (λ k. cond (is_once keys k) 1 0) n (λ k. mod-lt (slice_index_or k (length k - 1) 0) some) keys
  where
    same_sums : (gs : List ℕ) → sum_by once_count (map (group n keys) gs) ≡ sum_by (sum_by (λ k. cond (is_once keys k) 1 0)) (map (group n keys) gs)
    same_sums [] = refl
    same_sums (g ∷ gs) =
        let one : List ℕ → ℕ = λ k. cond (is_once keys k) 1 0 in
        let rest = map (group n keys) gs in
        let first : once_count (group n keys g) ≡ sum_by one (group n keys g) =
        same_chosen (λ k. group_of n k == g) (λ k. cond (is_once (group n keys g) k) 1 0) one
        (λ k e. ap (λ (m : ℕ). cond (m == 1) 1 0) (counted_in_group n k keys g e)) keys in
        omega (arith, sum_by-cons once_count (group n keys g) rest, sum_by-cons (sum_by one) (group n keys g) rest, first, same_sums gs)

-- ---- the groups of the code

-- a face is put at the end of its group
pub face_taken : (old : List (Vec (List ℕ) Global)) (key : List ℕ) (at : ℕ) (before now : Vec (List ℕ) Global)
    → at ≡ group_of (length old) key → at < length old → before ≡ slice_index_or old at before → now.items ≡ before.items ++ key ∷ []
    → TakeFaces old (slice_set old at now) (key ∷ [])
face_taken old key at before now is h here end = record {
  count = length-set old at now;
  taken = λ keys groups.
      let n = length old in
      let member : before.items ≡ group n keys at =
      ap (λ (v : Vec (List ℕ) Global). v.items) here ∙ sym (get_or-map (λ (v : Vec (List ℕ) Global). v.items) old at before [] h)
      ∙ ap (λ (ls : List (List (List ℕ))). slice_index_or ls at []) groups ∙ at_numbers (group n keys) n at [] h in
      map-set (λ (v : Vec (List ℕ) Global). v.items) old at now
      ∙ ap (λ (ls : List (List (List ℕ))). slice_set ls at now.items) groups
      ∙ ap (λ (l : List (List ℕ)). slice_set (groups_of n keys) at l) end
      ∙ one_more n keys key at before.items is h member
      ∙ ap (λ (m : ℕ). groups_of m (keys ++ key ∷ [])) (sym (length-set old at now));
}

-- groups that take faces, and then others, take both
pub both_taken : (old mid new : List (Vec (List ℕ) Global)) (xs ys : List (List ℕ)) → TakeFaces old mid xs → TakeFaces mid new ys → TakeFaces old new (xs ++ ys)
both_taken old mid new xs ys one two = record {
  count = two.count ∙ one.count;
  taken = λ keys groups. subst (AreGroups new) (append_assoc keys xs ys) (two.taken (keys ++ xs) (one.taken keys groups));
}

pub none_taken : (old : List (Vec (List ℕ) Global)) → TakeFaces old old []
none_taken old = record { count = refl; taken = λ keys groups. subst (AreGroups old) (sym (append-nil keys)) groups }

-- one empty group more
pub empty_more : (old now : List (Vec (List ℕ) Global)) (empty : Vec (List ℕ) Global) (n : ℕ) → now ≡ old ++ empty ∷ [] → empty.items ≡ []
    → (length old ≡ n) × (map (λ v. v.items) old ≡ map (λ i. []) (numbers n))
    → (length now ≡ n + 1) × (map (λ v. v.items) now ≡ map (λ i. []) (numbers (n + 1)))
empty_more old now empty n e none before = (
  ap length e ∙ length-append old (empty ∷ []) ∙ ap (λ (m : ℕ). m + 1) before.0,
  ap (map (λ v. v.items)) e ∙ map-append (λ (v : Vec (List ℕ) Global). v.items) old (empty ∷ [])
      ∙ ap (λ (ls : List (List (List ℕ))). ls ++ empty.items ∷ []) before.1
      ∙ ap (λ (l : List (List ℕ)). map (λ i. []) (numbers n) ++ l ∷ []) none
      ∙ sym (map-range_with_len_more (λ (i : ℕ). []) 0 n n (omega arith)),
)

-- the groups of the faces of some simplices, and then of one more
pub groups_more : (old new : List (Vec (List ℕ) Global)) (ws : List (List ℕ)) (i : ℕ) (w : List ℕ) → i < length ws → w ≡ slice_index_or ws i w
    → TakeFaces old new (map padded (faces_of w)) → AreGroups old (map padded (all_faces (take i ws)))
    → AreGroups new (map padded (all_faces (take (i + 1) ws)))
groups_more old new ws i w h e took groups =
    subst (AreGroups new) (sym (ap (map padded) (all_more ws i w h e) ∙ map-append padded (all_faces (take i ws)) (faces_of w)))
    (took.taken (map padded (all_faces (take i ws))) groups)
