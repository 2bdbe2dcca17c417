-- What stays where neighbours are exchanged stays where a list is sorted.
use Rattle.std.specs.Prelude.{◌≡◌, ℕ, ◌+◌, ◌<◌, ◌≤◌, Bool, true, false, cond, nat_le, List, [], ◌∷◌, ◌++◌}
use Rattle.std.proofs.Common.{refl, sym, subst, arith, append_assoc}
use Rattle.std.proofs.lemmas.Bool.Decides.{nat_tests}
use Rattle.lists.specs.Orders.{put_in, sorted}
use Rattle.halfspace.specs.Choices.{IsAscending}
use Rattle.lists.specs.Members.{Each}

pub Each-exchange : (P : ℕ → Type 0) (us : List ℕ) (x y : ℕ) (bs : List ℕ) → Each P (us ++ x ∷ y ∷ bs) → Each P (us ++ y ∷ x ∷ bs)
Each-exchange P [] x y bs h = (h.1.0, (h.0, h.1.1))
Each-exchange P (a ∷ us) x y bs h = (h.0, Each-exchange P us x y bs h.1)

pub Each-append_right : (P : ℕ → Type 0) (us bs : List ℕ) → Each P (us ++ bs) → Each P bs
Each-append_right P [] bs h = h
Each-append_right P (a ∷ us) bs h = Each-append_right P us bs h.1

-- ---- a fact on lists that an exchange of neighbours keeps

abbrev pub KeepsExchanges : (List ℕ → Type 0) → Type 0
KeepsExchanges K = (us : List ℕ) (x y : ℕ) (bs : List ℕ) → K (us ++ x ∷ y ∷ bs) → K (us ++ y ∷ x ∷ bs)

join_front : (K : List ℕ → Type 0) (us : List ℕ) (y : ℕ) (zs : List ℕ) → K (us ++ y ∷ zs) → K ((us ++ y ∷ []) ++ zs)
join_front K us y zs h = subst K (sym (append_assoc us (y ∷ []) zs)) h

part_front : (K : List ℕ → Type 0) (us : List ℕ) (y : ℕ) (zs : List ℕ) → K ((us ++ y ∷ []) ++ zs) → K (us ++ y ∷ zs)
part_front K us y zs h = subst K (append_assoc us (y ∷ []) zs) h

put_in_keeps : (K : List ℕ → Type 0) → KeepsExchanges K → (us : List ℕ) (x : ℕ) (ys : List ℕ) → K (us ++ x ∷ ys) → K (us ++ put_in x ys)
put_in_keeps K e us x [] h = h
put_in_keeps K e us x (y ∷ ys) h =
    elim (nat_le x y) as (λ b. K (us ++ cond b (x ∷ y ∷ ys) (y ∷ put_in x ys))) [
      | true ↦ h
      | false ↦ part_front K us y (put_in x ys) (put_in_keeps K e (us ++ y ∷ []) x ys (join_front K us y (x ∷ ys) (e us x y ys h)))
    ]

sorted_keeps_behind : (K : List ℕ → Type 0) → KeepsExchanges K → (us xs : List ℕ) → K (us ++ xs) → K (us ++ sorted xs)
sorted_keeps_behind K e us [] h = h
sorted_keeps_behind K e us (x ∷ xs) h =
    put_in_keeps K e us x (sorted xs) (part_front K us x (sorted xs) (sorted_keeps_behind K e (us ++ x ∷ []) xs (join_front K us x xs h)))

pub sorted_keeps : (K : List ℕ → Type 0) → KeepsExchanges K → (xs : List ℕ) → K xs → K (sorted xs)
sorted_keeps K e xs h = sorted_keeps_behind K e [] xs h

-- ---- a sorted list rises

abbrev RisesFrom : ℕ → List ℕ → Type 0
RisesFrom a [] = Unit {0}
RisesFrom a (x ∷ xs) = (a ≤ x) × RisesFrom x xs

put_in_rises : (a x : ℕ) (ys : List ℕ) → a ≤ x → RisesFrom a ys → RisesFrom a (put_in x ys)
put_in_rises a x [] h r = (h, tt)
put_in_rises a x (y ∷ ys) h r = by_test (λ k. put_in_rises y x ys k r.1) (nat_le x y) refl
  where
    by_test : (y ≤ x → RisesFrom y (put_in x ys)) → (b : Bool) → nat_le x y ≡ b → RisesFrom a (cond b (x ∷ y ∷ ys) (y ∷ put_in x ys))
    by_test behind true e = (h, (grind (arith, nat_tests), r.1))
    by_test behind false e = (r.0, behind (grind (arith, nat_tests)))

pub sorted_rises : (xs : List ℕ) → RisesFrom 0 (sorted xs)
sorted_rises [] = tt
sorted_rises (x ∷ xs) = put_in_rises 0 x (sorted xs) (omega arith) (sorted_rises xs)

-- and where no neighbours may be equal, it ascends
abbrev pub HasNoRepeat : (List ℕ → Type 0) → Type 0
HasNoRepeat K = (us : List ℕ) (x : ℕ) (bs : List ℕ) → K (us ++ x ∷ x ∷ bs) → ⊥

ascends_behind : (K : List ℕ → Type 0) → HasNoRepeat K → (n : ℕ) (us : List ℕ) (a : ℕ) (xs : List ℕ) → K (us ++ a ∷ xs) → RisesFrom a xs
    → Each (λ i. i < n) xs → IsAscending (a + 1) n xs
ascends_behind K never n us a [] h r e = tt
ascends_behind K never n us a (x ∷ xs) h r e =
    let other : ¬ (a ≡ x) = λ s. never us x xs (subst (λ (b : ℕ). K (us ++ b ∷ x ∷ xs)) s h) in
    let first = r.0 in
    (omega arith, e.0, ascends_behind K never n (us ++ a ∷ []) x xs (join_front K us a (x ∷ xs) h) r.1 e.1)

pub ascends : (K : List ℕ → Type 0) → HasNoRepeat K → (n : ℕ) (xs : List ℕ) → K xs → RisesFrom 0 xs → Each (λ i. i < n) xs → IsAscending 0 n xs
ascends K never n [] h r e = tt
ascends K never n (x ∷ xs) h r e = (omega arith, e.0, ascends_behind K never n [] x xs h r.1 e.1)
