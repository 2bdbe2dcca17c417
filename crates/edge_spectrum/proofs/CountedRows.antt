-- How many members rows have whose members are tested one by one.
use Rattle.std.proofs.Common.{ap, arith, refl, sym, ◌∙◌}
use Rattle.std.proofs.lemmas.List.{length-append}
use Rattle.std.specs.Prelude.{ℕ, suc, zero, ◌+◌, ◌-◌, ◌<◌, ◌≤◌, ◌≡◌, Bool, true, false, ◌&&◌, List, [], ◌∷◌, ◌++◌, count_by, flat_map, length, if◌then◌else◌}
use Rattle.lists.specs.Orders.{numbers}
use Rattle.lists.proofs.Counts.{count_none}
use Rattle.lists.proofs.Sorting.{bit, count_by-cons}
use Rattle.iso_model.specs.Values.{Volume}
use Rattle.edge_middles.specs.GridMiddles.{is_there}
use Rattle.edge_middles.specs.RowLists.{one_there}
use Rattle.edge_middles.proofs.RowCounts.{count_push}

one_or_none : {X : Type 0} (x : X) (b : Bool) → length (if b then x ∷ [] else []) ≡ bit b
one_or_none x true = refl
one_or_none x false = refl

two_rows : {X : Type 0} (f s : ℕ → List X) (p q : ℕ → Bool) → ((x : ℕ) → length (f x) ≡ bit (p x)) → ((x : ℕ) → length (s x) ≡ bit (q x))
    → (xs : List ℕ) → length (flat_map (λ x. f x ++ s x) xs) ≡ count_by p xs + count_by q xs
two_rows f s p q one other [] = refl
two_rows f s p q one other (x ∷ xs) =
    omega (
      arith,
      length-append (f x ++ s x) (flat_map (λ y. f y ++ s y) xs),
      length-append (f x) (s x),
      one x,
      other x,
      count_by-cons p x xs,
      count_by-cons q x xs,
      two_rows f s p q one other xs,
    )

-- those of a row that has two points at each place
pub row_length : (v : Volume) (first second : ℕ → ℕ) (rest : List ℕ) (n : ℕ)
    → length (flat_map (λ x. one_there v (first x ∷ rest) ++ one_there v (second x ∷ rest)) (numbers n))
    ≡ count_by (λ x. is_there v (first x ∷ rest)) (numbers n) + count_by (λ x. is_there v (second x ∷ rest)) (numbers n)
row_length v first second rest n =
    two_rows (λ x. one_there v (first x ∷ rest)) (λ x. one_there v (second x ∷ rest)) (λ x. is_there v (first x ∷ rest)) (λ x. is_there v (second x ∷ rest))
    (λ x. one_or_none (first x ∷ rest) (is_there v (first x ∷ rest))) (λ x. one_or_none (second x ∷ rest) (is_there v (second x ∷ rest))) (numbers n)

suc_is : (n : ℕ) → suc n ≡ n + 1
suc_is n = omega arith

count_suc : (p : ℕ → Bool) (n : ℕ) → count_by p (numbers (suc n)) ≡ count_by p (numbers n) + bit (p n)
count_suc p n = ap (λ k. count_by p (numbers k)) (suc_is n) ∙ count_push p n

-- tests that agree below a number
pub count_same : (p q : ℕ → Bool) (n : ℕ) → ((x : ℕ) → x < n → p x ≡ q x) → count_by p (numbers n) ≡ count_by q (numbers n)
count_same p q zero same = refl
count_same p q (suc n) same =
    omega (arith, count_suc p n, count_suc q n, ap bit (same n (omega arith)), count_same p q n (λ x h. same x (omega (arith, h))))

-- a test that fails at the last
pub count_but_last : (p : ℕ → Bool) (n : ℕ) → 1 ≤ n → p (n - 1) ≡ false → count_by p (numbers n) ≡ count_by p (numbers (n - 1))
count_but_last p zero some fails = absurd (omega (arith, some))
count_but_last p (suc n) some fails =
    let last : suc n - 1 ≡ n = omega arith in
    let none : bit (p n) ≡ 0 = ap (λ k. bit (p k)) (sym last) ∙ ap bit fails in
    omega (arith, count_suc p n, none, ap (λ k. count_by p (numbers k)) last)

-- a test that is the same at all, and another
pub count_goes : (goes : Bool) (p : ℕ → Bool) (n : ℕ) → count_by (λ x. goes && p x) (numbers n) ≡ (if goes then count_by p (numbers n) else 0)
count_goes true p n = refl
count_goes false p n = count_none (λ x. false) (numbers n) (λ x i e. false_true e)
  where
    false_true : false ≡ true → ⊥
    false_true e = cc
