-- All choices that go on from some points, one next point after the other.
use Rattle.std.specs.Prelude.{◌≡◌, ℕ, ◌+◌, ◌<◌, ◌≤◌, ℤ, List, [], ◌∷◌, ◌++◌, length, All, Contains}
use Rattle.std.proofs.Common.{inl, inr, refl, sym, ap, subst, arith, append_assoc, length-append}
use Rattle.std.proofs.lemmas.List.Elements.{All-contains}
use Rattle.halfspace.specs.Choices.{IsTried, AreTried}
use Rattle.halfspace.proofs.TightNumbers.{eq_or_below}
use Rattle.lists.specs.Bits.{set_number}

-- ---- what is tried stays tried as more facets are found

pub IsTried-grows : (d : ℕ) (points : List (List ℤ)) (choice known more : List ℕ) → All (Contains more) known → IsTried d points known choice
    → IsTried d points more choice
IsTried-grows d points choice known more kept h set f within spans = All-contains (Contains more) known (set_number set) kept (h set f within spans)

pub AreTried-grows : (d : ℕ) (points : List (List ℤ)) (front known more : List ℕ) (start : ℕ) → All (Contains more) known
    → AreTried d points known front start → AreTried d points more front start
AreTried-grows d points front known more start kept h rest a e = IsTried-grows d points (front ++ rest) known more kept (h rest a e)

pub Contains-all_trans : (first second third : List ℕ) → All (Contains second) first → All (Contains third) second → All (Contains third) first
Contains-all_trans first second third h k = λ i z q. All-contains (Contains third) second _ k (h i z q)

-- ---- a choice that is full

append_none : (xs : List ℕ) → xs ++ [] ≡ xs
append_none [] = refl
append_none (x ∷ xs) = ap (λ (ys : List ℕ). x ∷ ys) (append_none xs)

pub AreTried-full : (d : ℕ) (points : List (List ℤ)) (known front : List ℕ) (start : ℕ) → length front ≡ d → IsTried d points known front
    → AreTried d points known front start
AreTried-full d points known front start full h [] a e = subst (λ (c : List ℕ). IsTried d points known c) (sym (append_none front)) h
AreTried-full d points known front start full h (x ∷ rest) a e = absurd (omega arith)

-- ---- a choice that goes on

pub AreTried-next : (d : ℕ) (points : List (List ℤ)) (known front : List ℕ) (start : ℕ) → length front < d
    → ((k : ℕ) → start ≤ k → k < length points → AreTried d points known (front ++ k ∷ []) (k + 1)) → AreTried d points known front start
AreTried-next d points known front start unfilled h [] a e = absurd (omega arith)
AreTried-next d points known front start unfilled h (k ∷ rest) a e =
    subst (λ (c : List ℕ). IsTried d points known c) (append_assoc front (k ∷ []) rest)
    (h k a.0 a.1 rest a.2 (omega (arith, length-append front (k ∷ []))))

-- one more next point is tried
pub tried_below_more : (d : ℕ) (points : List (List ℤ)) (known more front : List ℕ) (start i : ℕ)
    → ((k : ℕ) → start ≤ k → k < i → AreTried d points known (front ++ k ∷ []) (k + 1))
    → All (Contains more) known → AreTried d points more (front ++ i ∷ []) (i + 1) → (k : ℕ) → start ≤ k → k < i + 1
    → AreTried d points more (front ++ k ∷ []) (k + 1)
tried_below_more d points known more front start i before kept here k a b =
    elim (eq_or_below k i (omega arith)) [
      | inl e ↦ subst (λ (j : ℕ). AreTried d points more (front ++ j ∷ []) (j + 1)) (sym e) here
      | inr q ↦ AreTried-grows d points (front ++ k ∷ []) known more (k + 1) kept (before k a q)
    ]
