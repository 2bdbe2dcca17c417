-- Lists that grow by what further lists have.
use Rattle.std.specs.Prelude.{◌≡◌, ◌↔◌, ◌⊎◌, ◌<◌, ℕ, suc, List, [], ◌∷◌, ◌++◌, map, length, slice_index, Contains}
use Rattle.std.proofs.Common.{refl, sym, ◌∙◌, subst, arith, inl, inr}
use Rattle.std.proofs.lemmas.List.Elements.{Contains-append_left, Contains-push, Contains-push_cases}
use Rattle.case_patch.specs.Tuples.{Adds, IsNamed}
use Rattle.lists.proofs.Contained.{Contains-head, Contains-tail, Contains-split}

pub adds_none : (P : List ℕ → Type 0) (old : List (List ℕ)) → ((t : List ℕ) → P t → ⊥) → Adds P old old
adds_none P old never = record {
  each = λ t. (
    λ c. inl c,
    λ c. elim c as (λ _. Contains old t) [ inl o ↦ o | inr p ↦ absurd (never t p) ],
  );
}

pub adds_same : (P Q : List ℕ → Type 0) (old new : List (List ℕ)) → ((t : List ℕ) → P t ↔ Q t) → Adds P old new → Adds Q old new
adds_same P Q old new same a = record {
  each = λ t. (
    λ c. elim ((a.each t).0 c) as (λ _. Contains old t ⊎ Q t) [ inl o ↦ inl o | inr p ↦ inr ((same t).0 p) ],
    λ c. elim c as (λ _. Contains new t) [ inl o ↦ (a.each t).1 (inl o) | inr q ↦ (a.each t).1 (inr ((same t).1 q)) ],
  );
}

-- ---- one tuple more

-- ---- what each member of a list adds

abbrev pub OfSome : {X : Type 0} → (X → List ℕ → Type 0) → List X → List ℕ → Type 0
OfSome {X} Q xs t = (x : X) × Contains xs x × Q x t

pub of_none : {X : Type 0} (Q : X → List ℕ → Type 0) (old : List (List ℕ)) → Adds (OfSome Q []) old old
of_none Q old = adds_none (OfSome Q []) old (λ t p. let h : p.1.0 < 0 = p.1.1 in omega arith)

pub of_more : {X : Type 0} (Q : X → List ℕ → Type 0) (xs : List X) (x : X) (old mid new : List (List ℕ)) → Adds (OfSome Q xs) old mid
    → Adds (Q x) mid new → Adds (OfSome Q (xs ++ x ∷ [])) old new
of_more {X} Q xs x old mid new a b = record { each = λ t. (λ c. there t ((b.each t).0 c), λ c. back t c) }
  where
    there : (t : List ℕ) → Contains mid t ⊎ Q x t → Contains old t ⊎ OfSome Q (xs ++ x ∷ []) t
    there t (inl m) = elim ((a.each t).0 m) as (λ _. Contains old t ⊎ OfSome Q (xs ++ x ∷ []) t) [
      | inl o ↦ inl o
      | inr p ↦ inr (p.0, Contains-append_left xs (x ∷ []) p.0 p.1, p.2)
    ]
    there t (inr q) = inr (x, Contains-push xs x, q)

    back : (t : List ℕ) → Contains old t ⊎ OfSome Q (xs ++ x ∷ []) t → Contains new t
    back t (inl o) = (b.each t).1 (inl ((a.each t).1 (inl o)))
    back t (inr p) = elim (Contains-push_cases xs x p.0 p.1) as (λ _. Contains new t) [
      | inl c ↦ (b.each t).1 (inl ((a.each t).1 (inr (p.0, c, p.2))))
      | inr e ↦ (b.each t).1 (inr (subst (λ (y : X). Q y t) (sym e) p.2))
    ]

-- ---- a list that is f of another, place by place
