-- How many tuples of a list have a face with a sign: only the parity of the turns counts, and two signs that follow each other are both.
use Rattle.std.proofs.Common.{◌≡◌, ℕ, ◌+◌, Bool, List, [], ◌∷◌, refl, ap, ◌∙◌, arith, inl, inr}
use Rattle.std.specs.Prelude.{count_by, ◌%◌, ◌⊎◌}
use Rattle.mesh_laws.proofs.FaceSigns.{has_signed}
use Rattle.mesh_laws.proofs.SignedFaces.{has_signed_parity}
use Rattle.lists.specs.Members.{In}
use Rattle.lists.proofs.Sorting.{bit, count_by-cons}

-- two tests that agree on the members count the same
pub count_same : {X : Type 0} (s t : X → Bool) (xs : List X) → ((x : X) → In x xs → s x ≡ t x) → count_by s xs ≡ count_by t xs
count_same s t [] same = refl
count_same s t (x ∷ xs) same =
    let first : bit (s x) ≡ bit (t x) = ap bit (same x (inl refl)) in
    omega (arith, first, count_by-cons s x xs, count_by-cons t x xs, count_same s t xs (λ y i. same y (inr i)))

parity_or : (n : ℕ) → (n % 2 ≡ 0) ⊎ (n % 2 ≡ 1)
parity_or n = grind arith

module _ (face : List ℕ) (ts : List (List ℕ)) where
  sign_parity : (a b : ℕ) → a % 2 ≡ b % 2 → count_by (has_signed a face) ts ≡ count_by (has_signed b face) ts
  sign_parity a b same = count_same (has_signed a face) (has_signed b face) ts (λ t i. has_signed_parity a b face t same)

  -- two signs that follow each other are both signs
  pub both_signs : (a b : ℕ) → b % 2 ≡ (a + 1) % 2
      → count_by (has_signed a face) ts + count_by (has_signed b face) ts ≡ count_by (has_signed 0 face) ts + count_by (has_signed 1 face) ts
  both_signs a b next = elim (parity_or a) [
    | inl even ↦ omega (arith, sign_parity a 0 even, sign_parity b 1 (omega (arith, even, next)))
    | inr odd ↦ omega (arith, sign_parity a 1 odd, sign_parity b 0 (omega (arith, odd, next)))
  ]

  -- where each sign is had once, any sign is
  pub each_sign : (a : ℕ) → count_by (has_signed 0 face) ts ≡ 1 → count_by (has_signed 1 face) ts ≡ 1 → count_by (has_signed a face) ts ≡ 1
  each_sign a zero_once one_once = elim (parity_or a) [
    | inl even ↦ sign_parity a 0 even ∙ zero_once
    | inr odd ↦ sign_parity a 1 odd ∙ one_once
  ]
