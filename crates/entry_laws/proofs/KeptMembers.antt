-- Tests of all members of a list, and the members that a test keeps.
use Rattle.std.proofs.Common.{◌≡◌, ℕ, ◌≤◌, Bool, true, List, [], ◌∷◌, length, refl, sym, ◌∙◌, arith, inl, inr}
use Rattle.std.specs.List.{list_all}
use Rattle.std.proofs.lemmas.Bool.{and_parts, and_from}
use Rattle.lists.specs.Members.{In, Each}

-- what passes a test at each number passes the test of all
pub all_from_each : (p : ℕ → Bool) (xs : List ℕ) → Each (λ x. p x ≡ true) xs → list_all p xs ≡ true
all_from_each p [] h = refl
all_from_each p (x ∷ xs) h = and_from (p x) (list_all p xs) h.0 (all_from_each p xs h.1)

-- what passes the test of all passes it at each number
pub each_from_all : (p : ℕ → Bool) (xs : List ℕ) → list_all p xs ≡ true → Each (λ x. p x ≡ true) xs
each_from_all p [] h = tt
each_from_all p (x ∷ xs) h = let r = and_parts (p x) (list_all p xs) h in (r.0, each_from_all p xs r.1)

-- a list with a member is not empty
pub some_member : (x : ℕ) (xs : List ℕ) → In x xs → 1 ≤ length xs
some_member x [] i = absurd i
some_member x (y ∷ xs) i = omega arith

-- and one without members is
pub no_member : (xs : List ℕ) → ((x : ℕ) → In x xs → ⊥) → length xs ≡ 0
no_member [] h = refl
no_member (y ∷ xs) h = absurd (h y (inl refl))

-- all members of a list of one are the same
pub only_member : (x y : ℕ) (xs : List ℕ) → length xs ≡ 1 → In x xs → In y xs → x ≡ y
only_member x y [] n i j = absurd i
only_member x y (z ∷ []) n (inl e) (inl f) = e ∙ sym f
only_member x y (z ∷ []) n (inl e) (inr j) = absurd j
only_member x y (z ∷ []) n (inr i) j = absurd i
only_member x y (z ∷ u ∷ xs) n i j = absurd (omega (arith, n))
