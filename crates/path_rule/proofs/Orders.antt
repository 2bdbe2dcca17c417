-- Tests of all orders of a list: the first member of an order is picked, and the others follow.
use Rattle.std.specs.Prelude.{◌≡◌, ℕ, suc, Bool, false, ◌||◌, List, [], ◌∷◌, ◌++◌, map, flat_map}
use Rattle.std.specs.List.{list_any}
use Rattle.std.proofs.Common.{refl, ap, ◌∙◌, inl, inr}
use Rattle.std.proofs.lemmas.List.Concat.{flat_map-cons}
use Rattle.std.proofs.lemmas.List.Folds.{list_any-append}
use Rattle.lists.specs.Orders.{picks, orders_of}
use Rattle.lists.specs.Members.{In}
use Rattle.lists.proofs.Tests.{or_false}
use Rattle.lists.proofs.MemberLaws.{list_any-map}

pub any_same : {X : Type 0} (p q : X → Bool) (xs : List X) → ((x : X) → p x ≡ q x) → list_any p xs ≡ list_any q xs
any_same p q [] h = refl
any_same p q (x ∷ xs) h = ap (λ b. b || list_any p xs) (h x) ∙ ap (λ b. q x || b) (any_same p q xs h)

pub any_flat_map : {X Y : Type 0} (p : Y → Bool) (f : X → List Y) (xs : List X) → list_any p (flat_map f xs) ≡ list_any (λ x. list_any p (f x)) xs
any_flat_map p f [] = refl
any_flat_map {X} {Y} p f (x ∷ xs) =
    ap (λ (l : List Y). list_any p l) (flat_map-cons f x xs) ∙ list_any-append p (f x) (flat_map f xs) ∙ ap (λ b. list_any p (f x) || b) (any_flat_map p f xs)

-- some order passes where some pick does, followed by some order of the others
pub orders_suc : {X : Type 0} (test : List X → Bool) (n : ℕ) (xs : List X)
    → list_any test (orders_of (suc n) xs) ≡ list_any (λ (p : X × List X). list_any (λ r. test (p.0 ∷ r)) (orders_of n p.1)) (picks xs)
orders_suc {X} test n xs =
    any_flat_map test (λ (p : X × List X). map (λ r. p.0 ∷ r) (orders_of n p.1)) (picks xs)
    ∙ any_same (λ (p : X × List X). list_any test (map (λ r. p.0 ∷ r) (orders_of n p.1)))
    (λ (p : X × List X). list_any (λ r. test (p.0 ∷ r)) (orders_of n p.1)) (picks xs)
    (λ p. list_any-map test (λ r. p.0 ∷ r) (orders_of n p.1))

-- no pick passes where no member does
pub picks_none : {X : Type 0} (s : ℕ → X) (test : X × List X → Bool) (is : List ℕ) → ((i : ℕ) → In i is → (rest : List X) → test (s i, rest) ≡ false)
    → list_any test (picks (map s is)) ≡ false
picks_none s test [] none = refl
picks_none {X} s test (i ∷ is) none =
    ap (λ b. b || list_any test (map (λ (p : X × List X). (p.0, s i ∷ p.1)) (picks (map s is)))) (none i (inl refl) (map s is))
    ∙ list_any-map test (λ (p : X × List X). (p.0, s i ∷ p.1)) (picks (map s is))
    ∙ picks_none s (λ (p : X × List X). test (p.0, s i ∷ p.1)) is (λ j m rest. none j (inr m) (s i ∷ rest))

-- where no other member passes, the one of t is asked
pub picks_only : {X : Type 0} (s : ℕ → X) (test : X × List X → Bool) (front : List ℕ) (t : ℕ) (back : List ℕ)
    → ((i : ℕ) → In i front → (rest : List X) → test (s i, rest) ≡ false)
    → ((i : ℕ) → In i back → (rest : List X) → test (s i, rest) ≡ false) → list_any test (picks (map s (front ++ t ∷ back))) ≡ test (s t, map s (front ++ back))
picks_only {X} s test [] t back before after =
    ap (λ b. test (s t, map s back) || b)
    (
    list_any-map test (λ (p : X × List X). (p.0, s t ∷ p.1)) (picks (map s back))
    ∙ picks_none s (λ (p : X × List X). test (p.0, s t ∷ p.1)) back (λ j m rest. after j m (s t ∷ rest)))
    ∙ or_false (test (s t, map s back))
picks_only {X} s test (i ∷ front) t back before after =
    ap (λ b. b || list_any test (map (λ (p : X × List X). (p.0, s i ∷ p.1)) (picks (map s (front ++ t ∷ back)))))
    (before i (inl refl) (map s (front ++ t ∷ back)))
    ∙ list_any-map test (λ (p : X × List X). (p.0, s i ∷ p.1)) (picks (map s (front ++ t ∷ back)))
    ∙ picks_only s (λ (p : X × List X). test (p.0, s i ∷ p.1)) front t back (λ j m rest. before j (inr m) (s i ∷ rest)) (λ j m rest. after j m (s i ∷ rest))
