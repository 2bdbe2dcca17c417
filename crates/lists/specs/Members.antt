-- Members of lists, and lists whose members stand in order.
use Rattle.std.proofs.Common.{List, [], ℕ, ◌<◌, ◌∷◌, ◌≡◌}
use Rattle.std.specs.Prelude.{Contains, count_by, nat_eq, ⊤, ◌⊎◌}

abbrev pub In : {X : Type 0} → X → List X → Type 0
In x [] = ⊥
In x (y ∷ ys) = (x ≡ y) ⊎ In x ys

-- each member is in the domain
abbrev pub Each : (ℕ → Type 0) → List ℕ → Type 0
Each D [] = ⊤
Each D (x ∷ xs) = D x × Each D xs

-- no number stands twice
abbrev pub Distinct : List ℕ → Type 0
Distinct [] = ⊤
Distinct (x ∷ xs) = (count_by (nat_eq x) xs ≡ 0) × Distinct xs

-- each key is below all later ones
abbrev pub Climbs : {X : Type 0} → (X → ℕ) → List X → Type 0
Climbs key [] = ⊤
Climbs {X} key (x ∷ xs) = ((y : X) → In y xs → key x < key y) × Climbs key xs

-- a list of numbers ascends
abbrev pub Ascends : List ℕ → Type 0
Ascends xs = Climbs (λ x. x) xs

pub record IsStrict {X : Type 0} (R : X → X → Type 0) : Type 0 where
  pub irreflexive : (x : X) → R x x → ⊥
  pub transitive : (x y z : X) → R x y → R y z → R x z

-- each member stands before all later ones
abbrev pub AscendsBy : {X : Type 0} → (X → X → Type 0) → List X → Type 0
AscendsBy R [] = ⊤
AscendsBy {X} R (x ∷ xs) = ((y : X) → Contains xs y → R x y) × AscendsBy R xs
