-- Lists that grow by one member after another.
use Rattle.std.proofs.Common.{◌≡◌, ℕ, ◌+◌, ◌<◌, Bool, true, false, List, [], ◌∷◌, ◌++◌, length, map, take, get_or, refl, sym, ap, ◌∙◌, append_assoc, arith}
use Rattle.std.specs.Prelude.{filter, flat_map, if◌then◌else◌}
use Rattle.std.proofs.lemmas.List.{take_more, map-append, flat_map_more}
use Rattle.lists.specs.Orders.{numbers}
use Rattle.lists.proofs.MemberLaws.{range-push}

-- one member more of a mapped list
pub mapped_more : {X Y : Type 0} (f : X → Y) (xs : List X) (i : ℕ) (d : X) (front ys next : List Y) → i < length xs
    → ys ≡ front ++ map f (take i xs) → next ≡ ys ++ f (get_or xs i d) ∷ [] → next ≡ front ++ map f (take (i + 1) xs)
mapped_more {X} {Y} f xs i d front ys next h before now =
    let more : map f (take (i + 1) xs) ≡ map f (take i xs) ++ f (get_or xs i d) ∷ [] =
    ap (map f) (take_more xs i d h) ∙ map-append f (take i xs) (get_or xs i d ∷ []) in
    now ∙ ap (λ (zs : List Y). zs ++ f (get_or xs i d) ∷ []) before ∙ append_assoc front (map f (take i xs)) (f (get_or xs i d) ∷ [])
    ∙ ap (λ (zs : List Y). front ++ zs) (sym more)

-- the lists of one member more
pub joined_more : {X Y : Type 0} (f : X → List Y) (xs : List X) (i : ℕ) (d : X) (ys next : List Y) → i < length xs
    → ys ≡ flat_map f (take i xs) → next ≡ ys ++ f (get_or xs i d) → next ≡ flat_map f (take (i + 1) xs)
joined_more {X} {Y} f xs i d ys next h before now =
    now ∙ ap (λ (zs : List Y). zs ++ f (get_or xs i d)) before ∙ flat_map_more f [] (take i xs) (get_or xs i d) ∙ ap (flat_map f) (sym (take_more xs i d h))

-- one number more of those that pass a test
chosen_push : {X : Type 0} (p : X → Bool) (xs : List X) (x : X) → filter p (xs ++ x ∷ []) ≡ filter p xs ++ (if p x then x ∷ [] else [])
chosen_push {X} p [] x = go (p x)
  where
    go : (b : Bool) → (if b then x ∷ [] else []) ≡ [] ++ (if b then x ∷ [] else [])
    go true = refl
    go false = refl
chosen_push {X} p (y ∷ xs) x = go (p y) (chosen_push p xs x)
  where
    go : (b : Bool) → filter p (xs ++ x ∷ []) ≡ filter p xs ++ (if p x then x ∷ [] else [])
        → (if b then y ∷ filter p (xs ++ x ∷ []) else filter p (xs ++ x ∷ [])) ≡ (if b then y ∷ filter p xs else filter p xs) ++ (if p x then x ∷ [] else [])
    go true e = ap (λ (zs : List X). y ∷ zs) e
    go false e = e

pub chosen_more : {X : Type 0} (p : X → Bool) (f : ℕ → X) (n : ℕ) (front ys next : List X) → ys ≡ front ++ filter p (map f (numbers n))
    → next ≡ ys ++ (if p (f n) then f n ∷ [] else []) → next ≡ front ++ filter p (map f (numbers (n + 1)))
chosen_more {X} p f n front ys next before now =
    let last : numbers (n + 1) ≡ numbers n ++ n ∷ [] = range-push 0 n ∙ ap (λ (k : ℕ). numbers n ++ k ∷ []) (same n) in
    let more : filter p (map f (numbers (n + 1))) ≡ filter p (map f (numbers n)) ++ (if p (f n) then f n ∷ [] else []) =
    ap (λ (ks : List ℕ). filter p (map f ks)) last ∙ ap (filter p) (map-append f (numbers n) (n ∷ [])) ∙ chosen_push p (map f (numbers n)) (f n) in
    now ∙ ap (λ (zs : List X). zs ++ (if p (f n) then f n ∷ [] else [])) before
    ∙ append_assoc front (filter p (map f (numbers n))) (if p (f n) then f n ∷ [] else []) ∙ ap (λ (zs : List X). front ++ zs) (sym more)
  where
    same : (k : ℕ) → 0 + k ≡ k
    same k = omega arith
