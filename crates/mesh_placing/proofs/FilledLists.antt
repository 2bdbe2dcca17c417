-- Lists that are made member by member.
use Rattle.std.proofs.Common.{◌≡◌, ◌≢◌, ℕ, zero, suc, ◌+◌, ◌*◌, ◌<◌, Bool, true, false, List, [], ◌∷◌, ◌++◌, length, map, take, get_or, refl, sym, ap}
use Rattle.std.proofs.Common.{◌∙◌, arith, append_assoc, below_more, get_or-set_other, get_or-set_same}
use Rattle.std.specs.Prelude.{Contains, if◌then◌else◌, filter, flat_map, slice_index_or, slice_set}
use Rattle.std.specs.List.{range_with_len, swap}
use Rattle.std.proofs.Math.ListN.{length-set}
use Rattle.std.proofs.lemmas.List.{take_more, map-append, flat_map_more}
use Rattle.std.proofs.lemmas.Grind.{flat_map-append}
use Rattle.std.proofs.lemmas.List.Edits.{swap_is}
use Rattle.lists.specs.Orders.{numbers, exchange_last}
use Rattle.mixed_cubes.proofs.SampleRows.{range_joined}
use Rattle.lists.proofs.Contained.{Contains-head, Contains-tail}
use Rattle.lists.proofs.MemberLaws.{range-push}

-- ---- numbers

-- one number more
pub flat_map-range_more : {Y : Type 0} (f : ℕ → List Y) (a n : ℕ) (front ys next : List Y) → ys ≡ front ++ flat_map f (range_with_len a n)
    → next ≡ ys ++ f (a + n) → next ≡ front ++ flat_map f (range_with_len a (n + 1))
flat_map-range_more {Y} f a n front ys next before now =
    now ∙ ap (λ (zs : List Y). zs ++ f (a + n)) before ∙ flat_map_more f front (range_with_len a n) (a + n)
    ∙ ap (λ (xs : List ℕ). front ++ flat_map f xs) (sym (range-push a n))

-- one member more
pub flat_map-take_more : {X Y : Type 0} (f : X → List Y) (xs : List X) (i : ℕ) (d : X) (ys next : List Y) → i < length xs
    → ys ≡ flat_map f (take i xs) → next ≡ ys ++ f (get_or xs i d) → next ≡ flat_map f (take (i + 1) xs)
flat_map-take_more {X} {Y} f xs i d ys next h before now =
    now ∙ ap (λ (zs : List Y). zs ++ f (get_or xs i d)) before ∙ flat_map_more f [] (take i xs) (get_or xs i d) ∙ ap (flat_map f) (sym (take_more xs i d h))

-- the numbers below a product, piece by piece
pub flat_map-numbers_times : {Y : Type 0} (f : ℕ → List Y) (n m : ℕ)
    → flat_map (λ c. flat_map f (range_with_len (c * m) m)) (numbers n) ≡ flat_map f (numbers (n * m))
flat_map-numbers_times f zero m = let none : zero * m ≡ 0 = omega arith in ap (λ (k : ℕ). flat_map f (numbers k)) (sym none)
flat_map-numbers_times {Y} f (suc n) m =
    let G : ℕ → List Y = λ c. flat_map f (range_with_len (c * m) m) in
    let one : suc n ≡ n + 1 = omega arith in
    let zero_first : 0 + n ≡ n = omega arith in
    let more : flat_map G (numbers (suc n)) ≡ flat_map G (numbers n) ++ G n =
    ap (λ (k : ℕ). flat_map G (numbers k)) one
    ∙ sym (flat_map-range_more G 0 n [] (flat_map G (numbers n)) (flat_map G (numbers n) ++ G (0 + n)) refl refl)
    ∙ ap (λ (k : ℕ). flat_map G (numbers n) ++ G k) zero_first in
    let whole : suc n * m ≡ n * m + m = omega arith in
    let place : 0 + n * m ≡ n * m = omega arith in
    let split : numbers (suc n * m) ≡ numbers (n * m) ++ range_with_len (n * m) m =
    ap numbers whole ∙ range_joined 0 (n * m) m ∙ ap (λ (k : ℕ). numbers (n * m) ++ range_with_len k m) place in
    more ∙ ap (λ (zs : List Y). zs ++ G n) (flat_map-numbers_times f n m) ∙ sym (flat_map-append f (numbers (n * m)) (range_with_len (n * m) m))
    ∙ ap (flat_map f) (sym split)

-- members that give nothing
pub flat_map-empty : {X Y : Type 0} (f : X → List Y) (xs : List X) → ((x : X) → Contains xs x → f x ≡ []) → flat_map f xs ≡ []
flat_map-empty f [] h = refl
flat_map-empty f (x ∷ xs) h = rw (h x (Contains-head x xs), flat_map-empty f xs (λ y c. h y (Contains-tail y x xs c))) refl

-- members that give nothing may be left out
pub flat_map-filter : {X Y : Type 0} (f : X → List Y) (p : X → Bool) (xs : List X) → ((x : X) → Contains xs x → p x ≡ false → f x ≡ [])
    → flat_map f (filter p xs) ≡ flat_map f xs
flat_map-filter f p [] h = refl
flat_map-filter {X} {Y} f p (x ∷ xs) h = go (p x) refl (flat_map-filter f p xs (λ y c e. h y (Contains-tail y x xs c) e))
  where
    go : (b : Bool) → p x ≡ b → flat_map f (filter p xs) ≡ flat_map f xs → flat_map f (if b then x ∷ filter p xs else filter p xs) ≡ f x ++ flat_map f xs
    go true e rest = ap (λ (zs : List Y). f x ++ zs) rest
    go false e rest = rest ∙ ap (λ (zs : List Y). zs ++ flat_map f xs) (sym (h x (Contains-head x xs) e))

-- a test that all pass keeps all
pub filter_all : {X : Type 0} (p : X → Bool) (xs : List X) → ((x : X) → p x ≡ true) → filter p xs ≡ xs
filter_all p [] h = refl
filter_all p (x ∷ xs) h = rw (h x, filter_all p xs h) refl

-- ---- members one after another

-- one member more of a mapped list
pub map-take_more : {X Y : Type 0} (f : X → Y) (xs : List X) (i : ℕ) (d : X) (front ys next : List Y) → i < length xs
    → ys ≡ front ++ map f (take i xs) → next ≡ ys ++ f (get_or xs i d) ∷ []
    → next ≡ front ++ map f (take (i + 1) xs)
map-take_more {X} {Y} f xs i d front ys next h before now =
    let more : map f (take (i + 1) xs) ≡ map f (take i xs) ++ f (get_or xs i d) ∷ [] =
    ap (map f) (take_more xs i d h) ∙ map-append f (take i xs) (get_or xs i d ∷ []) in
    now ∙ ap (λ (zs : List Y). zs ++ f (get_or xs i d) ∷ []) before ∙ append_assoc front (map f (take i xs)) (f (get_or xs i d) ∷ [])
    ∙ ap (λ (zs : List Y). front ++ zs) (sym more)

-- what is written at one place, where what is below holds already
pub set_next : {X : Type 0} (P : ℕ → X → Type 0) (d : X) (xs : List X) (a n : ℕ) (v : X) → length xs ≡ n → a < n
    → ((i : ℕ) → i < a → P i (slice_index_or xs i d)) → P a v
    → (length (slice_set xs a v) ≡ n) × ((i : ℕ) → i < a + 1 → P i (slice_index_or (slice_set xs a v) i d))
set_next P d xs a n v long inside before here =
    let at : a < length xs = omega (arith, long, inside) in (
      simp length-set long,
      below_more (λ i. P i (slice_index_or (slice_set xs a v) i d)) a
          (λ i h. let apart : i ≢ a = omega (arith, h) in rw get_or-set_other (before i h))
          (rw get_or-set_same here),
    )

-- ---- the last two places exchanged

-- exchanging the last two places is a swap
pub exchange_last-is : (i : ℕ) (w : List ℕ) → length w ≡ i + 2 → exchange_last w ≡ swap w i (i + 1)
exchange_last-is zero [] l = absurd (omega (arith, l))
exchange_last-is zero (x ∷ []) l = absurd (omega (arith, l))
exchange_last-is zero (x ∷ y ∷ []) l = refl
exchange_last-is zero (x ∷ y ∷ z ∷ w) l = absurd (omega (arith, l))
exchange_last-is (suc i) [] l = absurd (omega (arith, l))
exchange_last-is (suc i) (x ∷ []) l = absurd (omega (arith, l))
exchange_last-is (suc i) (x ∷ y ∷ []) l = absurd (omega (arith, l))
exchange_last-is (suc i) (x ∷ y ∷ z ∷ w) l =
    let inner : exchange_last (y ∷ z ∷ w) ≡ swap (y ∷ z ∷ w) i (i + 1) = exchange_last-is i (y ∷ z ∷ w) (omega (arith, l)) in
    let low : i < length (y ∷ z ∷ w) = omega (arith, l) in
    let high : i + 1 < length (y ∷ z ∷ w) = omega (arith, l) in
    let next : suc (i + 1) ≡ suc i + 1 = omega arith in
    ap (λ (v : List ℕ). x ∷ v) (inner ∙ sym (swap_is (y ∷ z ∷ w) i (i + 1) x low high)) ∙ ap (λ (j : ℕ). swap (x ∷ y ∷ z ∷ w) (suc i) j) next
