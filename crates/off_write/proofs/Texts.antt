-- Lines and numbers, as the code writes them.
use Rattle.std.proofs.Common.{◌≡◌, ℕ, ◌+◌, ◌-◌, ◌/◌, ◌^◌, ◌<◌, ◌≤◌, List, [], ◌∷◌, ◌++◌, length, map, take, drop, sym, ap, ◌∙◌, arith, append_assoc}
use Rattle.std.proofs.Common.{length-append, append-nil, get_or}
use Rattle.std.specs.Fmt.{decimal}
use Rattle.std.specs.List.{flat_map}
use Rattle.std.proofs.lemmas.Fmt.{decimal_digit, decimal_step}
use Rattle.std.proofs.lemmas.List.{take-append-le, take_all, take_more, flat_map_more}
use Rattle.std.proofs.Math.Seq.{take-add}
use Rattle.iso_formats.specs.MeshText.{line}

-- ---- how many digits a number has

pub length_one : (n : ℕ) → n < 10 → length (decimal n) ≡ 1
length_one n h = ap length (decimal_digit n h)

step : (n : ℕ) → 10 ≤ n → n < 2 ^ 64 → length (decimal n) ≡ length (decimal (n / 10)) + 1
step n low high = ap length (decimal_step n low high) ∙ length-append _ _

pub length_two : (n : ℕ) → 10 ≤ n → n < 100 → length (decimal n) ≡ 2
length_two n low high = let s = step n low (omega arith) in let r = length_one (n / 10) (omega arith) in omega arith

pub length_three : (n : ℕ) → 100 ≤ n → n < 1000 → length (decimal n) ≡ 3
length_three n low high = let s = step n (omega arith) (omega arith) in let r = length_two (n / 10) (omega arith) (omega arith) in omega arith

pub length_short : (n : ℕ) → 1000 ≤ n → n < 10000 → length (decimal n) ≡ 4
length_short n low high = let s = step n (omega arith) (omega arith) in let r = length_three (n / 10) (omega arith) (omega arith) in omega arith

-- four digits at a time
pub length_four : (n : ℕ) → 10000 ≤ n → n < 2 ^ 64 → length (decimal n) ≡ length (decimal (n / 10000)) + 4
length_four n low high =
    let a = step n (omega arith) high in
    let b = step (n / 10) (omega arith) (omega arith) in
    let c = step (n / 10 / 10) (omega arith) (omega arith) in
    let d = step (n / 10 / 10 / 10) (omega arith) (omega arith) in
    let e : n / 10 / 10 / 10 / 10 ≡ n / 10000 = omega arith in
    let f = ap (λ k. length (decimal k)) e in
    omega arith

-- digits that were written behind the first `at` bytes
pub after_digits : (old new digits rest : List ℕ) (at : ℕ) → drop at new ≡ digits ++ rest → take at new ≡ take at old
    → take (at + length digits) new ≡ take at old ++ digits
after_digits old new digits rest at d t =
    let whole : take (length digits) (digits ++ rest) ≡ digits =
    take-append-le (length digits) digits rest (omega arith) ∙ take_all (length digits) digits (omega arith) in
    rw (take-add at (length digits) new, d, whole, t)

-- ---- lines

-- a line of a first piece and those of a list: each of them after a space
pub line_of_map : {X : Type 0} (f : X → List ℕ) (x : List ℕ) (ys : List X) → line (x ∷ map f ys) ≡ (x ++ flat_map (λ y. 32 ∷ f y) ys) ++ 10 ∷ []
line_of_map f x [] = ap (λ z. z ++ 10 ∷ []) (sym (append-nil x))
line_of_map f x (y ∷ ys) = ap (λ z. x ++ 32 ∷ z) (line_of_map f (f y) ys) ∙ sym (append_assoc x (32 ∷ (f y ++ flat_map (λ y. 32 ∷ f y) ys)) (10 ∷ []))

-- one piece more, after a space
pub pieces_more : {X : Type 0} (f : X → List ℕ) (head page new : List ℕ) (i : ℕ) (xs : List X) (d : X) → i < length xs
    → page ≡ head ++ flat_map (λ y. 32 ∷ f y) (take i xs)
    → new ≡ (page ++ 32 ∷ []) ++ f (get_or xs i d) → new ≡ head ++ flat_map (λ y. 32 ∷ f y) (take (i + 1) xs)
pieces_more f head page new i xs d h p e =
    let x = get_or xs i d in
    e ∙ append_assoc page (32 ∷ []) (f x) ∙ ap (λ z. z ++ 32 ∷ f x) p ∙ flat_map_more (λ y. 32 ∷ f y) head (take i xs) x
    ∙ ap (λ ys. head ++ flat_map (λ y. 32 ∷ f y) ys) (sym (take_more xs i d h))

-- the first and the others
pub first_and_rest : {X : Type 0} (xs : List X) (d : X) → 0 < length xs → xs ≡ get_or xs 0 d ∷ take (length xs - 1) (drop 1 xs)
first_and_rest [] d h = absurd (omega (arith, h))
first_and_rest (x ∷ xs) d h = ap (λ ys. x ∷ ys) (sym (take_all (length (x ∷ xs) - 1) xs (omega arith)))
