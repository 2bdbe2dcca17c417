-- Bytes as tuples of one length, and back.
use Rattle.std.specs.Prelude.{◌≡◌, ℕ, zero, suc, ◌+◌, ◌*◌, ◌<◌, ◌≤◌, List, ◌++◌, flat_map, length, take, drop, All}
use Rattle.std.specs.Simd.{first_chunks}
use Rattle.std.proofs.Common.{refl, sym, ap, ◌∙◌, arith}
use Rattle.std.proofs.lemmas.List.{take-append-drop, take-take, drop-take, length-take-le, length-drop}
use Rattle.std.proofs.lemmas.List.Elements.{All-nil, All-cons, All-take, All-drop}
use Rattle.iso_formats.proofs.TableRows.{IsRow}

pub length-first_chunks : (d k : ℕ) (xs : List ℕ) → length (first_chunks d k xs) ≡ k
length-first_chunks d zero xs = refl
length-first_chunks d (suc k) xs = ap (λ n. suc n) (length-first_chunks d k (drop d xs))

pub take_two : (m n : ℕ) (xs : List ℕ) → take m xs ++ take n (drop m xs) ≡ take (m + n) xs
take_two m n xs =
    ap (λ (l : List ℕ). l ++ take n (drop m xs)) (sym (take-take m (m + n) xs (omega arith)))
    ∙ ap (λ (l : List ℕ). take m (take (m + n) xs) ++ l) (sym (drop-take m n xs))
    ∙ take-append-drop m (take (m + n) xs)

pub flat_map-first_chunks : (d k : ℕ) (xs : List ℕ) → flat_map (λ (w : List ℕ). w) (first_chunks d k xs) ≡ take (k * d) xs
flat_map-first_chunks d zero xs = let e : zero * d ≡ 0 = omega arith in rw e refl
flat_map-first_chunks d (suc k) xs =
    let e : suc k * d ≡ d + k * d = omega arith in
    ap (λ (l : List ℕ). take d xs ++ l) (flat_map-first_chunks d k (drop d xs)) ∙ take_two d (k * d) xs ∙ ap (λ n. take n xs) (sym e)

pub rows-first_chunks : (most d k : ℕ) (xs : List ℕ) → k * d ≤ length xs → All (λ e. e < most) xs → All (IsRow d most) (first_chunks d k xs)
rows-first_chunks most d zero xs room right = All-nil (IsRow d most)
rows-first_chunks most d (suc k) xs room right =
    All-cons (IsRow d most) (take d xs) (first_chunks d k (drop d xs))
    (length-take-le d xs (omega (arith, room)), All-take (λ e. e < most) d xs right)
    (rows-first_chunks most d k (drop d xs) (omega (arith, room, length-drop d xs)) (All-drop (λ e. e < most) d xs right))
