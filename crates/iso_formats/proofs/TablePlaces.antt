-- Bytes that stand at a place, and the numbers that they spell.
use Rattle.std.specs.Prelude.{◌≡◌, ℕ, ◌+◌, ◌^◌, ◌<◌, ◌≤◌, List, ◌∷◌, ◌++◌, length, slice_index, take, drop, All}
use Rattle.std.specs.Int.{w32, w64, from_be_bytes}
use Rattle.std.proofs.Common.{get_or, refl, sym, ap, ◌∙◌, arith, inl, inr}
use Rattle.std.proofs.lemmas.Nat.{from_be_bytes-to_be_bytes_4, from_be_bytes-to_be_bytes_8, be_bytes_4, be_bytes_8}
use Rattle.std.proofs.lemmas.List.{append_assoc, drop_all, take-append-drop, drop-drop, drop_at, length-append, length-drop, length-take-le}
use Rattle.std.proofs.lemmas.List.{get_or_append_left}
use Rattle.std.proofs.lemmas.List.{get_or-drop, get_or_past}
use Rattle.std.proofs.lemmas.Bool.{cases_lt}
use Rattle.std.proofs.lemmas.List.Elements.{All-take, All-drop}
use Rattle.iso_formats.specs.TableFile.{big_endian}
use Rattle.iso_formats.specs.TableFile2.{number_at}

-- the list stands in the bytes from a place on
abbrev pub StandsAt : List ℕ → ℕ → List ℕ → Type 0
StandsAt bytes place xs = drop place bytes ≡ xs ++ drop (place + length xs) bytes

-- what follows a list at a place, and that the list stands there
pub behind_front : (bytes : List ℕ) (place : ℕ) (xs rest : List ℕ) → drop place bytes ≡ xs ++ rest → drop (place + length xs) bytes ≡ rest
behind_front bytes place xs rest e =
    sym (drop-drop (length xs) place bytes) ∙ ap (λ (l : List ℕ). drop (length xs) l) e ∙ drop_at xs rest (length xs) refl

pub stands_front : (bytes : List ℕ) (place : ℕ) (xs rest : List ℕ) → drop place bytes ≡ xs ++ rest → StandsAt bytes place xs
stands_front bytes place xs rest e = e ∙ ap (λ (l : List ℕ). xs ++ l) (sym (behind_front bytes place xs rest e))

-- the later of two lists, and the earlier
pub stands_later : (bytes : List ℕ) (place : ℕ) (xs ys : List ℕ) → StandsAt bytes place (xs ++ ys) → StandsAt bytes (place + length xs) ys
stands_later bytes place xs ys e =
    let rest = drop (place + length (xs ++ ys)) bytes in
    let far : place + length (xs ++ ys) ≡ place + length xs + length ys = omega (arith, length-append xs ys) in
    sym (drop-drop (length xs) place bytes) ∙ ap (λ (l : List ℕ). drop (length xs) l) (e ∙ append_assoc xs ys rest)
    ∙ drop_at xs (ys ++ rest) (length xs) refl ∙ ap (λ n. ys ++ drop n bytes) far

pub stands_earlier : (bytes : List ℕ) (place : ℕ) (xs ys : List ℕ) → StandsAt bytes place (xs ++ ys) → StandsAt bytes place xs
stands_earlier bytes place xs ys e =
    let rest = drop (place + length (xs ++ ys)) bytes in
    let far : place + length (xs ++ ys) ≡ place + length xs + length ys = omega (arith, length-append xs ys) in
    e ∙ append_assoc xs ys rest
    ∙ ap (λ (l : List ℕ). xs ++ l) (ap (λ n. ys ++ drop n bytes) far ∙ sym (stands_later bytes place xs ys e))

pub stands_both : (bytes : List ℕ) (place : ℕ) (xs ys : List ℕ) → StandsAt bytes place xs → StandsAt bytes (place + length xs) ys
    → StandsAt bytes place (xs ++ ys)
stands_both bytes place xs ys a b =
    let far : place + length xs + length ys ≡ place + length (xs ++ ys) = omega (arith, length-append xs ys) in
    a ∙ ap (λ (l : List ℕ). xs ++ l) (b ∙ ap (λ n. ys ++ drop n bytes) far) ∙ sym (append_assoc xs ys (drop (place + length (xs ++ ys)) bytes))

-- what stands there is inside
pub stands_inside : (bytes : List ℕ) (place : ℕ) (xs : List ℕ) → place ≤ length bytes → StandsAt bytes place xs → place + length xs ≤ length bytes
stands_inside bytes place xs h e =
    omega (
      arith,
      h,
      ap (λ (l : List ℕ). length l) e,
      length-append xs (drop (place + length xs) bytes),
      length-drop place bytes,
      length-drop (place + length xs) bytes,
    )

-- its members are those of the bytes
pub stands_member : (bytes : List ℕ) (place : ℕ) (xs : List ℕ) (j : ℕ) → StandsAt bytes place xs → j < length xs
    → slice_index bytes (place + j) ≡ slice_index xs j
stands_member bytes place xs j e h =
    sym (get_or-drop place bytes j 0) ∙ ap (λ (l : List ℕ). slice_index l j) e ∙ get_or_append_left xs (drop (place + length xs) bytes) 0 j h

-- ---- numbers

pub number_of_4 : (bytes : List ℕ) (place n : ℕ) → n < 2 ^ 32 → StandsAt bytes place (big_endian 4 n) → number_at w32 bytes place ≡ n
number_of_4 bytes place n h e = ap (λ (l : List ℕ). from_be_bytes w32 (take 4 l)) e ∙ from_be_bytes-to_be_bytes_4 n h

pub number_of_8 : (bytes : List ℕ) (place n : ℕ) → n < 2 ^ 64 → StandsAt bytes place (big_endian 8 n) → number_at w64 bytes place ≡ n
number_of_8 bytes place n h e = ap (λ (l : List ℕ). from_be_bytes w64 (take 8 l)) e ∙ from_be_bytes-to_be_bytes_8 n h

All_member : (xs : List ℕ) → All (λ b. b < 256) xs → (i : ℕ) → get_or xs i 0 < 256
All_member xs a i = elim (cases_lt i (length xs)) [ inl inside ↦ a i 0 inside | inr past ↦ omega (arith, get_or_past xs i 0 past) ]

pub stands_4 : (bytes : List ℕ) (place : ℕ) → All (λ b. b < 256) bytes → place + 4 ≤ length bytes
    → StandsAt bytes place (big_endian 4 (number_at w32 bytes place))
stands_4 bytes place small h =
    let four = take 4 (drop place bytes) in
    let long : length four ≡ 4 = length-take-le 4 (drop place bytes) (omega (arith, h, length-drop place bytes)) in
    let are = be_bytes_4 four (number_at w32 bytes place) long
    (All_member four (All-take (λ b. b < 256) 4 (drop place bytes) (All-drop (λ b. b < 256) place bytes small))) refl in
    sym (take-append-drop 4 (drop place bytes)) ∙ ap (λ (l : List ℕ). l ++ drop 4 (drop place bytes)) (sym are)
    ∙ ap (λ (l : List ℕ). big_endian 4 (number_at w32 bytes place) ++ l) (drop-drop 4 place bytes)

pub stands_8 : (bytes : List ℕ) (place : ℕ) → All (λ b. b < 256) bytes → place + 8 ≤ length bytes
    → StandsAt bytes place (big_endian 8 (number_at w64 bytes place))
stands_8 bytes place small h =
    let eight = take 8 (drop place bytes) in
    let long : length eight ≡ 8 = length-take-le 8 (drop place bytes) (omega (arith, h, length-drop place bytes)) in
    let are = be_bytes_8 eight (number_at w64 bytes place) long
    (All_member eight (All-take (λ b. b < 256) 8 (drop place bytes) (All-drop (λ b. b < 256) place bytes small))) refl in
    sym (take-append-drop 8 (drop place bytes)) ∙ ap (λ (l : List ℕ). l ++ drop 8 (drop place bytes)) (sym are)
    ∙ ap (λ (l : List ℕ). big_endian 8 (number_at w64 bytes place) ++ l) (drop-drop 8 place bytes)
