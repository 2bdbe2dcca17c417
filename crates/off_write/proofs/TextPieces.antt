-- Pieces of a text end at the first space or end of a line.
use Rattle.std.proofs.Common.{◌≡◌, ℕ, zero, suc, ◌+◌, ◌/◌, ◌%◌, ◌<◌, ◌≤◌, true, false, List, [], ◌∷◌, ◌++◌, ◌==◌, nat_lt, refl, sym, ap, ◌∙◌, arith}
use Rattle.std.proofs.Common.{append_assoc, if◌then◌else◌}
use Rattle.std.specs.Fmt.{digits, digits_onto, digit_glyph, decimal}
use Rattle.iso_formats.specs.MeshText.{line, last_digits}

-- each byte is above m
abbrev pub Above : ℕ → List ℕ → Type 0
Above m [] = Unit {0}
Above m (x ∷ xs) = (m < x) × Above m xs

pub Above-append : (m : ℕ) (xs ys : List ℕ) → Above m xs → Above m ys → Above m (xs ++ ys)
Above-append m [] ys p q = q
Above-append m (x ∷ xs) ys p q = (p.0, Above-append m xs ys p.1 q)

pub Above-rest : (m : ℕ) (xs ys : List ℕ) → Above m (xs ++ ys) → Above m ys
Above-rest m [] ys p = p
Above-rest m (x ∷ xs) ys p = Above-rest m xs ys p.1

pub Above-less : (m n : ℕ) (xs : List ℕ) → m ≤ n → Above n xs → Above m xs
Above-less m n [] h p = tt
Above-less m n (x ∷ xs) h p = (omega (arith, p.0), Above-less m n xs h p.1)

-- the first byte that is not above m ends the same piece
pub same_piece : (m : ℕ) (a b s t : List ℕ) (c d : ℕ) → Above m a → Above m b → c ≤ m → d ≤ m → a ++ c ∷ s ≡ b ++ d ∷ t → (a ≡ b) × (c ≡ d) × (s ≡ t)
same_piece m [] [] s t c d p q h k e = (refl, cc, cc)
same_piece m [] (y ∷ b) s t c d p q h k e = let f : c ≡ y = cc in absurd (omega (arith, q.0))
same_piece m (x ∷ a) [] s t c d p q h k e = let f : x ≡ d = cc in absurd (omega (arith, p.0))
same_piece m (x ∷ a) (y ∷ b) s t c d p q h k e =
    let r = same_piece m a b s t c d p.1 q.1 h k (cc) in
    let f : x ≡ y = cc in
    let g : a ≡ b = r.0 in
    (cc, r.1, r.2)

-- something is not nothing
pub not_nothing : (xs : List ℕ) (c : ℕ) (s : List ℕ) → [] ≡ xs ++ c ∷ s → ⊥
not_nothing [] c s e = cc
not_nothing (x ∷ xs) c s e = cc

-- each piece is plain: its bytes are above a space
abbrev pub ArePlain : List (List ℕ) → Type 0
ArePlain [] = Unit {0}
ArePlain (x ∷ xs) = Above 32 x × ArePlain xs

-- a line has its pieces, and what follows
pub same_line : (x y : List ℕ) (xs ys : List (List ℕ)) (s t : List ℕ) → ArePlain (x ∷ xs) → ArePlain (y ∷ ys) → line (x ∷ xs) ++ s ≡ line (y ∷ ys) ++ t
    → (x ≡ y) × (xs ≡ ys) × (s ≡ t)
same_line x y [] [] s t p q e =
    let f = sym (append_assoc x (10 ∷ []) s) ∙ e ∙ append_assoc y (10 ∷ []) t in
    let r = same_piece 32 x y s t 10 10 p.0 q.0 (omega arith) (omega arith) f in
    (r.0, refl, r.2)
same_line x y [] (z ∷ ys) s t p q e =
    let f = sym (append_assoc x (10 ∷ []) s) ∙ e ∙ append_assoc y (32 ∷ line (z ∷ ys)) t in
    let r = same_piece 32 x y s (line (z ∷ ys) ++ t) 10 32 p.0 q.0 (omega arith) (omega arith) f in
    absurd (omega (arith, r.1))
same_line x y (w ∷ xs) [] s t p q e =
    let f = sym (append_assoc x (32 ∷ line (w ∷ xs)) s) ∙ e ∙ append_assoc y (10 ∷ []) t in
    let r = same_piece 32 x y (line (w ∷ xs) ++ s) t 32 10 p.0 q.0 (omega arith) (omega arith) f in
    absurd (omega (arith, r.1))
same_line x y (w ∷ xs) (z ∷ ys) s t p q e =
    let f = sym (append_assoc x (32 ∷ line (w ∷ xs)) s) ∙ e ∙ append_assoc y (32 ∷ line (z ∷ ys)) t in
    let r = same_piece 32 x y (line (w ∷ xs) ++ s) (line (z ∷ ys) ++ t) 32 32 p.0 q.0 (omega arith) (omega arith) f in
    let u = same_line w z xs ys s t p.1 q.1 r.2 in
    (r.0, ap (λ h. h ∷ xs) u.0 ∙ ap (λ rest. z ∷ rest) u.1, u.2)

-- a line with what follows is not nothing
pub line_not_nothing : (x : List ℕ) (xs : List (List ℕ)) (s : List ℕ) → [] ≡ line (x ∷ xs) ++ s → ⊥
line_not_nothing x [] s e = not_nothing x 10 s (e ∙ append_assoc x (10 ∷ []) s)
line_not_nothing x (w ∷ xs) s e = not_nothing x 32 (line (w ∷ xs) ++ s) (e ∙ append_assoc x (32 ∷ line (w ∷ xs)) s)

-- ---- digits

glyph_above : (d : ℕ) → 47 < digit_glyph false d
glyph_above d = elim (nat_lt d 10) as (λ b. 47 < (if b then 48 + d else 87 + d)) [ true ↦ omega arith | false ↦ omega arith ]

onto_above : (k n : ℕ) (acc : List ℕ) → Above 47 acc → Above 47 (digits_onto k 10 false n acc)
onto_above zero n acc p = p
onto_above (suc k) n acc p =
    let here = glyph_above (n % 10) in
    let more = onto_above k (n / 10) (digit_glyph false (n % 10) ∷ acc) (here, p) in
    elim (n / 10 == 0) as (λ b. Above 47 (if b then digit_glyph false (n % 10) ∷ acc else digits_onto k 10 false (n / 10) (digit_glyph false (n % 10) ∷ acc))) [
      | true ↦ (here, p)
      | false ↦ more
    ]

-- the digits of any number
pub decimal_above : (n : ℕ) → Above 47 (decimal n)
unfolding digits
decimal_above n = onto_above 64 n [] tt

pub last_above : (k n : ℕ) → Above 47 (last_digits k n)
last_above zero n = tt
last_above (suc k) n = Above-append 47 (last_digits k (n / 10)) ((48 + n % 10) ∷ []) (last_above k (n / 10)) (omega arith, tt)
