-- What the bytes of a sample spell, by width, sign and order.
use Rattle.std.proofs.Common.{◌≡◌, ◌⊎◌, inl, inr, ℕ, suc, ◌+◌, ◌-◌, ◌*◌, ◌^◌, ◌<◌, ◌≤◌, Bool, true, false, ltb, leb, ℤ, pos, negsuc, List, [], ◌∷◌}
use Rattle.std.proofs.Common.{◌++◌, length, take, drop, refl, sym, ap, ◌∙◌, arith, length-append}
use Rattle.std.specs.Prelude.{◌-ℤ◌, slice_index, if◌then◌else◌, nat_le}
use Rattle.std.specs.Int.{w8, w16, w32, cast_signed}
use Rattle.std.proofs.Math.Nat.{mul-le-mul_right}
use Rattle.std.proofs.lemmas.Bool.{cases_lt}
use Rattle.std.proofs.lemmas.List.{same_lists, length-drop, get_or-drop, drop-append-le, take-append-le, get_or_append_left, get_or-append_right}
use lib.Seq.{drop-append-add}
use Rattle.std.proofs.lemmas.List.FromFn.{length-map-range_with_len, get_or-map-range_with_len}
use Rattle.std.proofs.lemmas.Bool.Decides.{nat_tests}
use Rattle.std.proofs.lemmas.Int.{ints}
use Rattle.byteorder.specs.Endian.{big_number, little_number}
use Rattle.byteorder.specs.Numbers.{big_from-lt, little_from-lt}
use Rattle.nrrd_raw.specs.Forms.{HasValues}
use Rattle.iso_formats.specs.GridFile.{Header, number_of, sample_value, group_at, samples_of}

-- ---- numbers

pub big_two : (xs : List ℕ) → 2 ≤ length xs → number_of true (take 2 xs) ≡ big_number 2 xs
big_two [] l = absurd (omega arith)
big_two (a ∷ []) l = absurd (omega arith)
big_two (a ∷ b ∷ xs) l = omega arith

pub little_two : (xs : List ℕ) → 2 ≤ length xs → number_of false (take 2 xs) ≡ little_number 2 xs
little_two [] l = absurd (omega arith)
little_two (a ∷ []) l = absurd (omega arith)
little_two (a ∷ b ∷ xs) l = omega arith

pub big_four : (xs : List ℕ) → 4 ≤ length xs → number_of true (take 4 xs) ≡ big_number 4 xs
big_four [] l = absurd (omega arith)
big_four (a ∷ []) l = absurd (omega arith)
big_four (a ∷ b ∷ []) l = absurd (omega arith)
big_four (a ∷ b ∷ c ∷ []) l = absurd (omega arith)
big_four (a ∷ b ∷ c ∷ d ∷ xs) l = omega arith

pub little_four : (xs : List ℕ) → 4 ≤ length xs → number_of false (take 4 xs) ≡ little_number 4 xs
little_four [] l = absurd (omega arith)
little_four (a ∷ []) l = absurd (omega arith)
little_four (a ∷ b ∷ []) l = absurd (omega arith)
little_four (a ∷ b ∷ c ∷ []) l = absurd (omega arith)
little_four (a ∷ b ∷ c ∷ d ∷ xs) l = omega arith

pub one_byte : (big : Bool) (xs : List ℕ) → 1 ≤ length xs → number_of big (take 1 xs) ≡ slice_index xs 0
one_byte big [] l = absurd (omega arith)
one_byte true (a ∷ xs) l = omega arith
one_byte false (a ∷ xs) l = omega arith

-- ---- two's complement

below : (m n : ℕ) → m < n → (ltb m n ≡ true) × (leb n m ≡ false)
below m n l = (grind (arith, nat_tests), grind (arith, nat_tests))

above : (m n : ℕ) → n ≤ m → (ltb m n ≡ false) × (leb n m ≡ true)
above m n l = (grind (arith, nat_tests), grind (arith, nat_tests))

abbrev twos : ℕ → ℕ → ℕ → ℤ
twos half full n = if nat_le half n then pos n -ℤ pos full else pos n

wraps : (n full : ℕ) → n < full → pos n -ℤ pos full ≡ negsuc (full - suc n)
wraps n full l = omega (arith, ints)

pub signed_8 : (n : ℕ) → n < 2 ^ 8 → twos (2 ^ 7) (2 ^ 8) n ≡ cast_signed w8 n
signed_8 n l = elim (cases_lt n (2 ^ 7)) [
  | inl h ↦ rw ((below n (2 ^ 7) h).0, (below n (2 ^ 7) h).1) refl
  | inr h ↦ rw ((above n (2 ^ 7) h).0, (above n (2 ^ 7) h).1) (wraps n (2 ^ 8) l)
]

pub signed_16 : (n : ℕ) → n < 2 ^ 16 → twos (2 ^ 15) (2 ^ 16) n ≡ cast_signed w16 n
signed_16 n l = elim (cases_lt n (2 ^ 15)) [
  | inl h ↦ rw ((below n (2 ^ 15) h).0, (below n (2 ^ 15) h).1) refl
  | inr h ↦ rw ((above n (2 ^ 15) h).0, (above n (2 ^ 15) h).1) (wraps n (2 ^ 16) l)
]

pub signed_32 : (n : ℕ) → n < 2 ^ 32 → twos (2 ^ 31) (2 ^ 32) n ≡ cast_signed w32 n
signed_32 n l = elim (cases_lt n (2 ^ 31)) [
  | inl h ↦ rw ((below n (2 ^ 31) h).0, (below n (2 ^ 31) h).1) refl
  | inr h ↦ rw ((above n (2 ^ 31) h).0, (above n (2 ^ 31) h).1) (wraps n (2 ^ 32) l)
]

-- ---- samples in a piece

abbrev pub AreBytes : List ℕ → Type 0
AreBytes xs = (k : ℕ) → slice_index xs k < 256

bytes_behind : (n : ℕ) (xs : List ℕ) → AreBytes xs → AreBytes (drop n xs)
bytes_behind n xs b k = omega (arith, b (n + k), get_or-drop n xs k 0)

-- how a value spells a sample of the header
abbrev pub Spells : Header → (List ℕ → ℤ) → ℕ → Type 0
Spells h value width = (xs : List ℕ) → width ≤ length xs → AreBytes xs → value xs ≡ sample_value h (take width xs)

room : (k count width len : ℕ) → k < count → len ≡ count * width → width ≤ len - k * width
room k count width len l e =
    let more : (k + 1) * width ≤ count * width = mul-le-mul_right width (omega arith) in
    omega (arith, more)

pub samples_spelled : (h : Header) (value : List ℕ → ℤ) (width count : ℕ) (piece : List ℕ) (samples : List ℤ) → h.width ≡ width → length samples ≡ count
    → length piece ≡ count * width → AreBytes piece → Spells h value width → HasValues value width piece samples (length samples)
    → samples ≡ samples_of h count piece
samples_spelled h value width count piece samples w n len bytes spells values =
    same_lists samples (samples_of h count piece) (n ∙ sym (length-map-range_with_len (λ i. sample_value h (group_at h.width piece i)) 0 count))
    (λ k d l. values k d l
    ∙ spells (drop (k * width) piece) (omega (arith, room k count width (length piece) (omega arith) len, length-drop (k * width) piece))
    (bytes_behind (k * width) piece bytes)
    ∙ ap (λ i. sample_value h (take i (drop (k * i) piece))) (sym w)
    ∙ sym (get_or-map-range_with_len (λ i. sample_value h (group_at h.width piece i)) 0 count k k d (omega arith) (omega arith)))

-- ---- each form

pub spells-signed_8 : (h : Header) → h.width ≡ 1 → h.signed ≡ true → Spells h (λ xs. cast_signed w8 (slice_index xs 0)) 1
spells-signed_8 h w s xs l b = rw (w, s, one_byte h.big xs l) (sym (signed_8 (slice_index xs 0) (b 0)))

pub spells-unsigned_8 : (h : Header) → h.signed ≡ false → Spells h (λ xs. pos (slice_index xs 0)) 1
spells-unsigned_8 h s xs l b = rw (s, one_byte h.big xs l) refl

pub spells-signed_16_big : (h : Header) → h.width ≡ 2 → h.signed ≡ true → h.big ≡ true → Spells h (λ xs. cast_signed w16 (big_number 2 xs)) 2
spells-signed_16_big h w s o xs l b = rw (w, s, o, big_two xs l) (sym (signed_16 (big_number 2 xs) (big_from-lt 0 2 xs b)))

pub spells-signed_16_little : (h : Header) → h.width ≡ 2 → h.signed ≡ true → h.big ≡ false → Spells h (λ xs. cast_signed w16 (little_number 2 xs)) 2
spells-signed_16_little h w s o xs l b = rw (w, s, o, little_two xs l) (sym (signed_16 (little_number 2 xs) (little_from-lt 0 2 xs b)))

pub spells-unsigned_16_big : (h : Header) → h.signed ≡ false → h.big ≡ true → Spells h (λ xs. pos (big_number 2 xs)) 2
spells-unsigned_16_big h s o xs l b = rw (s, o, big_two xs l) refl

pub spells-unsigned_16_little : (h : Header) → h.signed ≡ false → h.big ≡ false → Spells h (λ xs. pos (little_number 2 xs)) 2
spells-unsigned_16_little h s o xs l b = rw (s, o, little_two xs l) refl

pub spells-signed_32_big : (h : Header) → h.width ≡ 4 → h.signed ≡ true → h.big ≡ true → Spells h (λ xs. cast_signed w32 (big_number 4 xs)) 4
spells-signed_32_big h w s o xs l b = rw (w, s, o, big_four xs l) (sym (signed_32 (big_number 4 xs) (big_from-lt 0 4 xs b)))

pub spells-signed_32_little : (h : Header) → h.width ≡ 4 → h.signed ≡ true → h.big ≡ false → Spells h (λ xs. cast_signed w32 (little_number 4 xs)) 4
spells-signed_32_little h w s o xs l b = rw (w, s, o, little_four xs l) (sym (signed_32 (little_number 4 xs) (little_from-lt 0 4 xs b)))

pub spells-unsigned_32_big : (h : Header) → h.signed ≡ false → h.big ≡ true → Spells h (λ xs. pos (big_number 4 xs)) 4
spells-unsigned_32_big h s o xs l b = rw (s, o, big_four xs l) refl

pub spells-unsigned_32_little : (h : Header) → h.signed ≡ false → h.big ≡ false → Spells h (λ xs. pos (little_number 4 xs)) 4
spells-unsigned_32_little h s o xs l b = rw (s, o, little_four xs l) refl

-- a width that is neither 1 nor 2
pub left_four : (width : ℕ) → (width ≡ 1) ⊎ ((width ≡ 2) ⊎ (width ≡ 4)) → (width ≡ 1 → ⊥) → (width ≡ 2 → ⊥) → width ≡ 4
left_four width (inl e) one two = absurd (one e)
left_four width (inr (inl e)) one two = absurd (two e)
left_four width (inr (inr e)) one two = e

-- ---- piece after piece

-- a group is within the bytes before a place, or behind it
group_before : (width k : ℕ) (xs ys : List ℕ) → k * width + width ≤ length xs → group_at width (xs ++ ys) k ≡ group_at width xs k
group_before width k xs ys l =
    ap (take width) (drop-append-le (k * width) xs ys (omega arith))
    ∙ take-append-le width (drop (k * width) xs) ys (omega (arith, length-drop (k * width) xs))

group_behind : (width n k : ℕ) (xs ys : List ℕ) → length xs ≡ n * width → group_at width (xs ++ ys) (n + k) ≡ group_at width ys k
group_behind width n k xs ys e =
    let place : (n + k) * width ≡ length xs + k * width = omega (arith, e) in
    ap (λ i. take width (drop i (xs ++ ys))) place ∙ ap (take width) (drop-append-add xs ys (k * width))

-- the samples of more bytes are those of the bytes before, and then those of the rest
pub samples_of-append : (h : Header) (n m : ℕ) (xs ys : List ℕ) → length xs ≡ n * h.width
    → samples_of h (n + m) (xs ++ ys) ≡ samples_of h n xs ++ samples_of h m ys
samples_of-append h n m xs ys e =
    let value : List ℕ → ℕ → ℤ = λ zs i. sample_value h (group_at h.width zs i) in
    let first = length-map-range_with_len (value xs) 0 n in
    let second = length-map-range_with_len (value ys) 0 m in
    let all = length-map-range_with_len (value (xs ++ ys)) 0 (n + m) in
    same_lists (samples_of h (n + m) (xs ++ ys)) (samples_of h n xs ++ samples_of h m ys)
    (all ∙ sym (length-append (samples_of h n xs) (samples_of h m ys) ∙ ap (λ i. i + length (samples_of h m ys)) first ∙ ap (λ i. n + i) second))
    (λ k d l. get_or-map-range_with_len (value (xs ++ ys)) 0 (n + m) k k d (omega arith) (omega arith)
    ∙ elim (cases_lt k n) [
      | inl b ↦ ap (sample_value h) (group_before h.width k xs ys (omega (arith, e, room_below k n h.width b)))
          ∙ sym (get_or-map-range_with_len (value xs) 0 n k k d b (omega arith))
          ∙ sym (get_or_append_left (samples_of h n xs) (samples_of h m ys) d k (omega (arith, first)))
      | inr b ↦
          let i : n + (k - n) ≡ k = omega arith in
          ap (λ j. sample_value h (group_at h.width (xs ++ ys) j)) (sym i)
          ∙ ap (sample_value h) (group_behind h.width n (k - n) xs ys e)
          ∙ sym (get_or-map-range_with_len (value ys) 0 m (k - n) (k - n) d (omega arith) (omega arith))
          ∙ sym (get_or-append_right (samples_of h n xs) (samples_of h m ys) n k d first b)
    ])
  where
    room_below : (k n w : ℕ) → k < n → k * w + w ≤ n * w
    room_below k n w l = let more : (k + 1) * w ≤ n * w = mul-le-mul_right w (omega arith) in omega (arith, more)
