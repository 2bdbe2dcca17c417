-- Digits, one after another.
use Rattle.std.proofs.Common.{◌≡◌, ℕ, zero, suc, ◌+◌, ◌*◌, ◌<◌, Bool, true, false, not, List, [], ◌∷◌, ◌++◌, length, take, get_or, Some, None, min}
use Rattle.std.proofs.Common.{refl, ap, ◌∙◌, arith}
use Rattle.std.specs.Prelude.{◌&&◌, if◌then◌else◌}
use Rattle.std.specs.Char.{is_ascii_digit, digit_value}
use Rattle.std.specs.Str.{all_ascii_digits}
use Rattle.std.specs.Str.Parse.{digits_value}
use Rattle.std.proofs.lemmas.List.{take_more}
use Rattle.std.proofs.lemmas.Int.Digits.{digits_value_more}
use Rattle.iso_formats.specs.HeaderLines.{is_numeral_within, numeral_value, is_empty}

and_false : (a : Bool) → a && false ≡ false
and_false true = refl
and_false false = refl

digits_stop_cases : (a b : Bool) → a ≡ false → a && b ≡ false
digits_stop_cases true b e = absurd (cc)
digits_stop_cases false b e = refl

digits_later_cases : (a b : Bool) → b ≡ false → a && b ≡ false
digits_later_cases true b e = e
digits_later_cases false b e = refl

pub digits-stop : (text : List ℕ) (at : ℕ) → at < length text → is_ascii_digit (get_or text at 0) ≡ false → all_ascii_digits text ≡ false
digits-stop [] at l e = absurd (omega arith)
digits-stop (x ∷ xs) zero l e = digits_stop_cases (is_ascii_digit x) (all_ascii_digits xs) e
digits-stop (x ∷ xs) (suc at) l e = digits_later_cases (is_ascii_digit x) (all_ascii_digits xs) (digits-stop xs at (omega arith) e)

push_cases : (a b c : Bool) → a && b ≡ true → (b ≡ true → c ≡ true) → a && c ≡ true
push_cases true b c e h = h e
push_cases false b c e h = e

digits_push : (xs : List ℕ) (x : ℕ) → all_ascii_digits xs ≡ true → is_ascii_digit x ≡ true → all_ascii_digits (xs ++ x ∷ []) ≡ true
digits_push [] x a d = push_cases true (is_ascii_digit x) (is_ascii_digit x && true) d (λ e. and_true (is_ascii_digit x) e)
  where
    and_true : (a : Bool) → a ≡ true → a && true ≡ true
    and_true true e = refl
    and_true false e = e
digits_push (y ∷ ys) x a d = push_cases (is_ascii_digit y) (all_ascii_digits ys) (all_ascii_digits (ys ++ x ∷ [])) a (λ e. digits_push ys x e d)

pub digits-more : (text : List ℕ) (at : ℕ) → at < length text → all_ascii_digits (take at text) ≡ true → is_ascii_digit (get_or text at 0) ≡ true
    → all_ascii_digits (take (at + 1) text) ≡ true
digits-more text at l a d = ap all_ascii_digits (take_more text at 0 l) ∙ digits_push (take at text) (get_or text at 0) a d

none_cases : (e a b : Bool) (v : ℕ) → None ≡ (if not e && false && a && b then Some v else None)
none_cases true a b v = refl
none_cases false a b v = refl

pub numeral-none : (low high : ℕ) (text : List ℕ) → all_ascii_digits text ≡ false
    → None ≡ (if is_numeral_within low high text then Some (numeral_value text) else None)
numeral-none low high text e = rw e (none_cases (is_empty text) _ _ (numeral_value text))

-- a value that is cut off at its limit stays so with each digit more
pub value-more : (text : List ℕ) (at value digit limit next : ℕ) → at < length text → value ≡ min (digits_value 10 (take at text)) limit
    → digit_value (get_or text at 0) ≡ digit → next ≡ min (value * 10 + digit) limit → next ≡ min (digits_value 10 (take (at + 1) text)) limit
value-more text at value digit limit next l e d n = omega (arith, e, d, n, digits_value_more 10 text at l)
