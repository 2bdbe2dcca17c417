-- What is known of a word when one more byte comes.
use Rattle.std.specs.Prelude.{◌≡◌, ℕ, zero, suc, ◌+◌, ◌-◌, ◌*◌, ◌^◌, ◌≤◌, Bool, true, false, ◌&&◌, ◌||◌, nat_le, nat_lt, Some, None, if◌then◌else◌, List, [], ◌∷◌, ◌++◌, take, min, codes}
use Rattle.std.specs.List.{list_any, list_all}
use Rattle.std.specs.Char.{is_ascii_digit, digit_value}
use Rattle.std.specs.Str.{all_ascii_digits}
use Rattle.std.proofs.Common.{refl, ap, sym, ◌∙◌, arith}
use Rattle.std.proofs.lemmas.Bool.{and_parts, ltb-true, ltb-false, lt-ltb, le-ltb, leb-true, le-leb}
use Rattle.std.proofs.lemmas.List.Folds.{list_all-append, list_any-append}
use Rattle.std.proofs.lemmas.Int.Digits.{digits_value_push}
use Rattle.std.proofs.lemmas.Str.{digit_value_digit}
use Rattle.std.proofs.lemmas.Str.Parse.{tells_all_ascii_digits}
use Rattle.lists.proofs.Tests.{and_true, or_false, same_tests}
use Rattle.lists.specs.Orders.{has}
use Rattle.iso_formats.specs.HeaderLines.{is_numeral, numeral_value}
use Rattle.iso_formats.specs.MeshFile.{is_count, is_index}
use Rattle.off_read.specs.WordForms.{IsSoFar, Known, capped_numeral, below}

digits-push : (text : List ℕ) (c : ℕ) → all_ascii_digits (text ++ c ∷ []) ≡ (all_ascii_digits text && is_ascii_digit c)
digits-push [] c = and_true (is_ascii_digit c)
digits-push (x ∷ text) c = ap (λ (b : Bool). is_ascii_digit x && b) (digits-push text c) ∙ go (is_ascii_digit x)
  where
    go : (a : Bool) → (a && (all_ascii_digits text && is_ascii_digit c)) ≡ ((a && all_ascii_digits text) && is_ascii_digit c)
    go true = refl
    go false = refl

some-push : (text : List ℕ) (c : ℕ) → list_any is_ascii_digit (text ++ c ∷ []) ≡ (list_any is_ascii_digit text || is_ascii_digit c)
some-push text c =
    list_any-append is_ascii_digit text (c ∷ []) ∙ ap (λ (b : Bool). list_any is_ascii_digit text || b) (or_false (is_ascii_digit c))

all-push : (p : ℕ → Bool) (text : List ℕ) (c : ℕ) → list_all p (text ++ c ∷ []) ≡ (list_all p text && p c)
all-push p text c = list_all-append p text (c ∷ []) ∙ ap (λ (b : Bool). list_all p text && b) (and_true (p c))

take-push : (n : ℕ) (text : List ℕ) (c : ℕ) → take n (take n text ++ c ∷ []) ≡ take n (text ++ c ∷ [])
take-push zero text c = refl
take-push (suc n) [] c = refl
take-push (suc n) (x ∷ text) c = ap (λ (l : List ℕ). x ∷ l) (take-push n text c)

-- a digit's value, as codes are subtracted
value-digit : (c : ℕ) → is_ascii_digit c ≡ true → c - 48 ≡ digit_value c
value-digit c h = let e = digit_value_digit c (tells_all_ascii_digits.parts c [] (and_true (is_ascii_digit c) ∙ h)).0 in omega (arith, e)

capped-push : (v w d : ℕ) → w ≡ min (2 ^ 32) v → min (2 ^ 32) (w * 10 + d) ≡ min (2 ^ 32) (v * 10 + d)
capped-push v w d e = omega (arith, e)

pub pushed : (old new : Known) (text : List ℕ) (c : ℕ) → new.front ≡ take 5 (old.front ++ c ∷ [])
    → new.all_digits ≡ (old.all_digits && is_ascii_digit c) → new.some_digit ≡ (old.some_digit || is_ascii_digit c)
    → new.coordinate ≡ (old.coordinate && (is_ascii_digit c || has (codes "+-.eE") c))
    → new.value ≡ min (2 ^ 32) (old.value * 10 + (c - 48)) → IsSoFar old text → IsSoFar new (text ++ c ∷ [])
pushed old new text c front digits some standing value so = record {
  front = front ∙ ap (λ (l : List ℕ). take 5 (l ++ c ∷ [])) so.front ∙ take-push 5 text c;
  digits = digits ∙ ap (λ (b : Bool). b && is_ascii_digit c) so.digits ∙ sym (digits-push text c);
  some = some ∙ ap (λ (b : Bool). b || is_ascii_digit c) so.some ∙ sym (some-push text c);
  standing = standing ∙ ap (λ (b : Bool). b && (is_ascii_digit c || has (codes "+-.eE") c)) so.standing
      ∙ sym (all-push (λ c. is_ascii_digit c || has (codes "+-.eE") c) text c);
  counted = λ h.
      let p = and_parts (all_ascii_digits text) (is_ascii_digit c) (sym (digits-push text c) ∙ h) in
      value ∙ ap (λ (n : ℕ). min (2 ^ 32) (old.value * 10 + n)) (value-digit c p.1)
      ∙ capped-push (numeral_value text) old.value (digit_value c) (so.counted p.0)
      ∙ ap (λ (n : ℕ). min (2 ^ 32) n) (sym (digits_value_push 10 text c));
}

-- ---- numbers below a bound

below-capped : (n : Bool) (v b : ℕ) → b ≤ 2 ^ 32 → below b (if n then Some (min (2 ^ 32) v) else None) ≡ (if n && nat_lt v b then Some v else None)
below-capped false v b h = refl
below-capped true v b h = go (nat_lt v b) refl
  where
    go : (x : Bool) → nat_lt v b ≡ x → below b (Some (min (2 ^ 32) v)) ≡ (if x then Some v else None)
    go true e = let l = ltb-true v b e in let m : min (2 ^ 32) v ≡ v = omega (arith, l, h) in rw (m, e) refl
    go false e =
        let l = ltb-false v b e in
        let m : nat_lt (min (2 ^ 32) v) b ≡ false = le-ltb (min (2 ^ 32) v) b (omega (arith, l, h)) in
        rw m refl

within-below : (v : ℕ) → nat_le v 4294967295 ≡ nat_lt v (2 ^ 32)
within-below v =
    same_tests (nat_le v 4294967295) (nat_lt v (2 ^ 32)) (λ e. let l = leb-true v 4294967295 e in lt-ltb v (2 ^ 32) (omega (arith, l)))
    (λ e. let l = ltb-true v (2 ^ 32) e in le-leb v 4294967295 (omega (arith, l)))

pub counted : (text : List ℕ) → below (2 ^ 32) (capped_numeral text) ≡ (if is_count text then Some (numeral_value text) else None)
counted text =
    below-capped (is_numeral text) (numeral_value text) (2 ^ 32) (omega arith)
    ∙ ap (λ (b : Bool). if b then Some (numeral_value text) else None) (go (is_numeral text))
  where
    go : (n : Bool) → (n && nat_lt (numeral_value text) (2 ^ 32)) ≡ ((n && nat_le 0 (numeral_value text)) && nat_le (numeral_value text) 4294967295)
    go true = let z : nat_le 0 (numeral_value text) ≡ true = le-leb 0 (numeral_value text) (omega arith) in rw z (sym (within-below (numeral_value text)))
    go false = refl

pub indexed : (vertices : ℕ) (text : List ℕ) → vertices ≤ 2 ^ 32
    → below vertices (capped_numeral text) ≡ (if is_index vertices text then Some (numeral_value text) else None)
indexed vertices text h = below-capped (is_numeral text) (numeral_value text) vertices h
