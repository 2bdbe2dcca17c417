-- What a line says, from the place of its first colon.
use Rattle.std.proofs.Common.{◌≡◌, ℕ, ◌+◌, ◌<◌, Bool, true, false, not, cond, nat_eq, List, [], ◌∷◌, length, take, drop, refl, sym, ap, ◌∙◌, arith}
use Rattle.std.specs.Prelude.{◌||◌, ◌==◌, if◌then◌else◌}
use Rattle.std.specs.List.{position_or_len, list_any, after_first}
use Rattle.std.specs.Str.{str_to_ascii_lowercase}
use Rattle.std.specs.Char.{to_ascii_lowercase}
use Rattle.std.proofs.lemmas.List.{length-map}
use Rattle.lists.specs.Orders.{has}
use Rattle.iso_formats.specs.HeaderLines.{named_field, unreadable, passed_over, content, is_comment, is_pair, is_empty, name_of, trimmed}

has_none_cases : (p : ℕ → Bool) (x : ℕ) (xs : List ℕ) (b : Bool) → cond (not b) (1 + position_or_len p xs) 0 ≡ length (x ∷ xs)
    → (position_or_len p xs ≡ length xs → list_any p xs ≡ false) → b || list_any p xs ≡ false
has_none_cases p x xs true e later = absurd (omega arith)
has_none_cases p x xs false e later = later (omega arith)

has_none : (p : ℕ → Bool) (xs : List ℕ) → position_or_len p xs ≡ length xs → list_any p xs ≡ false
has_none p [] e = refl
has_none p (x ∷ xs) e = has_none_cases p x xs (p x) e (has_none p xs)

has_some_cases : (p : ℕ → Bool) (x : ℕ) (xs : List ℕ) (b : Bool) → cond (not b) (1 + position_or_len p xs) 0 < length (x ∷ xs)
    → (position_or_len p xs < length xs → list_any p xs ≡ true) → b || list_any p xs ≡ true
has_some_cases p x xs true e later = refl
has_some_cases p x xs false e later = later (omega arith)

has_some : (p : ℕ → Bool) (xs : List ℕ) → position_or_len p xs < length xs → list_any p xs ≡ true
has_some p [] e = absurd (omega arith)
has_some p (x ∷ xs) e = has_some_cases p x xs (p x) e (has_some p xs)

content_cases : (text : List ℕ) (comment pair colon none : Bool) → is_comment text ≡ comment → is_pair text ≡ pair → has text 58 ≡ colon
    → is_empty (name_of text) ≡ none
    → (if comment || pair then passed_over else if not colon
    || none then unreadable else named_field (name_of text) (trimmed (after_first (nat_eq 58) text)))
    ≡ content text
content_cases text comment pair colon none a b c d = rw (a, b, c, d) refl

pub content-unreadable : (text : List ℕ) → is_comment text ≡ false → is_pair text ≡ false → position_or_len (nat_eq 58) text ≡ length text
    → unreadable ≡ content text
content-unreadable text a b e = content_cases text false false false (is_empty (name_of text)) a b (has_none (nat_eq 58) text e) refl

pub content-named : (text name value : List ℕ) (colon : ℕ) → is_comment text ≡ false → is_pair text ≡ false → colon ≡ position_or_len (nat_eq 58) text
    → colon < length text
    → name ≡ trimmed (take colon text) → (length name == 0) ≡ false → value ≡ trimmed (drop (colon + 1) text)
    → named_field (str_to_ascii_lowercase name) value ≡ content text
content-named text name value colon a b e l n z v =
    let name_is : name_of text ≡ str_to_ascii_lowercase name =
    ap (λ k. str_to_ascii_lowercase (trimmed (take k text))) (sym e) ∙ ap str_to_ascii_lowercase (sym n) in
    let value_is : trimmed (after_first (nat_eq 58) text) ≡ value = ap (λ k. trimmed (drop (k + 1) text)) (sym e) ∙ sym v in
    let some : is_empty (name_of text) ≡ false = ap is_empty name_is ∙ ap (λ k. k == 0) (length-map name to_ascii_lowercase) ∙ z in
    ap (λ m. named_field m value) (sym name_is) ∙ ap (λ w. named_field (name_of text) w) (sym value_is)
    ∙ content_cases text false false true false a b (has_some (nat_eq 58) text (omega (arith, e, l))) some
