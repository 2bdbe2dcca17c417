-- A plain number is read by `parse`.
use Rattle.std.proofs.Common.{◌≡◌, ℕ, ◌<◌, ◌≤◌, Bool, true, false, not, ◌&&◌, ◌||◌, cond, List, [], ◌∷◌, length, drop, refl, sym, ap, subst, arith}
use Rattle.std.proofs.Common.{rules, FitsSigned, w64}
use Rattle.std.specs.Prelude.{ℤ, pos, neg_ℤ, ◌≤ℤ◌, ◌==◌, slice_index, codes}
use Rattle.lists.specs.Orders.{same_list}
use Rattle.std.proofs.lemmas.Bool.{and_parts, not-true, eqb-false}
use Rattle.std.proofs.lemmas.Str.Parse.{IsNumeralModel, numerals_by_value, tells_all_ascii_digits, not_in_digits, without_leading_plus_none}
use Rattle.std.specs.Char.{is_ascii_digit}
use Rattle.std.specs.List.{list_all}
use Rattle.std.specs.Str.{all_ascii_digits}
use Rattle.std.specs.Str.Parse.{IsNumeral, digits_value, starts_with_minus, without_leading_sign, without_leading_plus}
use Rattle.iso_commands.specs.Commands.{is_number, iso_limit}

own : IsNumeralModel (λ ds. all_ascii_digits ds ≡ true) (digits_value 10)
own = numerals_by_value _ tells_all_ascii_digits

parts : (n a b c : Bool) → (((n && a) && b) && c) ≡ true → (n ≡ true) × (a ≡ true)
parts n a b c h =
    let p = and_parts ((n && a) && b) c h in
    let q = and_parts (n && a) b p.0 in
    and_parts n a q.0

filled : (t : List ℕ) → not (length t == 0) ≡ true → 0 < length t
filled t h = omega (arith, eqb-false (length t) 0 (not-true _ h))

-- a plain number has digits behind its sign
pub is_number-IsNumeral : (text : List ℕ) → is_number text ≡ true → IsNumeral 10 (without_leading_sign text)
is_number-IsNumeral text h =
    let ds = cond (starts_with_minus text) (drop 1 text) text in
    let p = parts (not (length ds == 0)) (all_ascii_digits ds) (length ds == 1 || not (slice_index ds 0 == 48)) (not (same_list text (codes "-0"))) h in
    go (starts_with_minus text) p.0 p.1
  where
    go : (b : Bool) → not (length (cond b (drop 1 text) text) == 0) ≡ true → all_ascii_digits (cond b (drop 1 text) text) ≡ true
        → IsNumeral 10 (cond b (drop 1 text) (without_leading_plus text))
    go true n a = (filled (drop 1 text) n, own.to (drop 1 text) a)
    go false n a =
        let plain = without_leading_plus_none text (not_in_digits own text 43 a (λ r. omega arith) 0 (filled text n)) in
        subst (λ (t : List ℕ). IsNumeral 10 t) (sym plain) (filled text n, own.to text a)

pub all_ascii_digits-list_all : (bytes : List ℕ) → list_all is_ascii_digit bytes ≡ all_ascii_digits bytes
all_ascii_digits-list_all [] = refl
all_ascii_digits-list_all (b ∷ bytes) = ap (λ (t : Bool). is_ascii_digit b && t) (all_ascii_digits-list_all bytes)

-- a number within the limits of an isovalue fits 64 bits
pub isovalue_fits : (n : ℤ) → neg_ℤ (pos iso_limit) ≤ℤ n → n ≤ℤ pos iso_limit → FitsSigned w64 n
isovalue_fits n low high = search rules

-- and so does a number of 32 bits
pub short_fits : (n : ℕ) → n ≤ 4294967295 → FitsSigned w64 (pos n)
short_fits n most = search rules
