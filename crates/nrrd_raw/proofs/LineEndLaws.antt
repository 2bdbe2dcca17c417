-- The first line of bytes.
use Rattle.std.proofs.Common.{◌≡◌, ℕ, ◌+◌, ◌-◌, ◌<◌, Bool, true, false, not, nat_eq, List, [], ◌∷◌, ◌++◌, map, length, take, drop, get_or, Option}
use Rattle.std.proofs.Common.{None, refl, sym, ap, ◌∙◌, arith, length-append}
use Rattle.std.specs.Prelude.{◌==◌, flat_map, slice_index, slice_index_or, if◌then◌else◌}
use Rattle.std.specs.List.{AllPass, position_or_len, last_or}
use Rattle.std.specs.Option.{option_map_or}
use Rattle.std.proofs.lemmas.Bool.{or_parts, and_parts, not-true}
use Rattle.std.proofs.lemmas.Bool.Decides.{nat_tests}
use Rattle.std.proofs.lemmas.List.{append_assoc, length_push, get_or_push, take_at, drop_at, drop_more, drop-drop, length-drop, get_or-map}
use Rattle.lists.specs.Orders.{has}
use Rattle.iso_formats.specs.HeaderLines.{Line, is_line, line_bytes}
use Rattle.nrrd_raw.specs.LineEnds.{without_return, first_text}
use Rattle.lists.proofs.MemberLaws.{last_is}
use Rattle.iso_formats.proofs.LineLaws.{has-return}

-- the first LF stands behind a text that has none
pub position-feed : (xs ys : List ℕ) → has xs 10 ≡ false → position_or_len (nat_eq 10) (xs ++ 10 ∷ ys) ≡ length xs
position-feed [] ys a = refl
position-feed (x ∷ xs) ys a =
    let p = or_parts (nat_eq 10 x) (has xs 10) a in
    rw p.0 (omega (arith, position-feed xs ys p.1))

without_return-plain : (xs : List ℕ) → option_map_or (nat_eq 13) (last_or None xs) false ≡ false → without_return xs ≡ xs
without_return-plain [] e = refl
without_return-plain (x ∷ xs) e =
    let last : nat_eq 13 (get_or (x ∷ xs) (length xs) 0) ≡ false = sym (ap (λ (o : Option ℕ). option_map_or (nat_eq 13) o false) (last_is None x xs)) ∙ e in
    let place : length (x ∷ xs) - 1 ≡ length xs = omega arith in
    let test : (slice_index (x ∷ xs) (length (x ∷ xs) - 1) == 13) ≡ false =
    ap (λ i. slice_index (x ∷ xs) i == 13) place ∙ swapped (get_or (x ∷ xs) (length xs) 0) last in
    ap (λ b. if b then take (length (x ∷ xs) - 1) (x ∷ xs) else (x ∷ xs)) test
  where
    swapped : (n : ℕ) → nat_eq 13 n ≡ false → (n == 13) ≡ false
    swapped n e = grind (arith, nat_tests)

without_return-return : (xs : List ℕ) → without_return (xs ++ 13 ∷ []) ≡ xs
without_return-return xs =
    let place : length (xs ++ 13 ∷ []) - 1 ≡ length xs = omega (arith, length_push xs 13) in
    let test : (slice_index (xs ++ 13 ∷ []) (length (xs ++ 13 ∷ []) - 1) == 13) ≡ true =
    ap (λ i. slice_index (xs ++ 13 ∷ []) i == 13) place ∙ ap (λ n. n == 13) (get_or_push xs 13 0 (length xs) refl) in
    ap (λ b. if b then take (length (xs ++ 13 ∷ []) - 1) (xs ++ 13 ∷ []) else (xs ++ 13 ∷ [])) test
    ∙ ap (λ i. take i (xs ++ 13 ∷ [])) place ∙ take_at xs (13 ∷ []) (length xs) refl

-- the line at the front of bytes
pub record StartsWithLine (bytes : List ℕ) (l : Line) : Type 0 where
  pub text : first_text bytes ≡ l.text
  pub end : position_or_len (nat_eq 10) bytes + 1 ≡ length (line_bytes l)

starts_cases : (t : List ℕ) (r : Bool) (x : List ℕ) → is_line (record { text = t; has_return = r }) ≡ true
    → StartsWithLine (line_bytes (record { text = t; has_return = r }) ++ x) (record { text = t; has_return = r })
starts_cases t true x e =
    let plain = has-return t (not-true (has t 10) (and_parts _ _ e).0) in
    let form : (t ++ 13 ∷ 10 ∷ []) ++ x ≡ (t ++ 13 ∷ []) ++ 10 ∷ x = append_assoc t (13 ∷ 10 ∷ []) x ∙ sym (append_assoc t (13 ∷ []) (10 ∷ x)) in
    let place = ap (position_or_len (nat_eq 10)) form ∙ position-feed (t ++ 13 ∷ []) x plain in
    record {
      text = ap (λ i. without_return (take i ((t ++ 13 ∷ 10 ∷ []) ++ x))) place ∙ ap (λ zs. without_return (take (length (t ++ 13 ∷ [])) zs)) form
          ∙ ap without_return (take_at (t ++ 13 ∷ []) (10 ∷ x) (length (t ++ 13 ∷ [])) refl) ∙ without_return-return t;
      end = omega (arith, place, length-append t (13 ∷ []), length-append t (13 ∷ 10 ∷ []));
    }
starts_cases t false x e =
    let plain = not-true (has t 10) (and_parts _ _ e).0 in
    let bare = not-true (option_map_or (nat_eq 13) (last_or None t) false) (and_parts (not (has t 10)) _ e).1 in
    let form : (t ++ 10 ∷ []) ++ x ≡ t ++ 10 ∷ x = append_assoc t (10 ∷ []) x in
    let place = ap (position_or_len (nat_eq 10)) form ∙ position-feed t x plain in
    record {
      text = ap (λ i. without_return (take i ((t ++ 10 ∷ []) ++ x))) place ∙ ap (λ zs. without_return (take (length t) zs)) form
          ∙ ap without_return (take_at t (10 ∷ x) (length t) refl) ∙ without_return-plain t bare;
      end = omega (arith, place, length-append t (10 ∷ []));
    }

pub starts_with_line : (l : Line) (x : List ℕ) → is_line l ≡ true → StartsWithLine (line_bytes l ++ x) l
starts_with_line l x e = starts_cases l.text l.has_return x e

-- ---- the lines of a header, one after another

abbrev texts_of : List Line → List (List ℕ)
texts_of ls = map (λ (l : Line). l.text) ls

abbrev no_line : Line
no_line = record { text = []; has_return = false }

-- what a step over a line reads
pub record Steps (bytes : List ℕ) (ls : List Line) (at n : ℕ) (text : List ℕ) (next : ℕ) : Type 0 where
  pub same : text ≡ slice_index_or (texts_of ls) n []
  pub left : drop next bytes ≡ flat_map line_bytes (drop (n + 1) ls)

pub steps : (bytes : List ℕ) (ls : List Line) (at n : ℕ) (text : List ℕ) (next : ℕ) → AllPass is_line ls → n < length ls
    → drop at bytes ≡ flat_map line_bytes (drop n ls)
    → text ≡ first_text (drop at bytes)
    → (at + position_or_len (nat_eq 10) (drop at bytes) < length bytes → next ≡ at + position_or_len (nat_eq 10) (drop at bytes) + 1)
    → Steps bytes ls at n text next
steps bytes ls at n text next are few left t e =
    let l = slice_index_or ls n no_line in
    let more = flat_map line_bytes (drop (n + 1) ls) in
    let form : drop at bytes ≡ line_bytes l ++ more = left ∙ ap (flat_map line_bytes) (drop_more ls n no_line few) in
    let s = starts_with_line l more (are n no_line few) in
    let place : position_or_len (nat_eq 10) (drop at bytes) + 1 ≡ length (line_bytes l) = ap (λ bs. position_or_len (nat_eq 10) bs + 1) form ∙ s.end in
    let len = length-drop at bytes in
    let whole : length (drop at bytes) ≡ length (line_bytes l) + length more = ap length form ∙ length-append (line_bytes l) more in
    let next_is : next ≡ at + length (line_bytes l) = omega (arith, e (omega (arith, place, len, whole)), place) in
    record {
      same = t ∙ ap first_text form ∙ s.text ∙ sym (get_or-map (λ (k : Line). k.text) ls n no_line [] few);
      left =
          ap (λ i. drop i bytes) next_is ∙ sym (drop-drop (length (line_bytes l)) at bytes) ∙ ap (drop (length (line_bytes l))) form
          ∙ drop_at (line_bytes l) more (length (line_bytes l)) refl;
    }

-- a line has at least one byte
pub line_bytes-some : (l : Line) → 0 < length (line_bytes l)
line_bytes-some l = some_cases l.text l.has_return
  where
    some_cases : (t : List ℕ) (r : Bool) → 0 < length (line_bytes (record { text = t; has_return = r }))
    some_cases t true = omega (arith, length-append t (13 ∷ 10 ∷ []))
    some_cases t false = omega (arith, length-append t (10 ∷ []))
