-- The bytes at the front of a file, up to the end of its header.
use Rattle.std.proofs.Common.{◌≡◌, inl, inr, ℕ, ◌+◌, ◌-◌, ◌<◌, ◌≤◌, Bool, true, false, not, nat_eq, List, [], ◌∷◌, ◌++◌, map, length, take, drop}
use Rattle.std.proofs.Common.{get_or, Option, Some, None, refl, sym, ap, ◌∙◌, subst, arith, length-append, append-nil}
use Rattle.std.specs.Prelude.{◌==◌, ◌&&◌, ◌||◌, flat_map, slice_index_or, IsTrue, IfSome, if◌then◌else◌}
use Rattle.std.specs.List.{AllPass, position_or_len, last_or}
use Rattle.std.specs.Option.{option_map_or}
use Rattle.std.specs.Io.KnownBytes.{Consumes, IsAtEnd}
use Rattle.std.proofs.lemmas.Bool.{false≢true, cases_lt, or_parts}
use Rattle.std.proofs.lemmas.Bool.Decides.{nat_tests}
use Rattle.std.proofs.lemmas.List.{append_assoc, drop_at, map-append, take-append-drop, take_all, drop_all, take-append-le, drop-append-le, drop_more}
use Rattle.std.proofs.lemmas.List.{get_or_append_left, get_or-append_right}
use Rattle.std.proofs.lemmas.List.Concat.{flat_map-append}
use Rattle.lists.specs.Orders.{has}
use Rattle.iso_formats.specs.HeaderLines.{Line, is_line, line_bytes, is_filled, HasLines, is_first_line, begins_right, header_limit}
use Rattle.iso_formats.specs.GridFaults.{HasNoLines, HasHeaderFault, too_long, unended, header_too_long, header_unended}
use Rattle.nrrd_raw.specs.LineEnds.{without_return, first_text}
use Rattle.nrrd_raw.specs.HeaderFronts.{HasFront}
use Rattle.nrrd_raw.proofs.LineEndLaws.{starts_with_line}
use Rattle.lists.proofs.MemberLaws.{same_head, last_is, pass_head, pass_tail}

abbrev texts_of : List Line → List (List ℕ)
texts_of ls = map (λ (l : Line). l.text) ls

-- ---- a part without LF is a line

or_both : (a b : Bool) → a ≡ false → b ≡ false → a || b ≡ false
or_both true b p q = p
or_both false b p q = q

pub has-push : (xs : List ℕ) (b : ℕ) → has xs 10 ≡ false → nat_eq 10 b ≡ false → has (xs ++ b ∷ []) 10 ≡ false
has-push [] b p q = or_both (nat_eq 10 b) false q refl
has-push (x ∷ xs) b p q = let s = or_parts (nat_eq 10 x) (has xs 10) p in or_both (nat_eq 10 x) (has (xs ++ b ∷ []) 10) s.0 (has-push xs b s.1 q)

has_front : (xs ys : List ℕ) → has (xs ++ ys) 10 ≡ false → has xs 10 ≡ false
has_front [] ys e = refl
has_front (x ∷ xs) ys e = let s = or_parts (nat_eq 10 x) (has (xs ++ ys) 10) e in or_both (nat_eq 10 x) (has xs 10) s.0 (has_front xs ys s.1)

-- the line that ends with the next LF
pub record MadeLine (part : List ℕ) : Type 0 where
  pub line : Line
  pub is : is_line line ≡ true
  pub bytes : line_bytes line ≡ part ++ 10 ∷ []
  pub text : line.text ≡ without_return part

plain_line : (part : List ℕ) → has part 10 ≡ false → (get_or part (length part - 1) 0 == 13) ≡ false → MadeLine part
plain_line part h e = record {
  line = record { text = part; has_return = false };
  is = rw h (bare part e);
  bytes = refl;
  text = sym (ap (λ (b : Bool). if b then take (length part - 1) part else part) e);
}
  where
    swapped : (n : ℕ) → (n == 13) ≡ false → nat_eq 13 n ≡ false
    swapped n e = grind (arith, nat_tests)

    bare : (part : List ℕ) → (get_or part (length part - 1) 0 == 13) ≡ false → not (option_map_or (nat_eq 13) (last_or None part) false) ≡ true
    bare [] e = refl
    bare (x ∷ xs) e =
        let place : length (x ∷ xs) - 1 ≡ length xs = omega arith in
        let last : nat_eq 13 (get_or (x ∷ xs) (length xs) 0) ≡ false =
        swapped (get_or (x ∷ xs) (length xs) 0) (ap (λ i. get_or (x ∷ xs) i 0 == 13) (sym place) ∙ e) in
        ap (λ (o : Option ℕ). not (option_map_or (nat_eq 13) o false)) (last_is None x xs) ∙ ap not last

return_line : (part : List ℕ) → has part 10 ≡ false → (get_or part (length part - 1) 0 == 13) ≡ true → MadeLine part
return_line part h e =
    let some : 0 < length part = nonempty part e in
    let front = take (length part - 1) part in
    let last : drop (length part - 1) part ≡ 13 ∷ [] = last_part part some e in
    let split : front ++ 13 ∷ [] ≡ part = ap (λ zs. front ++ zs) (sym last) ∙ take-append-drop (length part - 1) part in
    record {
      line = record { text = front; has_return = true };
      is = ap (λ (b : Bool). not b && true) (has_front front (13 ∷ []) (ap (λ zs. has zs 10) split ∙ h));
      bytes = sym (append_assoc front (13 ∷ []) (10 ∷ [])) ∙ ap (λ zs. zs ++ 10 ∷ []) split;
      text = sym (ap (λ (b : Bool). if b then take (length part - 1) part else part) e);
    }
  where
    nonempty : (part : List ℕ) → (get_or part (length part - 1) 0 == 13) ≡ true → 0 < length part
    nonempty [] e = absurd (false≢true e)
    nonempty (x ∷ xs) e = omega arith

    is_13 : (n : ℕ) → (n == 13) ≡ true → n ≡ 13
    is_13 n e = grind (arith, nat_tests)

    last_part : (part : List ℕ) → 0 < length part → (get_or part (length part - 1) 0 == 13) ≡ true → drop (length part - 1) part ≡ 13 ∷ []
    last_part part l e =
        let place : length part - 1 + 1 ≡ length part = omega arith in
        drop_more part (length part - 1) 0 (omega arith) ∙ ap (λ n. n ∷ drop (length part - 1 + 1) part) (is_13 _ e)
        ∙ ap (λ i. 13 ∷ drop i part) place ∙ ap (λ zs. 13 ∷ zs) (drop_all (length part) part (omega arith))

made_cases : (part : List ℕ) (b : Bool) → has part 10 ≡ false → (get_or part (length part - 1) 0 == 13) ≡ b → MadeLine part
made_cases part true h e = return_line part h e
made_cases part false h e = plain_line part h e

pub made_line : (part : List ℕ) → has part 10 ≡ false → MadeLine part
made_line part h = made_cases part (get_or part (length part - 1) 0 == 13) h refl

-- ---- lines at the front of a file

pub front-byte : (front : List ℕ) (start byte : ℕ) → HasFront front start → nat_eq 10 byte ≡ false → HasFront (front ++ byte ∷ []) start
front-byte front start byte f e = record {
  lines = f.lines;
  are_lines = f.are_lines;
  filled = f.filled;
  first = f.first;
  within = omega (arith, length-append front (byte ∷ []), f.within);
  spelled = take-append-le start front (byte ∷ []) f.within ∙ f.spelled;
  unbroken = ap (λ zs. has zs 10) (drop-append-le start front (byte ∷ []) f.within) ∙ has-push (drop start front) byte f.unbroken e;
  begins = λ more. ap begins_right (append_assoc front (byte ∷ []) more) ∙ f.begins (byte ∷ more);
}

all_push : {X : Type 0} (p : X → Bool) (xs : List X) (x : X) → AllPass p xs → p x ≡ true → AllPass p (xs ++ x ∷ [])
all_push {X} p xs x a e = λ k d l. elim (cases_lt k (length xs)) [
  | inl below ↦ ap p (get_or_append_left xs (x ∷ []) d k below) ∙ a k d below
  | inr here ↦ (let zero_place : k - length xs ≡ 0 = omega (arith, length-append xs (x ∷ [])) in
      ap p (get_or-append_right xs (x ∷ []) (length xs) k d refl here ∙ ap (λ i. get_or (x ∷ []) i d) zero_place) ∙ e)
]

all_bytes : (front : List ℕ) (start : ℕ) (f : HasFront front start) → flat_map line_bytes f.lines ++ drop start front ≡ front
all_bytes front start f = ap (λ zs. zs ++ drop start front) (sym f.spelled) ∙ take-append-drop start front

-- the bytes of the lines with the line that an LF ends
ended_bytes : (front : List ℕ) (start : ℕ) (f : HasFront front start) (m : MadeLine (drop start front))
    → flat_map line_bytes (f.lines ++ m.line ∷ []) ≡ front ++ 10 ∷ []
ended_bytes front start f m =
    flat_map-append line_bytes f.lines (m.line ∷ []) ∙ ap (λ zs. flat_map line_bytes f.lines ++ zs) (append-nil (line_bytes m.line) ∙ m.bytes)
    ∙ sym (append_assoc (flat_map line_bytes f.lines) (drop start front) (10 ∷ [])) ∙ ap (λ zs. zs ++ 10 ∷ []) (all_bytes front start f)

first_stays : (ls : List Line) (l : Line) → IsTrue (is_first_line (slice_index_or (texts_of ls) 0 []))
    → IsTrue (is_first_line (slice_index_or (texts_of (ls ++ l ∷ [])) 0 []))
first_stays [] l e = absurd (false≢true e)
first_stays (k ∷ ls) l e = e

filled_text : (t : List ℕ) → (length t == 0) ≡ false → is_filled t ≡ true
filled_text t e = ap not e

pub front-line : (front : List ℕ) (start : ℕ) → HasFront front start → (length (without_return (drop start front)) == 0) ≡ false
    → HasFront (front ++ 10 ∷ []) (length (front ++ 10 ∷ []))
front-line front start f e =
    let m = made_line (drop start front) f.unbroken in
    let all = ended_bytes front start f m in
    record {
      lines = f.lines ++ m.line ∷ [];
      are_lines = all_push is_line f.lines m.line f.are_lines m.is;
      filled = subst (AllPass is_filled) (sym (map-append (λ (l : Line). l.text) f.lines (m.line ∷ [])))
          (all_push is_filled (texts_of f.lines) m.line.text f.filled (filled_text m.line.text (ap (λ t. length t == 0) m.text ∙ e)));
      first = first_stays f.lines m.line f.first;
      within = omega arith;
      spelled = take_all (length (front ++ 10 ∷ [])) (front ++ 10 ∷ []) (omega arith) ∙ sym all;
      unbroken = ap (λ zs. has zs 10) (drop_all (length (front ++ 10 ∷ [])) (front ++ 10 ∷ []) (omega arith));
      begins = λ more. ap begins_right (append_assoc front (10 ∷ []) more) ∙ f.begins (10 ∷ more);
    }

nil_from : (t : List ℕ) → (length t == 0) ≡ true → t ≡ []
nil_from [] e = refl
nil_from (x ∷ xs) e = absurd (omega (arith, zero_of (length (x ∷ xs)) e))
  where
    zero_of : (n : ℕ) → (n == 0) ≡ true → n ≡ 0
    zero_of n e = grind (arith, nat_tests)

-- an empty line ends the header
pub front-end : (front : List ℕ) (start : ℕ) (f : HasFront front start) → (length (without_return (drop start front)) == 0) ≡ true
    → length (front ++ 10 ∷ []) ≤ header_limit
    → HasLines (front ++ 10 ∷ []) (texts_of f.lines) []
front-end front start f e l =
    let m = made_line (drop start front) f.unbroken in
    let all = ended_bytes front start f m in
    record {
      lines = f.lines ++ m.line ∷ [];
      are_lines = all_push is_line f.lines m.line f.are_lines m.is;
      spelled = sym (append-nil (flat_map line_bytes (f.lines ++ m.line ∷ [])) ∙ all);
      read = map-append (λ (k : Line). k.text) f.lines (m.line ∷ []) ∙ ap (λ t. texts_of f.lines ++ t ∷ []) (m.text ∙ nil_from _ e);
      filled = f.filled;
      short = omega (arith, ap length all, l);
    }

-- ---- no end of a header

position_behind : (part ys : List ℕ) → has part 10 ≡ false → length part ≤ position_or_len (nat_eq 10) (part ++ ys)
position_behind [] ys h = omega arith
position_behind (x ∷ xs) ys h =
    let s = or_parts (nat_eq 10 x) (has xs 10) h in
    rw s.0 (omega (arith, position_behind xs ys s.1))

not_empty : (t : List ℕ) → is_filled t ≡ true → t ≡ [] → ⊥
not_empty t f e = false≢true (subst (λ (u : List ℕ). is_filled u ≡ true) e f)

pub longer : (ls ms : List Line) (ts : List (List ℕ)) (part ys more : List ℕ) → AllPass is_line ls → AllPass is_line ms
    → AllPass is_filled (texts_of ls) → texts_of ms ≡ ts ++ [] ∷ []
    → has part 10 ≡ false → flat_map line_bytes ls ++ (part ++ ys) ≡ flat_map line_bytes ms ++ more
    → length (flat_map line_bytes ls) + length part < length (flat_map line_bytes ms)
longer ls [] [] part ys more a b f r h e = absurd (cc)
longer ls [] (t ∷ ts) part ys more a b f r h e = absurd (cc)
longer [] (m ∷ ms) ts part ys more a b f r h e =
    let s = starts_with_line m (flat_map line_bytes ms ++ more) (pass_head is_line m ms b) in
    let form : part ++ ys ≡ line_bytes m ++ (flat_map line_bytes ms ++ more) = e ∙ append_assoc (line_bytes m) (flat_map line_bytes ms) more in
    omega (arith, position_behind part ys h, ap (position_or_len (nat_eq 10)) form, s.end, length-append (line_bytes m) (flat_map line_bytes ms))
longer (l ∷ ls) (m ∷ ms) [] part ys more a b f r h e =
    let x = flat_map line_bytes ls ++ (part ++ ys) in
    let y = flat_map line_bytes ms ++ more in
    let sl = starts_with_line l x (pass_head is_line l ls a) in
    let sm = starts_with_line m y (pass_head is_line m ms b) in
    let form : line_bytes l ++ x ≡ line_bytes m ++ y =
    sym (append_assoc (line_bytes l) (flat_map line_bytes ls) (part ++ ys)) ∙ e ∙ append_assoc (line_bytes m) (flat_map line_bytes ms) more in
    absurd (not_empty l.text (pass_head is_filled l.text (texts_of ls) f) (sym sl.text ∙ ap first_text form ∙ sm.text ∙ same_head m.text [] _ _ r))
longer (l ∷ ls) (m ∷ ms) (t ∷ ts) part ys more a b f r h e =
    let x = flat_map line_bytes ls ++ (part ++ ys) in
    let y = flat_map line_bytes ms ++ more in
    let sl = starts_with_line l x (pass_head is_line l ls a) in
    let sm = starts_with_line m y (pass_head is_line m ms b) in
    let form : line_bytes l ++ x ≡ line_bytes m ++ y =
    sym (append_assoc (line_bytes l) (flat_map line_bytes ls) (part ++ ys)) ∙ e ∙ append_assoc (line_bytes m) (flat_map line_bytes ms) more in
    let len : length (line_bytes l) ≡ length (line_bytes m) = sym sl.end ∙ ap (λ bs. position_or_len (nat_eq 10) bs + 1) form ∙ sm.end in
    let rest : x ≡ y =
    sym (drop_at (line_bytes l) x (length (line_bytes l)) refl) ∙ ap (drop (length (line_bytes l))) form
    ∙ ap (λ i. drop i (line_bytes m ++ y)) len ∙ drop_at (line_bytes m) y (length (line_bytes m)) refl in
    let later =
    longer ls ms ts part ys more (pass_tail is_line l ls a) (pass_tail is_line m ms b) (pass_tail is_filled l.text (texts_of ls) f)
    (ap (drop 1) r) h rest in
    omega (arith, later, len, length-append (line_bytes l) (flat_map line_bytes ls), length-append (line_bytes m) (flat_map line_bytes ms))

-- bytes that begin so hold no header that ends within the front
pub front-longer : (front ys : List ℕ) (start : ℕ) (f : HasFront front start) (texts : List (List ℕ)) (more : List ℕ)
    (p : HasLines (front ++ ys) texts more)
    → length front < length (flat_map line_bytes p.lines)
front-longer front ys start f texts more p =
    let all = all_bytes front start f in
    let form : flat_map line_bytes f.lines ++ (drop start front ++ ys) ≡ flat_map line_bytes p.lines ++ more =
    sym (append_assoc (flat_map line_bytes f.lines) (drop start front) ys) ∙ ap (λ zs. zs ++ ys) all ∙ p.spelled in
    omega (
      arith,
      longer f.lines p.lines texts (drop start front) ys more f.are_lines p.are_lines f.filled p.read f.unbroken form,
      ap length all,
      length-append (flat_map line_bytes f.lines) (drop start front),
    )

-- ---- the causes where the end does not come

-- bytes without LF
pub no_lines_plain : (part : List ℕ) → has part 10 ≡ false → HasNoLines part
no_lines_plain part h texts more p =
    let form : part ++ [] ≡ flat_map line_bytes p.lines ++ more = append-nil part ∙ p.spelled in
    let later =
    longer [] p.lines texts part [] more (λ k d l. absurd (omega (arith, l))) p.are_lines (λ k d l. absurd (omega (arith, l))) p.read h form in
    absurd (omega (arith, later, ap length p.spelled, length-append (flat_map line_bytes p.lines) more))

no_lines : (front ys : List ℕ) (start : ℕ) (f : HasFront front start) → header_limit ≤ length front → HasNoLines (front ++ ys)
no_lines front ys start f l texts more p = absurd (omega (arith, front-longer front ys start f texts more p, p.short, l))

pub no_lines_left : (front : List ℕ) (start : ℕ) (f : HasFront front start) → HasNoLines front
no_lines_left front start f texts more p =
    let q : HasLines (front ++ []) texts more = subst (λ (bs : List ℕ). HasLines bs texts more) (sym (append-nil front)) p in
    absurd
    (omega (
      arith,
      front-longer front [] start f texts more q,
      ap length q.spelled,
      length-append (flat_map line_bytes q.lines) more,
      length-append front [],
    ))

pub front-long : (old now : Option (List ℕ)) (front : List ℕ) (start : ℕ) → HasFront front start → Consumes old now front → header_limit ≤ length front
    → IfSome old (λ bytes. HasHeaderFault bytes header_too_long)
front-long None now front start f c l = tt
front-long (Some bytes) None front start f c l = absurd c
front-long (Some bytes) (Some ys) front start f c l =
    subst (λ (bs : List ℕ). HasHeaderFault bs header_too_long) (sym c)
    (too_long (f.begins ys) (omega (arith, length-append front ys, l)) (no_lines front ys start f l))

pub front-unended : (old now : Option (List ℕ)) (front : List ℕ) (start : ℕ) → HasFront front start → Consumes old now front → IsAtEnd now
    → length front < header_limit
    → IfSome old (λ bytes. HasHeaderFault bytes header_unended)
front-unended None now front start f c e l = tt
front-unended (Some bytes) None front start f c e l = absurd c
front-unended (Some bytes) (Some ys) front start f c e l =
    let same : bytes ≡ front = c ∙ ap (λ zs. front ++ zs) e ∙ append-nil front in
    let begins : begins_right front ≡ true = ap begins_right (sym (append-nil front)) ∙ f.begins [] in
    subst (λ (bs : List ℕ). HasHeaderFault bs header_unended) (sym same) (unended begins l (no_lines_left front start f))
