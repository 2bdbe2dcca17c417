-- Bytes begin with the lines of one header at most.
use Rattle.std.specs.Prelude.{◌≡◌, ℕ, suc, Bool, true, false, not, ◌&&◌, ◌||◌, nat_eq, List, [], ◌∷◌, ◌++◌, map, flat_map, drop, slice_index, Option}
use Rattle.std.specs.Prelude.{Some, None}
use Rattle.std.specs.List.{AllPass, last_or}
use Rattle.std.specs.Option.{option_map_or}
use Rattle.std.proofs.Common.{refl, sym, ap, ◌∙◌, subst, arith}
use Rattle.std.proofs.lemmas.Bool.{false≢true, or_parts, and_parts, not-true}
use Rattle.std.proofs.lemmas.List.{append_assoc}
use Rattle.lists.specs.Orders.{has}
use Rattle.iso_formats.specs.HeaderLines.{Line, is_line, line_bytes, is_filled, HasLines}
use Rattle.lists.proofs.MemberLaws.{same_head, pass_head, pass_tail}

-- ---- what stands before the first LF

before_feed : (xs ys us vs : List ℕ) → has xs 10 ≡ false → has ys 10 ≡ false → xs ++ 10 ∷ us ≡ ys ++ 10 ∷ vs → (xs ≡ ys) × (us ≡ vs)
before_feed [] [] us vs a b e = (refl, ap (drop 1) e)
before_feed [] (y ∷ ys) us vs a b e =
    absurd (false≢true (sym (subst (λ (c : ℕ). has (c ∷ ys) 10 ≡ false) (sym (ap (λ (l : List ℕ). slice_index l 0) e)) b)))
before_feed (x ∷ xs) [] us vs a b e =
    absurd (false≢true (sym (subst (λ (c : ℕ). has (c ∷ xs) 10 ≡ false) (ap (λ (l : List ℕ). slice_index l 0) e) a)))
before_feed (x ∷ xs) (y ∷ ys) us vs a b e =
    let r = before_feed xs ys us vs (or_parts (nat_eq 10 x) (has xs 10) a).1 (or_parts (nat_eq 10 y) (has ys 10) b).1 (ap (drop 1) e) in
    let h = ap (λ (l : List ℕ). slice_index l 0) e in
    let t = r.0 in
    (cc, r.1)

pub has-return : (xs : List ℕ) → has xs 10 ≡ false → has (xs ++ 13 ∷ []) 10 ≡ false
has-return [] a = refl
has-return (x ∷ xs) a =
    let p = or_parts (nat_eq 10 x) (has xs 10) a in
    subst (λ (b : Bool). b || has (xs ++ 13 ∷ []) 10 ≡ false) (sym p.0) (has-return xs p.1)

same_before_return : (xs ys : List ℕ) → xs ++ 13 ∷ [] ≡ ys ++ 13 ∷ [] → xs ≡ ys
same_before_return [] [] e = refl
same_before_return [] (y ∷ []) e = absurd (cc)
same_before_return [] (y ∷ z ∷ ys) e = absurd (cc)
same_before_return (x ∷ []) [] e = absurd (cc)
same_before_return (x ∷ z ∷ xs) [] e = absurd (cc)
same_before_return (x ∷ xs) (y ∷ ys) e =
    let r = same_before_return xs ys (ap (drop 1) e) in
    let h = ap (λ (l : List ℕ). slice_index l 0) e in
    cc

last-return : (o : Option ℕ) (xs : List ℕ) → last_or o (xs ++ 13 ∷ []) ≡ Some 13
last-return o [] = refl
last-return o (x ∷ xs) = last-return (Some x) xs

-- ---- one line

no_feed : (text : List ℕ) (r : Bool) → is_line (record { text = text; has_return = r }) ≡ true → has text 10 ≡ false
no_feed text r l = not-true (has text 10) (and_parts _ _ l).0

-- a text before LF alone ends with no CR
no_return : (t u : List ℕ) → is_line (record { text = u; has_return = false }) ≡ true → t ++ 13 ∷ [] ≡ u → ⊥
no_return t u l e =
    let b = not-true (option_map_or (nat_eq 13) (last_or None u) false) (and_parts (not (has u 10)) _ l).1 in
    let last : last_or None u ≡ Some 13 = ap (λ (w : List ℕ). last_or None w) (sym e) ∙ last-return None t in
    false≢true (sym b ∙ ap (λ (o : Option ℕ). option_map_or (nat_eq 13) o false) last)

same_line : (t u : List ℕ) (r s : Bool) (x y : List ℕ) → is_line (record { text = t; has_return = r }) ≡ true
    → is_line (record { text = u; has_return = s }) ≡ true
    → line_bytes (record { text = t; has_return = r }) ++ x ≡ line_bytes (record { text = u; has_return = s }) ++ y → (t ≡ u) × (x ≡ y)
same_line t u true true x y a b e =
    let p = before_feed (t ++ 13 ∷ []) (u ++ 13 ∷ []) x y (has-return t (no_feed t true a)) (has-return u (no_feed u true b))
    (append_assoc t (13 ∷ []) (10 ∷ x) ∙ sym (append_assoc t (13 ∷ 10 ∷ []) x) ∙ e ∙ append_assoc u (13 ∷ 10 ∷ []) y
    ∙ sym (append_assoc u (13 ∷ []) (10 ∷ y)))
    in
    (same_before_return t u p.0, p.1)
same_line t u true false x y a b e =
    let p = before_feed (t ++ 13 ∷ []) u x y (has-return t (no_feed t true a)) (no_feed u false b)
    (append_assoc t (13 ∷ []) (10 ∷ x) ∙ sym (append_assoc t (13 ∷ 10 ∷ []) x) ∙ e ∙ append_assoc u (10 ∷ []) y) in
    absurd (no_return t u b p.0)
same_line t u false true x y a b e =
    let p = before_feed t (u ++ 13 ∷ []) x y (no_feed t false a) (has-return u (no_feed u true b))
    (sym (append_assoc t (10 ∷ []) x) ∙ e ∙ append_assoc u (13 ∷ 10 ∷ []) y ∙ sym (append_assoc u (13 ∷ []) (10 ∷ y))) in
    absurd (no_return u t a (sym p.0))
same_line t u false false x y a b e =
    before_feed t u x y (no_feed t false a) (no_feed u false b) (sym (append_assoc t (10 ∷ []) x) ∙ e ∙ append_assoc u (10 ∷ []) y)

-- ---- all lines

abbrev texts_of : List Line → List (List ℕ)
texts_of ls = map (λ (l : Line). l.text) ls

first_line : (l m : Line) (ls ms : List Line) (x y : List ℕ) → AllPass is_line (l ∷ ls) → AllPass is_line (m ∷ ms)
    → flat_map line_bytes (l ∷ ls) ++ x ≡ flat_map line_bytes (m ∷ ms) ++ y
    → (l.text ≡ m.text) × (flat_map line_bytes ls ++ x ≡ flat_map line_bytes ms ++ y)
first_line l m ls ms x y a b e =
    same_line l.text m.text l.has_return m.has_return (flat_map line_bytes ls ++ x) (flat_map line_bytes ms ++ y) (pass_head is_line l ls a)
    (pass_head is_line m ms b)
    (sym (append_assoc (line_bytes l) (flat_map line_bytes ls) x) ∙ e ∙ append_assoc (line_bytes m) (flat_map line_bytes ms) y)

not_filled : (u : List ℕ) (us : List (List ℕ)) → AllPass is_filled (u ∷ us) → u ≡ [] → ⊥
not_filled u us g e = false≢true (subst (λ (t : List ℕ). is_filled t ≡ true) e (pass_head is_filled u us g))

same_lines : (ls ms : List Line) (ts us : List (List ℕ)) (x y : List ℕ) → AllPass is_line ls → AllPass is_line ms → texts_of ls ≡ ts ++ [] ∷ []
    → texts_of ms ≡ us ++ [] ∷ []
    → AllPass is_filled ts → AllPass is_filled us → flat_map line_bytes ls ++ x ≡ flat_map line_bytes ms ++ y → (ts ≡ us) × (x ≡ y)
same_lines [] ms [] us x y a b r s f g e = absurd (cc)
same_lines [] ms (t ∷ ts) us x y a b r s f g e = absurd (cc)
same_lines (l ∷ ls) [] ts [] x y a b r s f g e = absurd (cc)
same_lines (l ∷ ls) [] ts (u ∷ us) x y a b r s f g e = absurd (cc)
same_lines (l ∷ []) (m ∷ []) [] [] x y a b r s f g e = (refl, (first_line l m [] [] x y a b e).1)
same_lines (l ∷ k ∷ ls) (m ∷ ms) [] [] x y a b r s f g e = absurd (cc)
same_lines (l ∷ []) (m ∷ k ∷ ms) [] [] x y a b r s f g e = absurd (cc)
same_lines (l ∷ ls) (m ∷ ms) [] (u ∷ us) x y a b r s f g e =
    absurd (not_filled u us g (sym (same_head m.text u _ _ s) ∙ sym (first_line l m ls ms x y a b e).0 ∙ same_head l.text [] _ _ r))
same_lines (l ∷ ls) (m ∷ ms) (t ∷ ts) [] x y a b r s f g e =
    absurd (not_filled t ts f (sym (same_head l.text t _ _ r) ∙ (first_line l m ls ms x y a b e).0 ∙ same_head m.text [] _ _ s))
same_lines (l ∷ ls) (m ∷ ms) (t ∷ ts) (u ∷ us) x y a b r s f g e =
    let p = first_line l m ls ms x y a b e in
    let q =
    same_lines ls ms ts us x y (pass_tail is_line l ls a) (pass_tail is_line m ms b) (ap (drop 1) r) (ap (drop 1) s) (pass_tail is_filled t ts f)
    (pass_tail is_filled u us g) p.1 in
    let h : t ≡ u = sym (same_head l.text t _ _ r) ∙ p.0 ∙ same_head m.text u _ _ s in
    let k = q.0 in
    (cc, q.1)

-- the lines at the front of bytes, and the bytes behind them, are fixed
pub one_header : (bytes : List ℕ) (ts us : List (List ℕ)) (x y : List ℕ) → HasLines bytes ts x → HasLines bytes us y → (ts ≡ us) × (x ≡ y)
one_header bytes ts us x y a b = same_lines a.lines b.lines ts us x y a.are_lines b.are_lines a.read b.read a.filled b.filled (sym a.spelled ∙ b.spelled)
