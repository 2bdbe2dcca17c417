-- Words between blanks, one after another, and the sizes that they write.
use Rattle.std.proofs.Common.{◌≡◌, ℕ, zero, suc, ◌+◌, ◌-◌, ◌<◌, ◌≤◌, Bool, true, false, List, [], ◌∷◌, ◌++◌, map, length, take, drop, get_or, set}
use Rattle.std.proofs.Common.{replicate, Option, Some, None, leb, refl, sym, ap, ◌∙◌, subst, arith}
use Rattle.std.specs.Prelude.{◌&&◌, ◌==◌, filter, nat_le, if◌then◌else◌}
use Rattle.std.specs.List.{slice_split, position_or_len, list_all}
use Rattle.std.proofs.lemmas.Bool.Decides.{nat_tests}
use Rattle.std.proofs.lemmas.Bool.{cases_lt}
use Rattle.std.proofs.Common.{inl, inr}
use Rattle.std.proofs.lemmas.List.{drop_more, drop-drop, drop_all, take_all, take_more, take_more_set, length-drop, get_or-drop, map-append}
use Rattle.std.proofs.lemmas.List.{take-append-drop, length-take, length-set, drop-set-lt, drop-replicate}
use Rattle.std.proofs.lemmas.List.Sums.{position_or_len_is}
use Rattle.std.proofs.lemmas.List.Splits.{slice_split-cons_yes, slice_split_first, slice_split_none}
use Rattle.std.proofs.lemmas.List.Elements.{All-from_get_or}
use Rattle.nrrd_raw.specs.Shapes.{HasShape}
use Rattle.iso_formats.specs.HeaderLines.{is_blank, is_filled, words_of, is_numeral_within, numeral_value}

-- ---- words

words_blank : (x : ℕ) (xs : List ℕ) → is_blank x ≡ true → words_of (x ∷ xs) ≡ words_of xs
words_blank x xs e = ap (filter is_filled) (slice_split-cons_yes is_blank x xs e)

skip_more : (xs : List ℕ) (a n : ℕ) → a + n ≤ length xs → ((k : ℕ) → a ≤ k → k < a + n → is_blank (get_or xs k 0) ≡ true)
    → words_of (drop a xs) ≡ words_of (drop (a + n) xs)
skip_more xs a zero l b = ap (λ i. words_of (drop i xs)) (same a)
  where
    same : (a : ℕ) → a ≡ a + 0
    same a = omega arith
skip_more xs a (suc n) l b =
    let here : drop a xs ≡ get_or xs a 0 ∷ drop (a + 1) xs = drop_more xs a 0 (omega arith) in
    let next : (a + 1) + n ≡ a + suc n = omega arith in
    ap words_of here ∙ words_blank (get_or xs a 0) (drop (a + 1) xs) (b a (omega arith) (omega arith))
    ∙ skip_more xs (a + 1) n (omega arith) (λ k p q. b k (omega arith) (omega arith)) ∙ ap (λ i. words_of (drop i xs)) next

-- blanks are passed over
pub words_of-skip : (xs : List ℕ) (a b : ℕ) → a ≤ b → b ≤ length xs → ((k : ℕ) → a ≤ k → k < b → is_blank (get_or xs k 0) ≡ true)
    → words_of (drop a xs) ≡ words_of (drop b xs)
words_of-skip xs a b l m h =
    let e : a + (b - a) ≡ b = omega arith in
    skip_more xs a (b - a) (omega arith) (λ k p q. h k p (omega arith)) ∙ ap (λ i. words_of (drop i xs)) e

filled : (w : List ℕ) (ws : List (List ℕ)) → 0 < length w → filter is_filled (w ∷ ws) ≡ w ∷ filter is_filled ws
filled [] ws l = absurd (omega arith)
filled (x ∷ xs) ws l = rw (test (length (x ∷ xs)) l) refl
  where
    test : (n : ℕ) → 0 < n → (n == 0) ≡ false
    test n l = grind (arith, nat_tests)

-- a word is read up to the next blank
pub words_of-take : (xs : List ℕ) (a b : ℕ) → a < b → b ≤ length xs → ((k : ℕ) → a ≤ k → k < b → is_blank (get_or xs k 0) ≡ false)
    → (b < length xs → is_blank (get_or xs b 0) ≡ true) → words_of (drop a xs) ≡ take (b - a) (drop a xs) ∷ words_of (drop b xs)
words_of-take xs a b l m none here = elim (cases_lt b (length xs)) [
  | inl more ↦
      let ys = drop a xs in
      let len : length ys ≡ length xs - a = length-drop a xs in
      let place : position_or_len is_blank ys ≡ b - a = position_or_len_is is_blank ys (b - a) 0 (omega (arith, len))
      (λ k h. ap is_blank (get_or-drop a xs k 0) ∙ none (a + k) (omega arith) (omega arith))
      (λ h. let e : a + (b - a) ≡ b = omega arith in ap is_blank (get_or-drop a xs (b - a) 0) ∙ ap (λ i. is_blank (get_or xs i 0)) e ∙ here more) in
      let e : a + (b - a + 1) ≡ b + 1 = omega arith in
      ap (filter is_filled) (slice_split_first is_blank ys 0 (omega (arith, place, len)))
      ∙ ap (λ i. filter is_filled (take i ys ∷ slice_split is_blank (drop (i + 1) ys))) place
      ∙ filled (take (b - a) ys) (slice_split is_blank (drop (b - a + 1) ys)) (omega (arith, length-take (b - a) ys, len))
      ∙ ap (λ zs. take (b - a) ys ∷ words_of zs) (drop-drop (b - a + 1) a xs ∙ ap (λ i. drop i xs) e)
      ∙ ap (λ ws. take (b - a) ys ∷ ws) (sym (ap words_of (drop_more xs b 0 more) ∙ words_blank (get_or xs b 0) (drop (b + 1) xs) (here more)))
  | inr end ↦
      let ys = drop a xs in
      let len : length ys ≡ length xs - a = length-drop a xs in
      let all = All-from_get_or (λ x. is_blank x ≡ false) ys 0 (λ i h. ap is_blank (get_or-drop a xs i 0) ∙ none (a + i) (omega arith) (omega (arith, len))) in
      ap (filter is_filled) (slice_split_none is_blank ys all)
      ∙ filled ys [] (omega (arith, len))
      ∙ ap (λ zs. zs ∷ []) (sym (take_all (b - a) ys (omega (arith, len))))
      ∙ ap (λ zs. take (b - a) ys ∷ words_of zs) (sym (drop_all b xs end))
]

-- ---- sizes

abbrev pub is_size : List ℕ → Bool
is_size w = is_numeral_within 1 4294967295 w

-- the sizes that words write
abbrev pub sizes_from : List (List ℕ) → Option (List ℕ)
sizes_from ws = if nat_le 1 (length ws) && nat_le (length ws) 4 && list_all is_size ws then Some (map numeral_value ws) else None

-- the first words were read, and these are left
pub record ReadsWords (ws rest : List (List ℕ)) (count : ℕ) (places : List ℕ) : Type 0 where
  pub left : drop count ws ≡ rest
  pub few : count ≤ length ws
  pub fine : list_all is_size (take count ws) ≡ true
  pub read : take count places ≡ map numeral_value (take count ws)

pub ReadsWords-none : (ws : List (List ℕ)) (places : List ℕ) → ReadsWords ws ws 0 places
ReadsWords-none ws places = record { left = refl; few = omega arith; fine = refl; read = refl }

all_push : (xs : List (List ℕ)) (w : List ℕ) (b : Bool) → list_all is_size xs ≡ true → is_size w ≡ b → list_all is_size (xs ++ w ∷ []) ≡ b
all_push [] w true a e = rw e refl
all_push [] w false a e = rw e refl
all_push (x ∷ xs) w b a e = push_cases (is_size x) (list_all is_size xs) (list_all is_size (xs ++ w ∷ [])) b a (λ h. all_push xs w b h e)
  where
    push_cases : (p q r b : Bool) → p && q ≡ true → (q ≡ true → r ≡ b) → p && r ≡ b
    push_cases true q r b e h = h e
    push_cases false q r b e h = absurd (cc)

record Next (ws rest : List (List ℕ)) (w : List ℕ) (count : ℕ) : Type 0 where
  below : count < length ws
  taken : take (count + 1) ws ≡ take count ws ++ w ∷ []
  dropped : drop (count + 1) ws ≡ rest

next_word : (ws rest : List (List ℕ)) (w : List ℕ) (count : ℕ) → drop count ws ≡ w ∷ rest → Next ws rest w count
next_word ws rest w count e =
    let len = length-drop count ws in
    let below : count < length ws = omega (arith, len, ap length e) in
    let split : get_or ws count [] ∷ drop (count + 1) ws ≡ w ∷ rest = sym (drop_more ws count [] below) ∙ e in
    let head : get_or ws count [] ≡ w = (let s = split in cc) in
    let tail : drop (count + 1) ws ≡ rest = (let s = split in cc) in
    record { below = below; taken = take_more ws count [] below ∙ ap (λ v. take count ws ++ v ∷ []) head; dropped = tail }

size_is : (b : Bool) (v size : ℕ) → Some size ≡ (if b then Some v else None) → (b ≡ true) × (size ≡ v)
size_is true v size e = (refl, cc)
size_is false v size e = absurd (cc)

size_not : (b : Bool) (v : ℕ) → None ≡ (if b then Some v else None) → b ≡ false
size_not true v e = absurd (cc)
size_not false v e = refl

pub ReadsWords-more : (ws rest next : List (List ℕ)) (w : List ℕ) (count size : ℕ) (places : List ℕ) → ReadsWords ws rest count places → rest ≡ w ∷ next
    → count < length places → Some size ≡ (if is_size w then Some (numeral_value w) else None) → ReadsWords ws next (count + 1) (set places count size)
ReadsWords-more ws rest next w count size places r e l s =
    let n = next_word ws next w count (r.left ∙ e) in
    let v = size_is (is_size w) (numeral_value w) size s in
    record {
      left = n.dropped;
      few = omega (arith, n.below);
      fine = ap (list_all is_size) n.taken ∙ all_push (take count ws) w true r.fine v.0;
      read = take_more_set places count size l ∙ ap (λ ns. ns ++ size ∷ []) r.read ∙ ap (λ m. map numeral_value (take count ws) ++ m ∷ []) v.1
          ∙ sym (map-append numeral_value (take count ws) (w ∷ [])) ∙ ap (map numeral_value) (sym n.taken);
    }

all_front : (xs ys : List (List ℕ)) → list_all is_size xs ≡ false → list_all is_size (xs ++ ys) ≡ false
all_front [] ys e = absurd (cc)
all_front (x ∷ xs) ys e = front_cases (is_size x) (list_all is_size xs) (list_all is_size (xs ++ ys)) e (all_front xs ys)
  where
    front_cases : (p q r : Bool) → p && q ≡ false → (q ≡ false → r ≡ false) → p && r ≡ false
    front_cases true q r e h = h e
    front_cases false q r e h = refl

not_all : (a b : Bool) (ns : List ℕ) → None ≡ (if a && b && false then Some ns else None)
not_all true true ns = refl
not_all true false ns = refl
not_all false b ns = refl

pub sizes_from-wrong : (ws rest next : List (List ℕ)) (w : List ℕ) (count : ℕ) (places : List ℕ) → ReadsWords ws rest count places → rest ≡ w ∷ next
    → None ≡ (if is_size w then Some (numeral_value w) else None) → None ≡ sizes_from ws
sizes_from-wrong ws rest next w count places r e s =
    let n = next_word ws next w count (r.left ∙ e) in
    let wrong : list_all is_size (take (count + 1) ws) ≡ false =
    ap (list_all is_size) n.taken ∙ all_push (take count ws) w false r.fine (size_not (is_size w) (numeral_value w) s) in
    let all : list_all is_size ws ≡ false =
    ap (list_all is_size) (sym (take-append-drop (count + 1) ws)) ∙ all_front (take (count + 1) ws) (drop (count + 1) ws) wrong in
    rw all (not_all (nat_le 1 (length ws)) (nat_le (length ws) 4) (map numeral_value ws))

too_many : (n : ℕ) (b : Bool) (ns : List ℕ) → 4 < n → None ≡ (if nat_le 1 n && nat_le n 4 && b then Some ns else None)
too_many n b ns l = rw (test n l) (many_cases (nat_le 1 n) b ns)
  where
    test : (n : ℕ) → 4 < n → leb n 4 ≡ false
    test n l = grind (arith, nat_tests)

    many_cases : (a b : Bool) (ns : List ℕ) → None ≡ (if a && false && b then Some ns else None)
    many_cases true b ns = refl
    many_cases false b ns = refl

pub sizes_from-many : (ws rest next : List (List ℕ)) (w : List ℕ) (count : ℕ) (places : List ℕ) → ReadsWords ws rest count places → rest ≡ w ∷ next
    → count ≡ 4 → None ≡ sizes_from ws
sizes_from-many ws rest next w count places r e f =
    let n = next_word ws next w count (r.left ∙ e) in
    too_many (length ws) (list_all is_size ws) (map numeral_value ws) (omega (arith, n.below, f))

all_read : (ws : List (List ℕ)) (count : ℕ) (places : List ℕ) → ReadsWords ws [] count places → (length ws ≡ count) × (take count ws ≡ ws)
all_read ws count places r =
    let len : length ws ≡ count = omega (arith, length-drop count ws, ap length r.left, r.few) in
    (len, take_all count ws (omega (arith, len)))

pub sizes_from-all : (ws : List (List ℕ)) (count : ℕ) (places : List ℕ) → ReadsWords ws [] count places → 1 ≤ count → count ≤ 4
    → Some (take count places) ≡ sizes_from ws
sizes_from-all ws count places r l m =
    let all = all_read ws count places r in
    let fine : list_all is_size ws ≡ true = ap (list_all is_size) (sym all.1) ∙ r.fine in
    rw (fine, all.0, low count l, high count m) (ap Some (r.read ∙ ap (map numeral_value) all.1))
  where
    low : (n : ℕ) → 1 ≤ n → leb 1 n ≡ true
    low n l = grind (arith, nat_tests)

    high : (n : ℕ) → n ≤ 4 → leb n 4 ≡ true
    high n l = grind (arith, nat_tests)

-- ---- the loop's parts

pub words_of-word : (xs : List ℕ) (a b : ℕ) → a < b → b ≤ length xs → is_blank (get_or xs a 0) ≡ false
    → ((k : ℕ) → a < k → k < b → is_blank (get_or xs k 0) ≡ false)
    → (b < length xs → is_blank (get_or xs b 0) ≡ true) → words_of (drop a xs) ≡ take (b - a) (drop a xs) ∷ words_of (drop b xs)
words_of-word xs a b l m first none here = words_of-take xs a b l m (λ k p q. elim (cases_lt a k) [
  | inl more ↦ none k more q
  | inr same ↦ (let e : a ≡ k = omega arith in subst (λ (i : ℕ). is_blank (get_or xs i 0) ≡ false) e first)
]) here

pub HasShape-set : (count size : ℕ) (places : List ℕ) → HasShape count places → count < 4 → HasShape (count + 1) (set places count size)
HasShape-set count size places s l =
    let e : 4 - count - 1 ≡ 4 - (count + 1) = omega arith in
    record {
      few = omega arith;
      four = length-set places count size ∙ s.four;
      beyond =
          drop-set-lt (count + 1) places count size (omega arith) ∙ sym (drop-drop 1 count places) ∙ ap (drop 1) s.beyond
          ∙ drop-replicate 1 (4 - count) 1 ∙ ap (λ n. replicate n 1) e;
    }
