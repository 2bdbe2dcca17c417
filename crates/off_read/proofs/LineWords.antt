-- The words of a line whose front is known.
use Rattle.std.specs.Prelude.{◌≡◌, ℕ, suc, ◌+◌, Bool, true, false, not, ◌==◌, nat_eq, List, [], ◌∷◌, ◌++◌, length, filter, take}
use Rattle.std.specs.List.{list_all, before_first, slice_split, onto_first, prefix_len}
use Rattle.std.proofs.Common.{refl, ap, sym, ◌∙◌, arith}
use Rattle.std.proofs.lemmas.Bool.{and_parts, not-true}
use Rattle.std.proofs.lemmas.List.{append-nil}
use Rattle.std.proofs.lemmas.List.Splits.{slice_split-cons_yes, slice_split-cons_no}
use Rattle.lists.proofs.Tests.{equal_of}
use Rattle.iso_formats.specs.HeaderLines.{is_filled}
use Rattle.iso_formats.specs.MeshFile.{is_gap, words_on}
use Rattle.off_read.specs.Scans.{is_word_byte}

one_more : (n : ℕ) → 1 + n ≡ suc n
one_more n = omega arith

cut-keeps : (c : ℕ) (text : List ℕ) → nat_eq 35 c ≡ false → before_first (nat_eq 35) (c ∷ text) ≡ c ∷ before_first (nat_eq 35) text
cut-keeps c text e =
    rw e (ap (λ (k : ℕ). take k (c ∷ text)) (one_more (prefix_len (λ (x : ℕ). not (nat_eq 35 x)) text)))

-- what is known of a byte of a word
pub no_gap : (c : ℕ) → is_word_byte c ≡ true → is_gap c ≡ false
no_gap c h = not-true (is_gap c) (and_parts (not (is_gap c)) _ h).0

pub no_hash : (c : ℕ) → is_word_byte c ≡ true → nat_eq 35 c ≡ false
no_hash c h = not-true (nat_eq 35 c) (and_parts (not (c == 10)) _ (and_parts (not (is_gap c)) _ h).1).1

pub no_feed : (c : ℕ) → is_word_byte c ≡ true → (c == 10) ≡ false
no_feed c h = not-true (c == 10) (and_parts (not (c == 10)) _ (and_parts (not (is_gap c)) _ h).1).0

cut-word : (w text : List ℕ) → list_all is_word_byte w ≡ true → before_first (nat_eq 35) (w ++ text) ≡ w ++ before_first (nat_eq 35) text
cut-word [] text h = refl
cut-word (c ∷ w) text h =
    let p = and_parts (is_word_byte c) (list_all is_word_byte w) h in
    cut-keeps c (w ++ text) (no_hash c p.0) ∙ ap (λ (l : List ℕ). c ∷ l) (cut-word w text p.1)

split-word : (w text : List ℕ) (c : ℕ) → list_all is_word_byte w ≡ true → is_gap c ≡ true → slice_split is_gap (w ++ c ∷ text) ≡ w ∷ slice_split is_gap text
split-word [] text c h g = slice_split-cons_yes is_gap c text g
split-word (x ∷ w) text c h g =
    let p = and_parts (is_word_byte x) (list_all is_word_byte w) h in
    slice_split-cons_no is_gap x (w ++ c ∷ text) (no_gap x p.0) ∙ ap (onto_first x) (split-word w text c p.1 g)

split-end : (w : List ℕ) → list_all is_word_byte w ≡ true → slice_split is_gap w ≡ w ∷ []
split-end [] h = refl
split-end (x ∷ w) h =
    let p = and_parts (is_word_byte x) (list_all is_word_byte w) h in
    slice_split-cons_no is_gap x w (no_gap x p.0) ∙ ap (onto_first x) (split-end w p.1)

-- a word is filled
pub filled : (x : ℕ) (w : List ℕ) → is_filled (x ∷ w) ≡ true
filled x w = go (length (x ∷ w) == 0) refl
  where
    go : (b : Bool) → (length (x ∷ w) == 0) ≡ b → not b ≡ true
    go true e = let n = equal_of (length (x ∷ w)) 0 e in absurd (omega (arith, n))
    go false e = refl

keep-filled : (x : ℕ) (w : List ℕ) (ws : List (List ℕ)) → filter is_filled ((x ∷ w) ∷ ws) ≡ (x ∷ w) ∷ filter is_filled ws
keep-filled x w ws = let f = filled x w in rw f refl

-- a byte between words gives none
pub words-gap : (c : ℕ) (text : List ℕ) → is_gap c ≡ true → nat_eq 35 c ≡ false → words_on (c ∷ text) ≡ words_on text
words-gap c text g e =
    ap (λ (l : List ℕ). filter is_filled (slice_split is_gap l)) (cut-keeps c text e)
    ∙ ap (filter is_filled) (slice_split-cons_yes is_gap c (before_first (nat_eq 35) text) g)

-- a word before a gap
pub words-word : (x : ℕ) (w text : List ℕ) (c : ℕ) → list_all is_word_byte (x ∷ w) ≡ true → is_gap c ≡ true → nat_eq 35 c ≡ false
    → words_on ((x ∷ w) ++ c ∷ text) ≡ (x ∷ w) ∷ words_on text
words-word x w text c h g e =
    ap (λ (l : List ℕ). filter is_filled (slice_split is_gap l)) (cut-word (x ∷ w) (c ∷ text) h ∙ ap (λ (l : List ℕ). (x ∷ w) ++ l) (cut-keeps c text e))
    ∙ ap (filter is_filled) (split-word (x ∷ w) (before_first (nat_eq 35) text) c h g)
    ∙ keep-filled x w (slice_split is_gap (before_first (nat_eq 35) text))

-- a word before a comment
pub words-comment : (x : ℕ) (w text : List ℕ) → list_all is_word_byte (x ∷ w) ≡ true → words_on ((x ∷ w) ++ 35 ∷ text) ≡ (x ∷ w) ∷ []
words-comment x w text h =
    ap (λ (l : List ℕ). filter is_filled (slice_split is_gap l)) (cut-word (x ∷ w) (35 ∷ text) h ∙ append-nil (x ∷ w))
    ∙ ap (filter is_filled) (split-end (x ∷ w) h) ∙ keep-filled x w []

-- a word at the end of a line
pub words-end : (x : ℕ) (w : List ℕ) → list_all is_word_byte (x ∷ w) ≡ true → words_on (x ∷ w) ≡ (x ∷ w) ∷ []
words-end x w h =
    ap words_on (sym (append-nil (x ∷ w)))
    ∙ ap (λ (l : List ℕ). filter is_filled (slice_split is_gap l)) (cut-word (x ∷ w) [] h ∙ append-nil (x ∷ w))
    ∙ ap (filter is_filled) (split-end (x ∷ w) h) ∙ keep-filled x w []
