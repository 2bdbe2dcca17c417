-- What one byte does to what is still to be read of a file.
use Rattle.std.specs.Prelude.{◌≡◌, ℕ, ◌+◌, ◌<◌, Bool, true, false, not, ◌==◌, nat_eq, List, [], ◌∷◌, ◌++◌, length}
use Rattle.std.specs.List.{list_all}
use Rattle.std.proofs.Common.{refl, ap, sym, ◌∙◌, arith, subst}
use Rattle.std.proofs.lemmas.Bool.{and_parts, not-true}
use Rattle.std.proofs.lemmas.List.{append_assoc, append-nil}
use Rattle.std.proofs.lemmas.List.Folds.{list_all-append}
use Rattle.lists.proofs.Tests.{test_differ, nat_eq-sym}
use Rattle.iso_formats.specs.HeaderLines.{is_empty}
use Rattle.iso_formats.specs.MeshFile.{Stage, is_gap, next_stage, words_on, ends_at}
use Rattle.off_read.specs.declared.reader.Place.{Place}
use Rattle.off_read.specs.declared.reader.Place.TheVariants.{LineStart, OnLine, Passing}
use Rattle.off_read.specs.ScanForms.{Scan}
use Rattle.off_read.specs.Scans.{mark, reading_from, reading_in, lines_passed, is_passing, is_word_byte, IsInWord, Sees}
use Rattle.off_read.specs.WordForms.{IsSoFar, Known}
use Rattle.off_read.proofs.LineWords.{no_feed, filled, words-gap, words-word, words-comment, words-end}
use Rattle.off_read.proofs.UnreadBytes.{same-front, word-front, empty-line, line-without, line-with, last-word, no-bytes, no-words}

not_feed : (c : ℕ) → is_word_byte c ≡ true → not (c == 10) ≡ true
not_feed c h = ap not (no_feed c h)

pub unbroken-word : (w : List ℕ) → list_all is_word_byte w ≡ true → list_all (λ c. not (c == 10)) w ≡ true
unbroken-word [] h = refl
unbroken-word (x ∷ w) h =
    let p = and_parts (is_word_byte x) (list_all is_word_byte w) h in
    let a = not_feed x p.0 in
    let b = unbroken-word w p.1 in
    rw (a, b) refl

unbroken-more : (w : List ℕ) (c : ℕ) → list_all is_word_byte w ≡ true → (c == 10) ≡ false → list_all (λ c. not (c == 10)) (w ++ c ∷ []) ≡ true
unbroken-more w c h e =
    let a = unbroken-word w h in
    list_all-append (λ c. not (c == 10)) w (c ∷ []) ∙ rw (a, e) refl

-- ---- the end of a line

feed-none : (ended : ℕ) (p : Place) (stage : Stage) (bytes : List ℕ) → reading_from ended stage (mark p ++ 10 ∷ bytes) ≡ reading_from (ended + 1) stage bytes
feed-none ended LineStart stage bytes = empty-line ended stage bytes
feed-none ended OnLine stage bytes = line-without ended stage 32 [] bytes refl refl
feed-none ended Passing stage bytes = line-without ended stage 35 [] bytes refl refl

feed-word : (ended : ℕ) (stage : Stage) (bytes : List ℕ) (x : ℕ) (w : List ℕ) → list_all is_word_byte (x ∷ w) ≡ true
    → reading_from ended stage (32 ∷ ((x ∷ w) ++ 10 ∷ bytes))
    ≡ reading_from (ended + 1) (next_stage stage (record { text = x ∷ w; line = ended + 1 })) bytes
feed-word ended stage bytes x w h =
    line-with ended stage 32 (x ∷ w) bytes (x ∷ w) (unbroken-word (x ∷ w) h) (words-gap 32 (x ∷ w) refl refl ∙ words-end x w h)

-- ---- a space, a tab or CR

gap-start : (ended : ℕ) (stage : Stage) (bytes : List ℕ) (c : ℕ) → is_gap c ≡ true → nat_eq 35 c ≡ false → (c == 10) ≡ false
    → reading_from ended stage (c ∷ bytes) ≡ reading_from ended stage (32 ∷ bytes)
gap-start ended stage bytes c g e k =
    same-front ended stage c 32 [] [] bytes (rw k refl) refl (λ f. words-gap c f g e ∙ sym (words-gap 32 f refl refl))

gap-line : (ended : ℕ) (stage : Stage) (bytes : List ℕ) (c : ℕ) → is_gap c ≡ true → nat_eq 35 c ≡ false → (c == 10) ≡ false
    → reading_from ended stage (32 ∷ c ∷ bytes) ≡ reading_from ended stage (32 ∷ bytes)
gap-line ended stage bytes c g e k =
    same-front ended stage 32 32 (c ∷ []) [] bytes (rw k refl) refl
    (λ f. words-gap 32 (c ∷ f) refl refl ∙ words-gap c f g e ∙ sym (words-gap 32 f refl refl))

gap-word : (ended : ℕ) (stage : Stage) (bytes : List ℕ) (c x : ℕ) (w : List ℕ) → list_all is_word_byte (x ∷ w) ≡ true → is_gap c ≡ true
    → nat_eq 35 c ≡ false → (c == 10) ≡ false
    → reading_from ended stage (32 ∷ ((x ∷ w) ++ c ∷ bytes)) ≡ reading_from ended (next_stage stage (record { text = x ∷ w; line = ended + 1 })) (32 ∷ bytes)
gap-word ended stage bytes c x w h g e k =
    ap (λ (l : List ℕ). reading_from ended stage (32 ∷ l)) (sym (append_assoc (x ∷ w) (c ∷ []) bytes))
    ∙ word-front ended stage 32 32 ((x ∷ w) ++ c ∷ []) [] bytes (x ∷ w) (unbroken-more (x ∷ w) c h k) refl
    (λ f. words-gap 32 (((x ∷ w) ++ c ∷ []) ++ f) refl refl ∙ ap words_on (append_assoc (x ∷ w) (c ∷ []) f) ∙ words-word x w f c h g e
    ∙ ap (λ (l : List (List ℕ)). (x ∷ w) ∷ l) (sym (words-gap 32 f refl refl)))

-- ---- a comment

hash-line : (ended : ℕ) (stage : Stage) (bytes : List ℕ) → reading_from ended stage (32 ∷ 35 ∷ bytes) ≡ reading_from ended stage (35 ∷ bytes)
hash-line ended stage bytes = same-front ended stage 32 35 (35 ∷ []) [] bytes refl refl (λ f. words-gap 32 (35 ∷ f) refl refl)

hash-word : (ended : ℕ) (stage : Stage) (bytes : List ℕ) (x : ℕ) (w : List ℕ) → list_all is_word_byte (x ∷ w) ≡ true
    → reading_from ended stage (32 ∷ ((x ∷ w) ++ 35 ∷ bytes)) ≡ reading_from ended (next_stage stage (record { text = x ∷ w; line = ended + 1 })) (35 ∷ bytes)
hash-word ended stage bytes x w h =
    ap (λ (l : List ℕ). reading_from ended stage (32 ∷ l)) (sym (append_assoc (x ∷ w) (35 ∷ []) bytes))
    ∙ word-front ended stage 32 35 ((x ∷ w) ++ 35 ∷ []) [] bytes (x ∷ w) (unbroken-more (x ∷ w) 35 h refl) refl
    (λ f. words-gap 32 (((x ∷ w) ++ 35 ∷ []) ++ f) refl refl ∙ ap words_on (append_assoc (x ∷ w) (35 ∷ []) f) ∙ words-comment x w f h)

-- in a comment a byte changes nothing
passing : (ended : ℕ) (stage : Stage) (bytes : List ℕ) (c : ℕ) → (c == 10) ≡ false
    → reading_from ended stage (35 ∷ c ∷ bytes) ≡ reading_from ended stage (35 ∷ bytes)
passing ended stage bytes c k = same-front ended stage 35 35 (c ∷ []) [] bytes (rw k refl) refl (λ f. refl)

-- ---- a byte of a word

start-line : (ended : ℕ) (stage : Stage) (bytes : List ℕ) (c : ℕ) → (c == 10) ≡ false
    → reading_from ended stage (c ∷ bytes) ≡ reading_from ended stage (32 ∷ c ∷ bytes)
start-line ended stage bytes c k =
    same-front ended stage c 32 [] (c ∷ []) bytes (rw k refl) (rw k refl) (λ f. sym (words-gap 32 (c ∷ f) refl refl))

-- ---- together

pub moved : (s : Scan) (ended : ℕ) (p : Place) (text : List ℕ) (stage : Stage) (bytes : List ℕ) → s.ended ≡ ended → s.place ≡ p
    → reading_in s text stage bytes ≡ reading_from ended stage (mark p ++ (text ++ bytes))
moved s ended p text stage bytes e f =
    ap (λ (n : ℕ). reading_from n stage (mark s.place ++ (text ++ bytes))) e
    ∙ ap (λ (q : Place). reading_from ended stage (mark q ++ (text ++ bytes))) f

ended_word : (s : Scan) (ended line : ℕ) (p : Place) (text : List ℕ) (stage : Stage) (bytes : List ℕ) → s.ended ≡ ended → s.place ≡ p
    → ended + length (mark p) ≡ line
    → reading_from ended (next_stage stage (record { text = text; line = line })) (mark p ++ bytes)
    ≡ reading_in s [] (next_stage stage (record { text = text; line = lines_passed s })) bytes
ended_word s ended line p text stage bytes e f n =
    let same : line ≡ lines_passed s = sym n ∙ ap (λ (m : ℕ). m + length (mark p)) (sym e) ∙ ap (λ (q : Place). s.ended + length (mark q)) (sym f) in
    ap (λ (m : ℕ). reading_from ended (next_stage stage (record { text = text; line = m })) (mark p ++ bytes)) same
    ∙ sym (moved s ended p [] (next_stage stage (record { text = text; line = lines_passed s })) bytes e f)

none_in : (s : Scan) → IsInWord s []
none_in s = record { right = refl; standing = λ h. absurd (omega (arith, h)) }

pub sees_feed : (old new : Scan) (word : Known) (text : List ℕ) → IsSoFar word text → IsInWord old text → new.ended ≡ old.ended + 1 → new.place ≡ LineStart
    → Sees old new word text 10 (not (is_empty text))
sees_feed old new word [] so i e p = (
  [],
  so,
  none_in new,
  λ stage bytes. feed-none old.ended old.place stage bytes ∙ sym (moved new (old.ended + 1) LineStart [] stage bytes e p),
)
sees_feed old new word (x ∷ w) so i e p = subst (λ (b : Bool). Sees old new word (x ∷ w) 10 b) (sym (filled x w)) (
  so,
  λ stage bytes.
      moved old old.ended OnLine (x ∷ w) stage (10 ∷ bytes) refl (i.standing (omega arith))
      ∙ feed-word old.ended stage bytes x w i.right
      ∙ ended_word new (old.ended + 1) (old.ended + 1) LineStart (x ∷ w) stage bytes e p (omega arith),
)

pub sees_hash : (old new : Scan) (word : Known) (text : List ℕ) → IsSoFar word text → IsInWord old text → new.ended ≡ old.ended
    → (old.place ≡ Passing → ⊥) → new.place ≡ Passing → Sees old new word text 35 (not (is_empty text))
sees_hash old new word [] so i e q p = (
  [],
  so,
  none_in new,
  λ stage bytes. go old.place refl stage bytes ∙ sym (moved new old.ended Passing [] stage bytes e p),
)
  where
    go : (s : Place) → old.place ≡ s → (stage : Stage) (bytes : List ℕ)
        → reading_from old.ended stage (mark s ++ 35 ∷ bytes) ≡ reading_from old.ended stage (35 ∷ bytes)
    go LineStart f stage bytes = refl
    go OnLine f stage bytes = hash-line old.ended stage bytes
    go Passing f stage bytes = absurd (q f)
sees_hash old new word (x ∷ w) so i e q p = subst (λ (b : Bool). Sees old new word (x ∷ w) 35 b) (sym (filled x w)) (
  so,
  λ stage bytes.
      moved old old.ended OnLine (x ∷ w) stage (35 ∷ bytes) refl (i.standing (omega arith))
      ∙ hash-word old.ended stage bytes x w i.right
      ∙ ended_word new old.ended (old.ended + 1) Passing (x ∷ w) stage bytes e p (omega arith),
)

pub sees_gap : (old new : Scan) (word : Known) (text : List ℕ) (c : ℕ) → IsSoFar word text → IsInWord old text → new.ended ≡ old.ended
    → (old.place ≡ Passing → ⊥) → new.place ≡ OnLine → is_gap c ≡ true → nat_eq 35 c ≡ false → (c == 10) ≡ false
    → Sees old new word text c (not (is_empty text))
sees_gap old new word [] c so i e q p g h k = (
  [],
  so,
  none_in new,
  λ stage bytes. go old.place refl stage bytes ∙ sym (moved new old.ended OnLine [] stage bytes e p),
)
  where
    go : (s : Place) → old.place ≡ s → (stage : Stage) (bytes : List ℕ)
        → reading_from old.ended stage (mark s ++ c ∷ bytes) ≡ reading_from old.ended stage (32 ∷ bytes)
    go LineStart f stage bytes = gap-start old.ended stage bytes c g h k
    go OnLine f stage bytes = gap-line old.ended stage bytes c g h k
    go Passing f stage bytes = absurd (q f)
sees_gap old new word (x ∷ w) c so i e q p g h k = subst (λ (b : Bool). Sees old new word (x ∷ w) c b) (sym (filled x w)) (
  so,
  λ stage bytes.
      moved old old.ended OnLine (x ∷ w) stage (c ∷ bytes) refl (i.standing (omega arith))
      ∙ gap-word old.ended stage bytes c x w i.right g h k
      ∙ ended_word new old.ended (old.ended + 1) OnLine (x ∷ w) stage bytes e p (omega arith),
)

pub sees_passing : (old new : Scan) (word : Known) (text : List ℕ) (c : ℕ) → IsSoFar word text → IsInWord old text → new.ended ≡ old.ended
    → old.place ≡ Passing → new.place ≡ Passing → (c == 10) ≡ false → Sees old new word text c false
sees_passing old new word [] c so i e q p k = (
  [],
  so,
  none_in new,
  λ stage bytes.
      moved old old.ended Passing [] stage (c ∷ bytes) refl q ∙ passing old.ended stage bytes c k ∙ sym (moved new old.ended Passing [] stage bytes e p),
)
sees_passing old new word (x ∷ w) c so i e q p k = let f = i.standing (omega arith) in absurd (cc)

pub sees_byte : (old new : Scan) (before after : Known) (text : List ℕ) (c : ℕ) → IsSoFar after (text ++ c ∷ []) → IsInWord old text → new.ended ≡ old.ended
    → (old.place ≡ Passing → ⊥) → new.place ≡ OnLine → is_word_byte c ≡ true → Sees old new after text c false
sees_byte old new before after text c so i e q p g = (
  text ++ c ∷ [],
  so,
  record {
    right = let r = i.right in list_all-append is_word_byte text (c ∷ []) ∙ rw (r, g) refl;
    standing = λ h. p;
  },
  λ stage bytes. go text old.place refl i.standing stage bytes ∙ sym (moved new old.ended OnLine (text ++ c ∷ []) stage bytes e p),
)
  where
    go : (t : List ℕ) (s : Place) → old.place ≡ s → (0 < length t → old.place ≡ OnLine) → (stage : Stage) (bytes : List ℕ)
        → reading_from old.ended stage (mark s ++ (t ++ c ∷ bytes)) ≡ reading_from old.ended stage (32 ∷ ((t ++ c ∷ []) ++ bytes))
    go t OnLine f h stage bytes = ap (λ (l : List ℕ). reading_from old.ended stage (32 ∷ l)) (sym (append_assoc t (c ∷ []) bytes))
    go [] LineStart f h stage bytes = start-line old.ended stage bytes c (no_feed c g)
    go (x ∷ t) LineStart f h stage bytes = let k = h (omega arith) in absurd (cc)
    go t Passing f h stage bytes = absurd (q f)

pub sees_at : (old new : Scan) (word : Known) (text : List ℕ) (b c : ℕ) (r q : Bool) → b ≡ c → r ≡ q → Sees old new word text c q → Sees old new word text b r
sees_at old new word text b c r q e f h =
    subst (λ (x : ℕ). Sees old new word text x r) (sym e) (subst (λ (x : Bool). Sees old new word text c x) (sym f) h)

-- ---- what tests say

pub is_passing_place : (p : Place) → is_passing p ≡ true → p ≡ Passing
is_passing_place LineStart e = absurd (cc)
is_passing_place OnLine e = absurd (cc)
is_passing_place Passing e = refl

pub no_passing_place : (p : Place) → is_passing p ≡ false → p ≡ Passing → ⊥
no_passing_place LineStart e f = cc
no_passing_place OnLine e f = cc
no_passing_place Passing e f = cc

pub unequal : (a b : ℕ) → (a ≡ b → ⊥) → (a == b) ≡ false
unequal a b h = not-true (a == b) (test_differ a b h)

pub unequal_turned : (a b : ℕ) → (a ≡ b → ⊥) → nat_eq b a ≡ false
unequal_turned a b h = nat_eq-sym b a ∙ unequal a b h

pub word_byte : (c : ℕ) → is_gap c ≡ false → (c ≡ 10 → ⊥) → (c ≡ 35 → ⊥) → is_word_byte c ≡ true
word_byte c g f h =
    let a = unequal c 10 f in
    let b = unequal_turned c 35 h in
    rw (g, a, b) refl

-- ---- the end of a file

pub no_more : (ended : ℕ) (p : Place) (stage : Stage) → reading_from ended stage (mark p ++ []) ≡ ends_at (ended + length (mark p)) stage
no_more ended LineStart stage = no-bytes ended stage ∙ ap (λ (n : ℕ). ends_at n stage) (let e : ended ≡ ended + 0 = omega arith in e)
no_more ended OnLine stage = no-words ended stage 32 refl refl
no_more ended Passing stage = no-words ended stage 35 refl refl

last_word : (ended : ℕ) (stage : Stage) (x : ℕ) (w : List ℕ) → list_all is_word_byte (x ∷ w) ≡ true
    → reading_from ended stage (32 ∷ x ∷ w) ≡ reading_from ended (next_stage stage (record { text = x ∷ w; line = ended + 1 })) (32 ∷ [])
last_word ended stage x w h =
    last-word ended stage 32 32 (x ∷ w) [] (x ∷ w) (unbroken-word (x ∷ w) h) refl (words-gap 32 (x ∷ w) refl refl ∙ words-end x w h)

-- a word at the end of the file
pub word_last : (s : Scan) (text : List ℕ) (stage : Stage) → IsInWord s text → is_empty text ≡ false
    → reading_in s text stage [] ≡ reading_in s [] (next_stage stage (record { text = text; line = lines_passed s })) []
word_last s [] stage i e = absurd (cc)
word_last s (x ∷ w) stage i e =
    let p = i.standing (omega arith) in
    moved s s.ended OnLine (x ∷ w) stage [] refl p
    ∙ ap (λ (l : List ℕ). reading_from s.ended stage (32 ∷ l)) (append-nil (x ∷ w))
    ∙ last_word s.ended stage x w i.right
    ∙ ended_word s s.ended (s.ended + 1) OnLine (x ∷ w) stage [] refl p (omega arith)
