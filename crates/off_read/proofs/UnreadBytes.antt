-- What is still to be read of a file, byte by byte.
use Rattle.std.specs.Prelude.{◌≡◌, ℕ, suc, ◌+◌, ◌<◌, Bool, true, false, not, ◌==◌, List, [], ◌∷◌, ◌++◌, map, length, Some, None, if◌then◌else◌}
use Rattle.std.specs.List.{list_all, onto_first}
use Rattle.std.proofs.Common.{refl, ap, sym, ◌∙◌, arith}
use Rattle.std.proofs.lemmas.Bool.{and_parts, not-true}
use Rattle.std.proofs.lemmas.List.{append-nil}
use Rattle.lists.proofs.Tests.{equal_of, of_equal}
use Rattle.iso_formats.specs.MeshFile.{Body, at_face, at_index, stopped, extra_word, wrong_size, is_whole, is_size}
use Rattle.iso_formats.specs.MeshFile.{Word, Stage, MeshReading, lines_of, words_on, words_from, next_stage, stage_behind, ends_at}
use Rattle.off_read.specs.Scans.{reading_from}

-- the first of lines, and the others
first_of : List (List ℕ) → List ℕ
first_of [] = []
first_of (l ∷ ls) = l

others_of : List (List ℕ) → List (List ℕ)
others_of [] = []
others_of (l ∷ ls) = ls

onto_first-is : (c : ℕ) (ls : List (List ℕ)) → onto_first c ls ≡ (c ∷ first_of ls) ∷ others_of ls
unfolding first_of others_of
onto_first-is c [] = refl
onto_first-is c (l ∷ ls) = refl

lines-cons : (c : ℕ) (bytes : List ℕ) → (c == 10) ≡ false → lines_of (c ∷ bytes) ≡ onto_first c (lines_of bytes)
lines-cons c bytes e = rw e refl

lines-front : (c : ℕ) (t bytes : List ℕ) → list_all (λ c. not (c == 10)) (c ∷ t) ≡ true
    → lines_of ((c ∷ t) ++ bytes) ≡ ((c ∷ t) ++ first_of (lines_of bytes)) ∷ others_of (lines_of bytes)
unfolding first_of others_of
lines-front c [] bytes h =
    lines-cons c bytes (not-true (c == 10) (and_parts (not (c == 10)) _ h).0) ∙ onto_first-is c (lines_of bytes)
lines-front c (d ∷ t) bytes h =
    let p = and_parts (not (c == 10)) _ h in
    lines-cons c ((d ∷ t) ++ bytes) (not-true (c == 10) p.0) ∙ ap (onto_first c) (lines-front d t bytes p.1)

-- what lines are, of which the first has this number less one
of_lines : ℕ → Stage → List (List ℕ) → MeshReading
of_lines ended stage ls = ends_at (ended + length ls) (stage_behind stage (words_from (ended + 1) ls))

is_of_lines : (ended : ℕ) (stage : Stage) (bytes : List ℕ) → reading_from ended stage bytes ≡ of_lines ended stage (lines_of bytes)
unfolding reading_from of_lines
is_of_lines ended stage bytes = refl

-- what a line and others are, of which the line's words are known
of_words : ℕ → Stage → List (List ℕ) → List (List ℕ) → MeshReading
of_words ended stage words ls =
    ends_at (ended + suc (length ls)) (stage_behind stage (map (λ w. record { text = w; line = ended + 1 }) words ++ words_from (ended + 1 + 1) ls))

of_lines-is : (ended : ℕ) (stage : Stage) (l : List ℕ) (ls : List (List ℕ)) → of_lines ended stage (l ∷ ls) ≡ of_words ended stage (words_on l) ls
unfolding of_lines of_words
of_lines-is ended stage l ls = refl

of_words-next : (ended : ℕ) (stage : Stage) (w : List ℕ) (ws : List (List ℕ)) (ls : List (List ℕ))
    → of_words ended stage (w ∷ ws) ls ≡ of_words ended (next_stage stage (record { text = w; line = ended + 1 })) ws ls
unfolding of_words
of_words-next ended stage w ws ls = refl

of_words-none : (ended : ℕ) (stage : Stage) (ls : List (List ℕ)) → of_words ended stage [] ls ≡ of_lines (ended + 1) stage ls
unfolding of_words of_lines
of_words-none ended stage ls =
    ap (λ (n : ℕ). ends_at n (stage_behind stage (words_from (ended + 1 + 1) ls))) (let e : ended + suc (length ls) ≡ ended + 1 + length ls = omega arith in e)

front-words : (ended : ℕ) (stage : Stage) (c : ℕ) (t bytes : List ℕ) → list_all (λ c. not (c == 10)) (c ∷ t) ≡ true
    → reading_from ended stage ((c ∷ t) ++ bytes)
    ≡ of_words ended stage (words_on ((c ∷ t) ++ first_of (lines_of bytes))) (others_of (lines_of bytes))
front-words ended stage c t bytes h =
    is_of_lines ended stage ((c ∷ t) ++ bytes)
    ∙ ap (of_lines ended stage) (lines-front c t bytes h)
    ∙ of_lines-is ended stage ((c ∷ t) ++ first_of (lines_of bytes)) (others_of (lines_of bytes))

-- two fronts of a line that have the same words
pub same-front : (ended : ℕ) (stage : Stage) (c d : ℕ) (t u bytes : List ℕ) → list_all (λ c. not (c == 10)) (c ∷ t) ≡ true
    → list_all (λ c. not (c == 10)) (d ∷ u) ≡ true
    → ((f : List ℕ) → words_on ((c ∷ t) ++ f) ≡ words_on ((d ∷ u) ++ f))
    → reading_from ended stage ((c ∷ t) ++ bytes) ≡ reading_from ended stage ((d ∷ u) ++ bytes)
same-front ended stage c d t u bytes h k e =
    front-words ended stage c t bytes h
    ∙ ap (λ (ws : List (List ℕ)). of_words ended stage ws (others_of (lines_of bytes))) (e (first_of (lines_of bytes)))
    ∙ sym (front-words ended stage d u bytes k)

-- a front of a line that has one word more than another
pub word-front : (ended : ℕ) (stage : Stage) (c d : ℕ) (t u bytes w : List ℕ) → list_all (λ c. not (c == 10)) (c ∷ t) ≡ true
    → list_all (λ c. not (c == 10)) (d ∷ u) ≡ true
    → ((f : List ℕ) → words_on ((c ∷ t) ++ f) ≡ w ∷ words_on ((d ∷ u) ++ f))
    → reading_from ended stage ((c ∷ t) ++ bytes) ≡ reading_from ended (next_stage stage (record { text = w; line = ended + 1 })) ((d ∷ u) ++ bytes)
word-front ended stage c d t u bytes w h k e =
    front-words ended stage c t bytes h
    ∙ ap (λ (ws : List (List ℕ)). of_words ended stage ws (others_of (lines_of bytes))) (e (first_of (lines_of bytes)))
    ∙ of_words-next ended stage w (words_on ((d ∷ u) ++ first_of (lines_of bytes))) (others_of (lines_of bytes))
    ∙ sym (front-words ended (next_stage stage (record { text = w; line = ended + 1 })) d u bytes k)

-- a line that ends
line-words : (ended : ℕ) (stage : Stage) (c : ℕ) (t bytes : List ℕ) → list_all (λ c. not (c == 10)) (c ∷ t) ≡ true
    → reading_from ended stage ((c ∷ t) ++ 10 ∷ bytes) ≡ of_words ended stage (words_on (c ∷ t)) (lines_of bytes)
unfolding first_of others_of
line-words ended stage c t bytes h =
    front-words ended stage c t (10 ∷ bytes) h ∙ ap (λ (l : List ℕ). of_words ended stage (words_on l) (lines_of bytes)) (append-nil (c ∷ t))

pub empty-line : (ended : ℕ) (stage : Stage) (bytes : List ℕ) → reading_from ended stage (10 ∷ bytes) ≡ reading_from (ended + 1) stage bytes
empty-line ended stage bytes =
    is_of_lines ended stage (10 ∷ bytes) ∙ of_lines-is ended stage [] (lines_of bytes) ∙ of_words-none ended stage (lines_of bytes)
    ∙ sym (is_of_lines (ended + 1) stage bytes)

pub line-without : (ended : ℕ) (stage : Stage) (c : ℕ) (t bytes : List ℕ) → list_all (λ c. not (c == 10)) (c ∷ t) ≡ true → words_on (c ∷ t) ≡ []
    → reading_from ended stage ((c ∷ t) ++ 10 ∷ bytes) ≡ reading_from (ended + 1) stage bytes
line-without ended stage c t bytes h e =
    line-words ended stage c t bytes h
    ∙ ap (λ (ws : List (List ℕ)). of_words ended stage ws (lines_of bytes)) e
    ∙ of_words-none ended stage (lines_of bytes)
    ∙ sym (is_of_lines (ended + 1) stage bytes)

pub line-with : (ended : ℕ) (stage : Stage) (c : ℕ) (t bytes w : List ℕ) → list_all (λ c. not (c == 10)) (c ∷ t) ≡ true → words_on (c ∷ t) ≡ w ∷ []
    → reading_from ended stage ((c ∷ t) ++ 10 ∷ bytes) ≡ reading_from (ended + 1) (next_stage stage (record { text = w; line = ended + 1 })) bytes
line-with ended stage c t bytes w h e =
    line-words ended stage c t bytes h
    ∙ ap (λ (ws : List (List ℕ)). of_words ended stage ws (lines_of bytes)) e
    ∙ of_words-next ended stage w [] (lines_of bytes)
    ∙ of_words-none ended (next_stage stage (record { text = w; line = ended + 1 })) (lines_of bytes)
    ∙ sym (is_of_lines (ended + 1) (next_stage stage (record { text = w; line = ended + 1 })) bytes)

-- the last line, which does not end
last-words : (ended : ℕ) (stage : Stage) (c : ℕ) (t : List ℕ) → list_all (λ c. not (c == 10)) (c ∷ t) ≡ true
    → reading_from ended stage (c ∷ t) ≡ of_words ended stage (words_on (c ∷ t)) []
unfolding first_of others_of
last-words ended stage c t h =
    ap (reading_from ended stage) (sym (append-nil (c ∷ t))) ∙ front-words ended stage c t [] h
    ∙ ap (λ (l : List ℕ). of_words ended stage (words_on l) []) (append-nil (c ∷ t))

pub last-word : (ended : ℕ) (stage : Stage) (c d : ℕ) (t u w : List ℕ) → list_all (λ c. not (c == 10)) (c ∷ t) ≡ true
    → list_all (λ c. not (c == 10)) (d ∷ u) ≡ true → words_on (c ∷ t) ≡ w ∷ words_on (d ∷ u)
    → reading_from ended stage (c ∷ t) ≡ reading_from ended (next_stage stage (record { text = w; line = ended + 1 })) (d ∷ u)
last-word ended stage c d t u w h k e =
    last-words ended stage c t h
    ∙ ap (λ (ws : List (List ℕ)). of_words ended stage ws []) e
    ∙ of_words-next ended stage w (words_on (d ∷ u)) []
    ∙ sym (last-words ended (next_stage stage (record { text = w; line = ended + 1 })) d u k)

pub no-bytes : (ended : ℕ) (stage : Stage) → reading_from ended stage [] ≡ ends_at ended stage
unfolding reading_from
no-bytes ended stage = ap (λ (n : ℕ). ends_at n stage) (let e : ended + 0 ≡ ended = omega arith in e)

pub no-words : (ended : ℕ) (stage : Stage) (c : ℕ) → list_all (λ c. not (c == 10)) (c ∷ []) ≡ true → words_on (c ∷ []) ≡ []
    → reading_from ended stage (c ∷ []) ≡ ends_at (ended + 1) stage
no-words ended stage c h e =
    last-words ended stage c [] h ∙ ap (λ (ws : List (List ℕ)). of_words ended stage ws []) e ∙ of_words-none ended stage []
    ∙ sym (is_of_lines (ended + 1) stage []) ∙ no-bytes (ended + 1) stage

-- ---- the rest of a line

-- words on the line that is passed over change nothing
passes : (b : Body) (line : ℕ) (ws : List (List ℕ)) (rest : List Word)
    → stage_behind (at_face b (Some line)) (map (λ w. record { text = w; line = line }) ws ++ rest) ≡ stage_behind (at_face b (Some line)) rest
passes b line [] rest = refl
passes b line (w ∷ ws) rest =
    let t : (line == line) ≡ true = of_equal line line refl in
    ap (λ (x : Bool). stage_behind (if x then at_face b (Some line) else if is_whole b then stopped (extra_word line)
    else if is_size b.dimension w then at_index b [] else stopped (wrong_size line)) (map (λ w. record { text = w; line = line }) ws ++ rest)) t
    ∙ passes b line ws rest

-- where no word stands on that line, none is passed over
none_passed : (b : Body) (line n k : ℕ) (ls : List (List ℕ)) → line < n
    → ends_at k (stage_behind (at_face b (Some line)) (words_from n ls)) ≡ ends_at k (stage_behind (at_face b None) (words_from n ls))
none_passed b line n k [] h = refl
none_passed b line n k (l ∷ ls) h = go (words_on l) (none_passed b line (n + 1) k ls (omega (arith, h)))
  where
    go : (ws : List (List ℕ))
        → ends_at k (stage_behind (at_face b (Some line)) (words_from (n + 1) ls)) ≡ ends_at k (stage_behind (at_face b None) (words_from (n + 1) ls))
        → ends_at k (stage_behind (at_face b (Some line)) (map (λ w. record { text = w; line = n }) ws ++ words_from (n + 1) ls))
        ≡ ends_at k (stage_behind (at_face b None) (map (λ w. record { text = w; line = n }) ws ++ words_from (n + 1) ls))
    go [] later = later
    go (w ∷ ws) later =
        let t : (n == line) ≡ false = go_on (n == line) refl in
        ap (λ (x : Bool). ends_at k (stage_behind (if x then at_face b (Some line) else if is_whole b then stopped (extra_word n)
        else if is_size b.dimension w then at_index b [] else stopped (wrong_size n)) (map (λ w. record { text = w; line = n }) ws ++ words_from (n + 1) ls))) t
      where
        go_on : (x : Bool) → (n == line) ≡ x → (n == line) ≡ false
        go_on true e = let f = equal_of n line e in absurd (omega (arith, h, f))
        go_on false e = e

rest-passed : (ended : ℕ) (b : Body) (ws : List (List ℕ)) (ls : List (List ℕ))
    → of_words ended (at_face b (Some (ended + 1))) ws ls ≡ of_words ended (at_face b None) [] ls
unfolding of_words
rest-passed ended b ws ls =
    ap (ends_at (ended + suc (length ls))) (passes b (ended + 1) ws (words_from (ended + 1 + 1) ls))
    ∙ none_passed b (ended + 1) (ended + 1 + 1) (ended + suc (length ls)) ls (omega arith)

-- behind a byte of a line, the rest of it is passed over as though it were a comment
pub passed-line : (ended : ℕ) (b : Body) (c : ℕ) (bytes : List ℕ) → list_all (λ c. not (c == 10)) (c ∷ []) ≡ true
    → reading_from ended (at_face b (Some (ended + 1))) (c ∷ bytes) ≡ reading_from ended (at_face b None) (35 ∷ bytes)
passed-line ended b c bytes h =
    front-words ended (at_face b (Some (ended + 1))) c [] bytes h
    ∙ rest-passed ended b (words_on ((c ∷ []) ++ first_of (lines_of bytes))) (others_of (lines_of bytes))
    ∙ sym (front-words ended (at_face b None) 35 [] bytes refl)

-- a line that has ended is not passed over
pub passed-start : (ended : ℕ) (b : Body) (bytes : List ℕ)
    → reading_from ended (at_face b (Some (ended + 0))) bytes ≡ reading_from ended (at_face b None) bytes
unfolding reading_from
passed-start ended b bytes = none_passed b (ended + 0) (ended + 1) (ended + length (lines_of bytes)) (lines_of bytes) (omega arith)
