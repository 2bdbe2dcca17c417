-- Text that was put but for a page of it, piece by piece.
use Rattle.std.proofs.Common.{◌≡◌, ℕ, ◌+◌, ◌<◌, get_or, List, [], ◌++◌, length, take, drop, ◌∷◌, Option, Some, None, Result, Ok, Err, OnErr}
use Rattle.std.proofs.Common.{append_assoc, append-nil, arith, ap, sym, ◌∙◌, length-append, refl}
use Rattle.std.specs.Io.KnownBytes.{Appends}
use Rattle.std.proofs.lemmas.List.{take-append-le, take_at, take-append-drop, take_more, flat_map_more}
use Rattle.std.proofs.lemmas.List.Concat.{flat_map-append}
use Rattle.std.proofs.Math.Seq.{take-add}
use Rattle.std.specs.List.{flat_map}
use Rattle.iso_base.specs.Fronts.{AppendsFront}
use Rattle.off_write.specs.Pages.{AllButPage}

appends_nothing : (a : Option (List ℕ)) → Appends a a []
appends_nothing None = tt
appends_nothing (Some a) = sym (append-nil a)

appends_more : (a b c : Option (List ℕ)) (xs ys : List ℕ) → Appends a b xs → Appends b c ys → Appends a c (xs ++ ys)
appends_more None b c xs ys p q = tt
appends_more (Some a) None c xs ys p q = absurd p
appends_more (Some a) (Some b) None xs ys p q = absurd q
appends_more (Some a) (Some b) (Some c) xs ys p q = let e = append_assoc a xs ys in cc

-- nothing was put
pub waits_all : (a : Option (List ℕ)) (page : List ℕ) → AllButPage a a page page
unfolding AllButPage
waits_all a page = ([], appends_nothing a, refl)

-- all was put
pub waits_none : (a b : Option (List ℕ)) (text : List ℕ) → Appends a b text → AllButPage a b text []
unfolding AllButPage
waits_none a b text p = (text, p, append-nil text)

-- the page was put, and another waits
pub waits_on : (a b c : Option (List ℕ)) (text page next : List ℕ) → AllButPage a b text page → AllButPage b c page next → AllButPage a c text next
unfolding AllButPage
waits_on a b c text page next p q = (p.0 ++ q.0, appends_more a b c p.0 q.0 p.1 q.1, append_assoc p.0 q.0 next ∙ ap (λ xs. p.0 ++ xs) q.2 ∙ p.2)

-- the page grows with the text
pub waits_more : (a b : Option (List ℕ)) (text page piece : List ℕ) → AllButPage a b text page → AllButPage a b (text ++ piece) (page ++ piece)
unfolding AllButPage
waits_more a b text page piece p = (p.0, p.1, sym (append_assoc p.0 page piece) ∙ ap (λ xs. xs ++ piece) p.2)

-- once the page is put, all is
pub waits_put : (a b c : Option (List ℕ)) (text page : List ℕ) → AllButPage a b text page → Appends b c page → Appends a c text
unfolding AllButPage
waits_put a b c text page p q = let e = appends_more a b c p.0 page p.1 q in rw p.2 at e

drop_length : (put page : List ℕ) → drop (length put) (put ++ page) ≡ page
drop_length [] page = refl
drop_length (x ∷ put) page = drop_length put page

-- a front of a text is a front of what goes on
pub front_more : (a c : Option (List ℕ)) (text more : List ℕ) → AppendsFront a c text → AppendsFront a c (text ++ more)
front_more a c text more p = (p.0, omega (arith, p.1, length-append text more), rw (take-append-le p.0 text more p.1) p.2)

-- all of a piece and a front of the next
front_after : (a b c : Option (List ℕ)) (put page : List ℕ) → Appends a b put → AppendsFront b c page → AppendsFront a c (put ++ page)
front_after a b c put page p q =
    let e : take (length put + q.0) (put ++ page) ≡ put ++ take q.0 page =
    rw (take-add (length put) q.0 (put ++ page), take_at put page (length put) refl, drop_length put page) in
    (length put + q.0, omega (arith, q.1, length-append put page), rw e (appends_more a b c put (take q.0 page) p q.2))

-- a front of the page was put
pub waits_front : (a b c : Option (List ℕ)) (text page : List ℕ) → AllButPage a b text page → AppendsFront b c page → AppendsFront a c text
unfolding AllButPage
waits_front a b c text page p q = rw p.2 at (front_after a b c p.0 page p.1 q)

-- the lines of a list up to one place, and the rest
lines_split : {X : Type 0} (f : X → List ℕ) (head : List ℕ) (i : ℕ) (xs : List X)
    → (head ++ flat_map f (take i xs)) ++ flat_map f (drop i xs) ≡ head ++ flat_map f xs
lines_split f head i xs =
    append_assoc head (flat_map f (take i xs)) (flat_map f (drop i xs))
    ∙ ap (λ ys. head ++ ys) (sym (flat_map-append f (take i xs) (drop i xs)) ∙ ap (flat_map f) (take-append-drop i xs))

-- the page failed behind some lines
pub lines_front : {X : Type 0} (f : X → List ℕ) (a b c : Option (List ℕ)) (head page : List ℕ) (i : ℕ) (xs : List X)
    → AllButPage a b (head ++ flat_map f (take i xs)) page → AppendsFront b c page → AppendsFront a c (head ++ flat_map f xs)
lines_front f a b c head page i xs p q =
    rw (lines_split f head i xs) at
    (front_more a c (head ++ flat_map f (take i xs)) (flat_map f (drop i xs)) (waits_front a b c (head ++ flat_map f (take i xs)) page p q))

-- one line more
pub lines_more : {X : Type 0} (f : X → List ℕ) (a b c : Option (List ℕ)) (head page next : List ℕ) (i : ℕ) (xs : List X) (x : X) → i < length xs
    → x ≡ get_or xs i x
    → AllButPage a b (head ++ flat_map f (take i xs)) page → AllButPage b c page next → AllButPage a c (head ++ flat_map f (take (i + 1) xs)) (next ++ f x)
lines_more f a b c head page next i xs x h e p q =
    let all : take (i + 1) xs ≡ take i xs ++ x ∷ [] = take_more xs i x h ∙ ap (λ y. take i xs ++ y ∷ []) (sym e) in
    rw (all, ← flat_map_more f head (take i xs) x)
    (waits_more a c (head ++ flat_map f (take i xs)) next (f x) (waits_on a b c (head ++ flat_map f (take i xs)) page next p q))

-- what holds whatever the outcome
pub on_err : {T E Q : Type 0} (r : Result T E) → Q → OnErr r Q
on_err (Ok x) q = tt
on_err (Err e) q = q
