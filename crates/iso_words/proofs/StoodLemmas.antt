-- The values of a key in a list of words, as one more word comes.
use Rattle.std.proofs.Common.{◌≡◌, ℕ, true, false, not, ◌&&◌, List, [], ◌∷◌, ◌++◌, Option, Some, None, sym, ◌∙◌, ap, subst}
use Rattle.std.specs.Option.{is_some, MatchOption}
use Rattle.std.specs.List.{cons_option}
use Rattle.std.proofs.lemmas.Bool.{false≢true, true≢false}
use Rattle.std.proofs.lemmas.List.{append-nil}
use Rattle.std.proofs.lemmas.List.Elements.{filter_map-append}
use Rattle.iso_commands.specs.Commands.{value_for}
use Rattle.iso_words.specs.Given.{values_of, Stood}
use Rattle.iso_words.proofs.KindLemmas.{Keeps}

pub values_of-append : (key : List ℕ) (xs ys : List (List ℕ)) → values_of key (xs ++ ys) ≡ values_of key xs ++ values_of key ys
values_of-append key xs ys = filter_map-append (value_for key) xs ys

pub values_of-some : (key : List ℕ) (xs : List (List ℕ)) (word v : List ℕ) → value_for key word ≡ Some v
    → values_of key (xs ++ word ∷ []) ≡ values_of key xs ++ v ∷ []
values_of-some key xs word v e = values_of-append key xs (word ∷ []) ∙ ap (λ (o : Option (List ℕ)). values_of key xs ++ cons_option o []) e

pub values_of-none : (key : List ℕ) (xs : List (List ℕ)) (word : List ℕ) → value_for key word ≡ None → values_of key (xs ++ word ∷ []) ≡ values_of key xs ++ []
values_of-none key xs word e = values_of-append key xs (word ∷ []) ∙ ap (λ (o : Option (List ℕ)). values_of key xs ++ cons_option o []) e

-- the first word with the key
pub Stood-first : {V : Type 0} (P : List ℕ → V → Type 0) (v : V) (key : List ℕ) (xs : List (List ℕ)) (word text : List ℕ)
    → value_for key word ≡ Some text → P text v → Stood P None (values_of key xs) → Stood P (Some v) (values_of key (xs ++ word ∷ []))
Stood-first P v key xs word text e p h = (text, values_of-some key xs word text e ∙ ap (λ (vs : List (List ℕ)). vs ++ text ∷ []) h, p)

goes_on : (key : List ℕ) (xs : List (List ℕ)) (word text : List ℕ) (more : List (List ℕ)) → value_for key word ≡ Some text
    → values_of key ((xs ++ word ∷ []) ++ more) ≡ (values_of key xs ++ text ∷ []) ++ values_of key more
goes_on key xs word text more e =
    values_of-append key (xs ++ word ∷ []) more ∙ ap (λ (vs : List (List ℕ)). vs ++ values_of key more) (values_of-some key xs word text e)

two_values : (a b x : List ℕ) (vs : List (List ℕ)) → a ∷ b ∷ vs ≡ x ∷ [] → ⊥
two_values a b x vs e = cc

first_value : (a x : List ℕ) (vs : List (List ℕ)) → a ∷ vs ≡ x ∷ [] → a ≡ x
first_value a x vs e = cc

kept : (key : List ℕ) (xs ys zs : List (List ℕ)) (t u : List ℕ) → values_of key xs ≡ t ∷ [] → values_of key ((xs ++ ys) ++ zs) ≡ u ∷ [] → t ≡ u
kept key xs ys zs t u e f = first_value t u _ (sym (values_of-append key (xs ++ ys) zs
    ∙ ap (λ (vs : List (List ℕ)). vs ++ values_of key zs) (values_of-append key xs ys ∙ ap (λ (vs : List (List ℕ)). vs ++ values_of key ys) e)) ∙ f)

-- the value that stood stays, whatever words come
pub Stood-same : {V : Type 0} (P : List ℕ → V → Type 0) → ((t : List ℕ) (v w : V) → P t v → P t w → v ≡ w) → (key : List ℕ) (xs ys zs : List (List ℕ)) (v w : V)
    → Stood P (Some v) (values_of key xs) → Stood P (Some w) (values_of key ((xs ++ ys) ++ zs)) → v ≡ w
Stood-same P one key xs ys zs v w (t, e, p) (u, f, q) = one u v w (subst (λ (s : List ℕ). P s v) (kept key xs ys zs t u e f) p) q

after : (key : List ℕ) (xs ys zs : List (List ℕ)) (t : List ℕ) → values_of key xs ≡ t ∷ []
    → values_of key ((xs ++ ys) ++ zs) ≡ t ∷ (values_of key ys ++ values_of key zs)
after key xs ys zs t e =
    values_of-append key (xs ++ ys) zs
    ∙ ap (λ (vs : List (List ℕ)). vs ++ values_of key zs) (values_of-append key xs ys ∙ ap (λ (vs : List (List ℕ)). vs ++ values_of key ys) e)

none_left : {t : List ℕ} {vs : List (List ℕ)} → t ∷ vs ≡ [] → ⊥
none_left e = cc

-- a word with a key that stood, or with no value of the key, begins no list in which the key stands once with such a value
pub never_stands : {V : Type 0} (P : List ℕ → V → Type 0) (old new : Option V) (key : List ℕ) (xs : List (List ℕ)) (word text : List ℕ)
    → value_for key word ≡ Some text → Stood P old (values_of key xs) → (not (is_some old) && is_some new) ≡ false
    → MatchOption new ((v : V) → ¬ P text v) (P text)
    → (more : List (List ℕ)) (v : V) → Stood P (Some v) (values_of key ((xs ++ word ∷ []) ++ more)) → ⊥
never_stands P (Some o) new key xs word text e stood t read more v (x, only, p) =
    two_values _ _ x _ (sym (goes_on key xs word text more e ∙ ap (λ (vs : List (List ℕ)). (vs ++ text ∷ []) ++ values_of key more) stood.1) ∙ only)
never_stands P None (Some n) key xs word text e stood t read more v s = true≢false t
never_stands P None None key xs word text e stood t read more v (x, only, p) =
    let same : text ≡ x =
    first_value text x _
    (sym (goes_on key xs word text more e ∙ ap (λ (vs : List (List ℕ)). (vs ++ text ∷ []) ++ values_of key more) stood) ∙ only) in
    read v (subst (λ (u : List ℕ). P u v) (sym same) p)

-- the value of the first word with the key stands
pub first_stands : {V : Type 0} (P : List ℕ → V → Type 0) (old new : Option V) (key : List ℕ) (xs : List (List ℕ)) (word text : List ℕ)
    → value_for key word ≡ Some text → Stood P old (values_of key xs) → (not (is_some old) && is_some new) ≡ true
    → MatchOption new ((v : V) → ¬ P text v) (P text) → Stood P new (values_of key (xs ++ word ∷ []))
first_stands P (Some o) new key xs word text e stood t read = absurd (false≢true t)
first_stands P None None key xs word text e stood t read = absurd (false≢true t)
first_stands P None (Some v) key xs word text e stood t read = Stood-first P v key xs word text e read stood

-- ---- a value that goes with those of other keys

Stood-beside : {V : Type 0} (P : List ℕ → V → Type 0) (Goes : Option V → Type 0) (o : Option V) (values : List (List ℕ)) → Stood P o values → Goes o
    → Stood (λ text v. P text v × Goes (Some v)) o values
Stood-beside P Goes None values s g = s
Stood-beside P Goes (Some v) values s g = (s.0, s.1, (s.2, g))

-- the value of the first word with the key stands, and goes with them
pub first_beside : {V : Type 0} (P : List ℕ → V → Type 0) (Goes : Option V → Type 0) (old new : Option V) (key : List ℕ) (xs : List (List ℕ)) (word text : List ℕ)
    → value_for key word ≡ Some text → Stood P old (values_of key xs) → (not (is_some old) && is_some new) ≡ true
    → MatchOption new ((v : V) → ¬ (P text v × Goes (Some v))) (λ v. P text v × Goes (Some v)) → Stood P new (values_of key (xs ++ word ∷ [])) × Goes new
first_beside P Goes (Some o) new key xs word text e stood t read = absurd (false≢true t)
first_beside P Goes None None key xs word text e stood t read = absurd (false≢true t)
first_beside P Goes None (Some v) key xs word text e stood t read = (Stood-first P v key xs word text e read.0 stood, read.1)

-- and a word with a key that stood, or with no such value, begins no list in which the key stands once with one
pub never_beside : {V : Type 0} (P : List ℕ → V → Type 0) (Goes : Option V → Type 0) (old new : Option V) (key : List ℕ) (xs : List (List ℕ)) (word text : List ℕ)
    → value_for key word ≡ Some text → Stood P old (values_of key xs) → Goes old → (not (is_some old) && is_some new) ≡ false
    → MatchOption new ((v : V) → ¬ (P text v × Goes (Some v))) (λ v. P text v × Goes (Some v))
    → (more : List (List ℕ)) (v : V) → Stood P (Some v) (values_of key ((xs ++ word ∷ []) ++ more)) → Goes (Some v) → ⊥
never_beside P Goes old new key xs word text e stood goes t read more v s g =
    never_stands (λ text v. P text v × Goes (Some v)) old new key xs word text e (Stood-beside P Goes old (values_of key xs) stood goes) t read more v
    (Stood-beside P Goes (Some v) (values_of key ((xs ++ word ∷ []) ++ more)) s g)

-- what stood stays, whatever words come, where the key stands at most once at the end
pub Stood-keeps : {V : Type 0} (P : List ℕ → V → Type 0) → ((t : List ℕ) (v w : V) → P t v → P t w → v ≡ w) → (key : List ℕ) (xs ys zs : List (List ℕ))
    (old last : Option V) → Stood P old (values_of key xs) → Stood P last (values_of key ((xs ++ ys) ++ zs)) → Keeps old last
Stood-keeps P one key xs ys zs None last s t = tt
Stood-keeps P one key xs ys zs (Some v) (Some w) s t = ap Some (sym (Stood-same P one key xs ys zs v w s t))
Stood-keeps P one key xs ys zs (Some v) None s t = absurd (none_left (sym (after key xs ys zs s.0 s.1) ∙ t))
