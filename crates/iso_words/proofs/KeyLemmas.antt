-- What a word gives for a key, and that it has a key of a command.
use Rattle.std.proofs.Common.{◌≡◌, ℕ, Bool, true, false, cond, ◌&&◌, ◌||◌, List, [], ◌∷◌, map, Option, Some, None, refl, sym, ◌∙◌, ap}
use Rattle.std.specs.List.{AllByRecursion, list_any, before_first, after_first}
use Rattle.std.specs.Prelude.{nat_eq}
use Rattle.std.proofs.lemmas.Bool.{and_parts}
use Rattle.std.proofs.lemmas.Slice.Eq.{bytes_eq-Decides}
use Rattle.lists.specs.Orders.{has, same_list}
use Rattle.iso_commands.specs.Commands.{value_for, has_key_of}
use Rattle.iso_words.specs.declared.keys.Key.{Key}
use Rattle.iso_words.specs.declared.keys.Key.TheVariants.{Kind, Dim, Size, Seed, Table, Grid, Iso, Mesh, From, To}
use Rattle.iso_words.specs.declared.keys.CommandName.{CommandName}
use Rattle.iso_words.specs.declared.keys.CommandName.TheVariants.{Generate, Check, Extract, Demo, Convert, Audit, Spectrum}
use Rattle.iso_words.specs.Keys.{key_text, name_text, own_keys, keys_of, has_key}

some_test : {A : Type 0} (t : Bool) (x v : A) → cond t (Some x) None ≡ Some v → t ≡ true
some_test true x v e = refl
some_test false x v e = cc

none_test : {A : Type 0} (t : Bool) (x : A) → cond t (Some x) None ≡ None → t ≡ false
none_test true x e = cc
none_test false x e = refl

-- a word that gives a value for a key has an = and this key before it
pub value_for-some : (key word v : List ℕ) → value_for key word ≡ Some v → (has word 61 ≡ true) × (before_first (nat_eq 61) word ≡ key)
value_for-some key word v e =
    let p = and_parts (has word 61) (same_list (before_first (nat_eq 61) word) key) (some_test _ _ _ e) in
    (p.0, (bytes_eq-Decides (before_first (nat_eq 61) word) key).0 p.1)

-- it gives none for another key
pub value_for-other : (key other word v : List ℕ) → value_for key word ≡ Some v → same_list key other ≡ false → value_for other word ≡ None
value_for-other key other word v e apart =
    let p = value_for-some key word v e in
    let apart' : same_list (before_first (nat_eq 61) word) other ≡ false = ap (λ (b : List ℕ). same_list b other) p.1 ∙ apart in
    let t : (has word 61 && same_list (before_first (nat_eq 61) word) other) ≡ false =
    ap (λ (b : Bool). has word 61 && b) apart' ∙ (elim (has word 61) as (λ (b : Bool). (b && false) ≡ false) [ true ↦ refl | false ↦ refl ]) in
    ap (λ (b : Bool). cond b (Some (after_first (nat_eq 61) word)) None) t

-- it has a key of a list just where its key is one of them
pub has_key_of-some : (keys : List (List ℕ)) (key word v : List ℕ) → value_for key word ≡ Some v → has_key_of keys word ≡ list_any (same_list key) keys
has_key_of-some keys key word v e =
    let p = value_for-some key word v e in
    ap (λ (b : List ℕ). has word 61 && list_any (same_list b) keys) p.1 ∙ ap (λ (t : Bool). t && list_any (same_list key) keys) p.0

pub has_key_of-key : (name : CommandName) (key : Key) (word v : List ℕ) → value_for (key_text key) word ≡ Some v
    → has_key_of (keys_of name) word ≡ has_key name key
has_key_of-key name key word v e = has_key_of-some (keys_of name) (key_text key) word v e

and_or : (a b c : Bool) → (a && b) ≡ false → (a && c) ≡ false → (a && (b || c)) ≡ false
and_or false b c e f = refl
and_or true true c e f = e
and_or true false c e f = f

-- a word that gives no value for any key of a list has none of them
pub has_key_of-none : (keys : List (List ℕ)) (word : List ℕ) → AllByRecursion (λ key. value_for key word ≡ None) keys → has_key_of keys word ≡ false
has_key_of-none [] word none = elim (has word 61) as (λ (b : Bool). (b && false) ≡ false) [ true ↦ refl | false ↦ refl ]
has_key_of-none (key ∷ keys) word none =
    let b = before_first (nat_eq 61) word in
    and_or (has word 61) (same_list b key) (list_any (same_list b) keys) (none_test _ _ none.0) (has_key_of-none keys word none.1)

pub has_key_of-no_key : (name : CommandName) (word : List ℕ) → ((key : Key) → value_for (key_text key) word ≡ None) → has_key_of (keys_of name) word ≡ false
has_key_of-no_key name word none = has_key_of-none (keys_of name) word (all (own_keys name))
  where
    all : (keys : List Key) → AllByRecursion (λ key. value_for key word ≡ None) (map key_text keys)
    all [] = tt
    all (key ∷ keys) = (none key, all keys)

-- ---- keys and commands are told by their words

-- the first of a list that has this word
abbrev with_word : {A : Type 0} → (A → List ℕ) → List ℕ → List A → Option A
with_word word_of word [] = None
with_word word_of word (x ∷ xs) = cond (same_list word (word_of x)) (Some x) (with_word word_of word xs)

one_word : {A : Type 0} (word_of : A → List ℕ) (all : List A) → ((x : A) → with_word word_of (word_of x) all ≡ Some x)
    → (x y : A) → word_of x ≡ word_of y → x ≡ y
one_word word_of all found x y e = same_some (sym (found x) ∙ ap (λ (w : List ℕ). with_word word_of w all) e ∙ found y)
  where
    same_some : Some x ≡ Some y → x ≡ y
    same_some e = cc

abbrev pub every_key : List Key
every_key =
    Kind
    ∷ Dim
    ∷ Size
    ∷ Seed
    ∷ Table
    ∷ Grid
    ∷ Iso
    ∷ Mesh
    ∷ From
    ∷ To
    ∷ []

key_found : (key : Key) → with_word key_text (key_text key) every_key ≡ Some key
key_found Kind = refl
key_found Dim = refl
key_found Size = refl
key_found Seed = refl
key_found Table = refl
key_found Grid = refl
key_found Iso = refl
key_found Mesh = refl
key_found From = refl
key_found To = refl

pub key_text-one : (k l : Key) → key_text k ≡ key_text l → k ≡ l
key_text-one = one_word key_text every_key key_found

abbrev every_name : List CommandName
every_name =
    Generate
    ∷ Check
    ∷ Extract
    ∷ Demo
    ∷ Convert
    ∷ Audit
    ∷ Spectrum
    ∷ []

name_found : (name : CommandName) → with_word name_text (name_text name) every_name ≡ Some name
name_found Generate = refl
name_found Check = refl
name_found Extract = refl
name_found Demo = refl
name_found Convert = refl
name_found Audit = refl
name_found Spectrum = refl

pub name_text-one : (m n : CommandName) → name_text m ≡ name_text n → m ≡ n
name_text-one = one_word name_text every_name name_found
