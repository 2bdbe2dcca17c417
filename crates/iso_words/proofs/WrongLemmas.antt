-- The first wrong word.
use Rattle.std.proofs.Common.{◌≡◌, ◌≢◌, ℕ, ◌+◌, ◌-◌, ◌<◌, ◌≤◌, Bool, true, false, cond, List, [], ◌∷◌, ◌++◌, length, take, drop, get_or, suc}
use Rattle.std.proofs.Common.{take_all, ◌⊎◌, refl, sym, ◌∙◌, ap, subst, arith, inl, inr}
use Rattle.std.specs.Prelude.{ℤ, pos, codes, IsTrue}
use Rattle.std.specs.Option.{is_some}
use Rattle.std.specs.String.{string_bytes}
use Rattle.std.specs.declared.string.String.{String}
use Rattle.std.proofs.lemmas.Bool.{cases_order}
use Rattle.std.proofs.lemmas.List.{take_more, take-append-drop, take-take, append_assoc, length-map, get_or-map}
use Rattle.iso_commands.specs.Commands.{Command as Asked, kind_name, Gives}
use Rattle.iso_commands.specs.Commands.{GivesNumber, Say, AreRight, BeginRight, IsWrongWord}
use Rattle.iso_words.specs.declared.Command.{Command}
use Rattle.iso_words.specs.declared.Command.TheVariants.{Generate as generate, Check as check, Extract as extract, Demo as demo}
use Rattle.iso_words.specs.declared.Command.TheVariants.{Convert as convert, Audit as audit, Spectrum as spectrum}
use Rattle.iso_words.specs.declared.keys.CommandName.{CommandName}
use Rattle.iso_words.specs.declared.keys.CommandName.TheVariants.{Generate, Check, Extract, Demo, Convert, Audit, Spectrum}
use Rattle.iso_words.specs.declared.given.Given.{Given}
use Rattle.iso_words.specs.Built.{is_built, texts, asked}
use Rattle.iso_words.specs.Keys.{name_text}
use Rattle.iso_words.specs.Given.{Gave, given_count}
use Rattle.iso_words.proofs.KindLemmas.{kind_name-one, pos-one}
use Rattle.iso_words.proofs.RightLemmas.{Values, with_values, built_values, begins_named, begins-one}
use Rattle.iso_words.proofs.TakenLemmas.{nothing, Gave-nothing}
use Rattle.iso_words.proofs.BeginLemmas.{BeginRight-given}
use Rattle.lists.proofs.MemberLaws.{same_head}

-- ---- words say at most one command

one_value : (words : List (List ℕ)) (key v w : List ℕ) → Gives words key v → Gives words key w → v ≡ w
one_value words key v w e f = let same = sym e ∙ f in cc

one_number : (words : List (List ℕ)) (key : List ℕ) (m n : ℤ) → GivesNumber words key m → GivesNumber words key n → m ≡ n
one_number words key m n (v, e, p) (w, f, q) =
    let same = one_value words key v w e f in cc

-- with one name they say one list of values
one_values : (name : CommandName) (words : List (List ℕ)) (v w : Values name) → Say words (with_values name v) → Say words (with_values name w) → v ≡ w
one_values Generate words (kind, d) (kind', d') s t =
    let same_kind = kind_name-one kind kind' (one_value words (codes "kind") (kind_name kind) (kind_name kind') s.kind_is t.kind_is) in
    let same_dim = pos-one d d' (one_number words (codes "dim") (pos d) (pos d') s.dim_is t.dim_is) in
    cc
one_values Check words table table' s t = one_value words (codes "table") table table' s.table_is.0 t.table_is.0
one_values Extract words (table, grid, iso) (table', grid', iso') s t =
    let same_table = one_value words (codes "table") table table' s.table_is.0 t.table_is.0 in
    let same_grid = one_value words (codes "grid") grid grid' s.grid_is.0 t.grid_is.0 in
    let same_iso = one_number words (codes "iso") iso iso' s.iso_is t.iso_is in
    cc
one_values Demo words (kind, d, size, seed) (kind', d', size', seed') s t =
    let same_kind = kind_name-one kind kind' (one_value words (codes "kind") (kind_name kind) (kind_name kind') s.kind_is t.kind_is) in
    let same_dim = pos-one d d' (one_number words (codes "dim") (pos d) (pos d') s.dim_is t.dim_is) in
    let same_size = pos-one size size' (one_number words (codes "size") (pos size) (pos size') s.size_is t.size_is) in
    let same_seed = pos-one seed seed' (one_number words (codes "seed") (pos seed) (pos seed') s.seed_is t.seed_is) in
    cc
one_values Convert words table table' s t = one_value words (codes "table") table table' s.table_is.0 t.table_is.0
one_values Audit words mesh mesh' s t = one_value words (codes "mesh") mesh mesh' s.mesh_is.0 t.mesh_is.0
one_values Spectrum words (kind, grid, from, to) (kind', grid', from', to') s t =
    let same_kind = kind_name-one kind kind' (one_value words (codes "kind") (kind_name kind) (kind_name kind') s.kind_is t.kind_is) in
    let same_grid = one_value words (codes "grid") grid grid' s.grid_is.0 t.grid_is.0 in
    let same_from = one_number words (codes "from") from from' s.from_is t.from_is in
    let same_to = one_number words (codes "to") to to' s.to_is t.to_is in
    cc

pub Say-one : (words : List (List ℕ)) (c d : Asked) → IsTrue (is_built c) → IsTrue (is_built d) → Say words c → Say words d → c ≡ d
Say-one words c d b e s t =
    let m = built_values c b in
    let n = built_values d e in
    let said : Say words (with_values m.0 m.1) = subst (λ (c : Asked). Say words c) m.2 s in
    let too : Say words (with_values n.0 n.1) = subst (λ (c : Asked). Say words c) n.2 t in
    let begun = begins_named m.0 m.1 words said in
    let same =
    subst (λ (k : CommandName). (v : Values k) → Say words (with_values k v) → with_values m.0 m.1 ≡ with_values k v)
    (begins-one m.0 n.0 n.1 words begun.0 begun.1 too) (λ v t. ap (with_values m.0) (one_values m.0 words m.1 v said t)) n.1 too in
    m.2 ∙ same ∙ sym n.2

-- ---- the first wrong word

begin_nothing : BeginRight is_built []
begin_nothing =
    let begun = BeginRight-given Check [] nothing (Gave-nothing Check) in
    (codes "check" ∷ begun.0, begun.1)

named : (words : List (List ℕ)) (c : Asked) → IsTrue (is_built c) → Say words c → (name : CommandName) × (further : List (List ℕ)) × (words ≡ name_text name ∷ further)
named words c b s =
    let built = built_values c b in
    let begun = begins_named built.0 built.1 words (subst (λ (c : Asked). Say words c) built.2 s) in
    (built.0, begun.0, begun.1)

none_right : (c : Asked) → IsTrue (is_built c) → Say [] c → ⊥
none_right c b s = let e = (named [] c b s).2 in cc

wrong_none : IsWrongWord is_built [] 1
wrong_none = record { counted = omega arith; before = begin_nothing; wrong = inr (refl, λ r. none_right r.0 r.1 r.2) }

-- where the first word is no command
pub wrong_first : (word : List ℕ) (rest : List (List ℕ)) → ((name : CommandName) → word ≢ name_text name) → IsWrongWord is_built (word ∷ rest) 1
wrong_first word rest none = record {
  counted = omega arith;
  before = begin_nothing;
  wrong = inl (omega arith, λ b. let n = named (word ∷ b.0) b.1.0 b.1.1 b.1.2 in none n.0 (same_head _ _ _ _ n.2));
}

-- where no right list goes on with a further word
pub wrong_further : (name : CommandName) (further : List (List ℕ)) (i : ℕ) (given : Given) → i < length further → Gave name (take i further) given
    → (BeginRight is_built (name_text name ∷ take (i + 1) further) → ⊥) → IsWrongWord is_built (name_text name ∷ further) (i + 2)
wrong_further name further i given in' gave never =
    let words = name_text name ∷ further in
    let e : suc i ≡ i + 2 - 1 = omega arith in
    let f : suc (i + 1) ≡ i + 2 = omega arith in
    record {
      counted = omega arith;
      before = subst (λ (k : ℕ). BeginRight is_built (take k words)) e (BeginRight-given name (take i further) given gave);
      wrong = inl (omega arith, λ b. never (subst (λ (k : ℕ). BeginRight is_built (take k words)) (sym f) b));
    }

wrong_end : (name : CommandName) (further : List (List ℕ)) (given : Given) → Gave name further given
    → (AreRight is_built (name_text name ∷ further) → ⊥) → IsWrongWord is_built (name_text name ∷ further) (length further + 2)
wrong_end name further given gave never =
    let words = name_text name ∷ further in
    let e : words ≡ take (length further + 2 - 1) words = sym (take_all (length further + 2 - 1) words (omega arith)) in
    record {
      counted = omega arith;
      before = subst (λ (ws : List (List ℕ)). BeginRight is_built ws) e (BeginRight-given name further given gave);
      wrong = inr (omega arith, never);
    }

-- words with a wrong word say no command
pub never_said : (words : List (List ℕ)) (n : ℕ) → IsWrongWord is_built words n → (c : Asked) → IsTrue (is_built c) → Say words c → ⊥
never_said words n w c b s = go w.wrong
  where
    go : ((n ≤ length words) × ¬ BeginRight is_built (take n words)) ⊎ ((n ≡ length words + 1) × ¬ AreRight is_built words) → ⊥
    go (inl early) = early.1 (drop n words, (c, b, subst (λ (ws : List (List ℕ)). Say ws c) (sym (take-append-drop n words)) s))
    go (inr late) = late.1 (c, b, s)

begin_shorter : (words : List (List ℕ)) (m n : ℕ) → m ≤ n → BeginRight is_built (take n words) → BeginRight is_built (take m words)
begin_shorter words m n shorter b =
    let front = take m words in
    let rest = drop m (take n words) in
    let e : take m (take n words) ≡ front = take-take m n words shorter in
    let all : front ++ rest ≡ take n words = ap (λ (ws : List (List ℕ)). ws ++ rest) (sym e) ∙ take-append-drop m (take n words) in
    (rest ++ b.0, subst (λ (ws : List (List ℕ)). AreRight is_built ws) (ap (λ (ws : List (List ℕ)). ws ++ b.0) (sym all) ∙ append_assoc front rest b.0) b.1)

not_later : (words : List (List ℕ)) (m n : ℕ) → IsWrongWord is_built words m → IsWrongWord is_built words n → m < n → ⊥
not_later words m n w v less = go w.wrong v.wrong
  where
    go : ((m ≤ length words) × ¬ BeginRight is_built (take m words)) ⊎ ((m ≡ length words + 1) × ¬ AreRight is_built words)
        → ((n ≤ length words) × ¬ BeginRight is_built (take n words)) ⊎ ((n ≡ length words + 1) × ¬ AreRight is_built words) → ⊥
    go (inl early) _ = early.1 (begin_shorter words m (n - 1) (omega arith) v.before)
    go (inr late) (inl early) = absurd (omega (arith, late.0, early.0))
    go (inr late) (inr end) = absurd (omega (arith, late.0, end.0))

-- there is one first wrong word
pub IsWrongWord-one : (words : List (List ℕ)) (m n : ℕ) → IsWrongWord is_built words m → IsWrongWord is_built words n → m ≡ n
IsWrongWord-one words m n w v = go (cases_order m n)
  where
    go : (m ≡ n) ⊎ ((m < n) ⊎ (n < m)) → m ≡ n
    go (inl same) = same
    go (inr (inl less)) = absurd (not_later words m n w v less)
    go (inr (inr more)) = absurd (not_later words n m v w more)

-- ---- the words as bytes

pub texts-first : {A : Type 0} (words further : List (String A)) (first : String A) (name : CommandName) → words ≡ first ∷ further
    → string_bytes first ≡ name_text name → texts words ≡ name_text name ∷ texts further
texts-first words further first name e f = ap texts e ∙ ap (λ (t : List ℕ). t ∷ texts further) f

pub length-texts : {A : Type 0} (words : List (String A)) → length (texts words) ≡ length words
length-texts words = length-map words string_bytes

pub texts-more : {A : Type 0} (words : List (String A)) (i : ℕ) (word : String A) → i < length words → word ≡ get_or words i word
    → take i (texts words) ++ string_bytes word ∷ [] ≡ take (i + 1) (texts words)
texts-more words i word in' e =
    let all : i < length (texts words) = omega (arith, length-texts words) in
    let here = ap string_bytes e ∙ sym (get_or-map string_bytes words i word (string_bytes word) in') in
    ap (λ (t : List ℕ). take i (texts words) ++ t ∷ []) here ∙ sym (take_more (texts words) i (string_bytes word) all)

pub texts-end : {A : Type 0} (words : List (String A)) (i : ℕ) → length words ≤ i → take i (texts words) ≡ texts words
texts-end words i past = take_all i (texts words) (omega (arith, length-texts words))

-- where there are no words
pub wrong_empty : {A : Type 0} (words : List (String A)) → length words ≡ 0 → IsWrongWord is_built (texts words) 1
wrong_empty [] e = wrong_none
wrong_empty (word ∷ words) e = absurd (omega arith)

-- where a key is missing
pub wrong_early : {A : Type 0} (name : CommandName) (further : List (String A)) (given : Given) → Gave name (texts further) given
    → (AreRight is_built (name_text name ∷ texts further) → ⊥) → IsWrongWord is_built (name_text name ∷ texts further) (length further + 2)
wrong_early name further given gave never =
    subst (λ (n : ℕ). IsWrongWord is_built (name_text name ∷ texts further) (n + 2)) (length-texts further) (wrong_end name (texts further) given gave never)

-- the code's commands are built
pub asked_built : (command : Command) → IsTrue (is_built (asked command))
asked_built (generate kind dim) = refl
asked_built (check table) = refl
asked_built (extract table grid iso) = refl
asked_built (demo kind dim size seed) = refl
asked_built (convert table) = refl
asked_built (audit mesh) = refl
asked_built (spectrum kind grid from to) = refl

-- ---- how many values were given

at_most_one : (b : Bool) → cond b 1 0 ≤ 1
at_most_one true = omega arith
at_most_one false = omega arith

pub few_given : (given : Given) → given_count given ≤ 100
few_given given =
    omega (
      arith,
      at_most_one (is_some given.kind),
      at_most_one (is_some given.dim),
      at_most_one (is_some given.size),
      at_most_one (is_some given.seed),
      at_most_one (is_some given.table),
      at_most_one (is_some given.grid),
      at_most_one (is_some given.iso),
      at_most_one (is_some given.mesh),
      at_most_one (is_some given.from),
      at_most_one (is_some given.to),
    )
