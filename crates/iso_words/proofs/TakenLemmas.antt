-- What the words gave, at the start and after one more word: one key's value is new, and those of the other keys stay.
use Rattle.std.proofs.Common.{◌≡◌, ◌≢◌, ℕ, Bool, true, false, List, [], ◌∷◌, ◌++◌, get_or, None, refl, sym, ◌∙◌, ap, subst}
use Rattle.std.specs.Bool.{⊤}
use Rattle.std.proofs.Math.ListN.{set}
use Rattle.std.proofs.lemmas.Bool.{true≢false}
use Rattle.std.proofs.lemmas.List.{append-nil, get_or-set_other}
use Rattle.std.proofs.lemmas.List.Elements.{All-nil, All-push}
use Rattle.std.proofs.lemmas.Slice.Eq.{bytes_eq-Decides}
use Rattle.lists.specs.Orders.{same_list}
use Rattle.lists.proofs.MemberLaws.{lists_equal}
use Rattle.iso_commands.specs.Commands.{has_key_of}
use Rattle.iso_words.specs.declared.keys.Key.{Key}
use Rattle.iso_words.specs.declared.keys.Key.TheVariants.{Kind, Dim, Size, Seed, Table, Grid, Iso, Mesh, From, To}
use Rattle.iso_words.specs.declared.keys.CommandName.{CommandName}
use Rattle.iso_words.specs.declared.given.Given.{Given}
use Rattle.iso_words.specs.Keys.{key_text, keys_of, has_key, HasValue}
use Rattle.iso_words.specs.Given.{values_of, StoodAt, Fit, InOrder, Gave}
use Rattle.iso_words.proofs.KeyLemmas.{every_key, key_text-one, value_for-other, has_key_of-key}
use Rattle.iso_words.proofs.StoodLemmas.{values_of-none}

abbrev pub nothing : Given
nothing = record {
  kind = None;
  dim = None;
  size = None;
  seed = None;
  table = None;
  grid = None;
  iso = None;
  mesh = None;
  from = None;
  to = None;
}

nothing_stood : (key : Key) → StoodAt key nothing []
nothing_stood Kind = refl
nothing_stood Dim = refl
nothing_stood Size = refl
nothing_stood Seed = refl
nothing_stood Table = refl
nothing_stood Grid = refl
nothing_stood Iso = refl
nothing_stood Mesh = refl
nothing_stood From = refl
nothing_stood To = refl

pub Gave-nothing : (name : CommandName) → Gave name [] nothing
Gave-nothing name = record { keyed = All-nil (λ w. has_key_of (keys_of name) w ≡ true); stood = nothing_stood; fits = (tt, tt); ordered = tt }

-- ---- what stands at each key, as a list

abbrev index : Key → ℕ
index Kind = 0
index Dim = 1
index Size = 2
index Seed = 3
index Table = 4
index Grid = 5
index Iso = 6
index Mesh = 7
index From = 8
index To = 9

abbrev pub stood_list : Given → List (List (List ℕ) → Type 0)
stood_list given =
    StoodAt Kind given
    ∷ StoodAt Dim given
    ∷ StoodAt Size given
    ∷ StoodAt Seed given
    ∷ StoodAt Table given
    ∷ StoodAt Grid given
    ∷ StoodAt Iso given
    ∷ StoodAt Mesh given
    ∷ StoodAt From given
    ∷ StoodAt To given
    ∷ []

key_at : (key : Key) → get_or every_key (index key) Kind ≡ key
key_at Kind = refl
key_at Dim = refl
key_at Size = refl
key_at Seed = refl
key_at Table = refl
key_at Grid = refl
key_at Iso = refl
key_at Mesh = refl
key_at From = refl
key_at To = refl

stood_at : (key : Key) (given : Given) → get_or (stood_list given) (index key) (λ values. ⊤) ≡ StoodAt key given
stood_at Kind given = refl
stood_at Dim given = refl
stood_at Size given = refl
stood_at Seed given = refl
stood_at Table given = refl
stood_at Grid given = refl
stood_at Iso given = refl
stood_at Mesh given = refl
stood_at From given = refl
stood_at To given = refl

-- the value of this key alone is new
abbrev pub Changes : Key → Given → Given → Type 1
Changes key old new = stood_list new ≡ set (stood_list old) (index key) (StoodAt key new)

index_apart : (k l : Key) → same_list (key_text k) (key_text l) ≡ false → index l ≢ index k
index_apart k l apart e =
    let same : k ≡ l = sym (key_at k) ∙ ap (λ (i : ℕ). get_or every_key i Kind) (sym e) ∙ key_at l in
    true≢false (sym ((bytes_eq-Decides (key_text k) (key_text l)).1 (ap key_text same)) ∙ apart)

others_stay : (key other : Key) (old new : Given) → Changes key old new → same_list (key_text key) (key_text other) ≡ false
    → StoodAt other old ≡ StoodAt other new
others_stay key other old new changes apart =
    let none : List (List ℕ) → Type 0 = λ values. ⊤ in
    let kept = get_or-set_other (stood_list old) (index key) (index other) (StoodAt key new) none (index_apart key other apart) in
    sym (stood_at other old) ∙ sym kept ∙ ap (λ (l : List (List (List ℕ) → Type 0)). get_or l (index other) none) (sym changes) ∙ stood_at other new

stood_after : (key : Key) (old new : Given) (further : List (List ℕ)) (word text : List ℕ) → HasValue word key text → Changes key old new
    → StoodAt key new (values_of (key_text key) (further ++ word ∷ [])) → ((k : Key) → StoodAt k old (values_of (key_text k) further))
    → (k : Key) → StoodAt k new (values_of (key_text k) (further ++ word ∷ []))
stood_after key old new further word text e changes here stood k = go (same_list (key_text key) (key_text k)) refl
  where
    go : (same : Bool) → same_list (key_text key) (key_text k) ≡ same → StoodAt k new (values_of (key_text k) (further ++ word ∷ []))
    go true same =
        subst (λ (k : Key). StoodAt k new (values_of (key_text k) (further ++ word ∷ []))) (key_text-one key k (lists_equal (key_text key) (key_text k) same)) here
    go false apart =
        let none = values_of-none (key_text k) further word (value_for-other (key_text key) (key_text k) word text e apart) in
        let stands = subst (λ (values : List (List ℕ)). StoodAt k old values) (sym (none ∙ append-nil (values_of (key_text k) further))) (stood k) in
        subst (λ (Stands : List (List ℕ) → Type 0). Stands (values_of (key_text k) (further ++ word ∷ []))) (others_stay key k old new changes apart) stands

-- a word with a key of the command that changes the value of this key alone
pub Gave-taken : (name : CommandName) (key : Key) (old new : Given) (further : List (List ℕ)) (word text : List ℕ) → has_key name key ≡ true
    → HasValue word key text → Changes key old new → StoodAt key new (values_of (key_text key) (further ++ word ∷ [])) → Fit new.kind new.dim new.size
    → InOrder new.from new.to → Gave name further old → Gave name (further ++ word ∷ []) new
Gave-taken name key old new further word text has e changes here fits ordered g = record {
  keyed = All-push (λ w. has_key_of (keys_of name) w ≡ true) further word g.keyed (has_key_of-key name key word text e ∙ has);
  stood = stood_after key old new further word text e changes here g.stood;
  fits = fits;
  ordered = ordered;
}
