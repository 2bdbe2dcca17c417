-- The keys and the commands, by their words.
use Rattle.std.specs.Prelude.{◌≡◌, ℕ, Bool, List, [], ◌∷◌, map, Option, Some, None, MatchOption, codes}
use Rattle.std.specs.List.{list_any}
use Rattle.lists.specs.Orders.{same_list}
use Rattle.iso_commands.specs.Commands.{value_for}
use Rattle.iso_words.specs.declared.keys.Key.{Key}
use Rattle.iso_words.specs.declared.keys.Key.TheVariants.{Kind, Dim, Size, Seed, Table, Grid, Iso, Mesh, From, To}
use Rattle.iso_words.specs.declared.keys.CommandName.{CommandName}
use Rattle.iso_words.specs.declared.keys.CommandName.TheVariants.{Generate, Check, Extract, Demo, Convert, Audit, Spectrum}

-- this holds of the answer, and where there is none, of nothing
abbrev pub Finds : {V : Type 0} → (V → Type 0) → Option V → Type 0
Finds {V = V} P result = MatchOption result ((v : V) → ¬ P v) P

-- the word of a key
abbrev pub key_text : Key → List ℕ
key_text Kind = codes "kind"
key_text Dim = codes "dim"
key_text Size = codes "size"
key_text Seed = codes "seed"
key_text Table = codes "table"
key_text Grid = codes "grid"
key_text Iso = codes "iso"
key_text Mesh = codes "mesh"
key_text From = codes "from"
key_text To = codes "to"

-- the word of a command
abbrev pub name_text : CommandName → List ℕ
name_text Generate = codes "generate"
name_text Check = codes "check"
name_text Extract = codes "extract"
name_text Demo = codes "demo"
name_text Convert = codes "convert"
name_text Audit = codes "audit"
name_text Spectrum = codes "spectrum"

-- a command's keys
abbrev pub own_keys : CommandName → List Key
own_keys Generate = Kind ∷ Dim ∷ []
own_keys Check = Table ∷ []
own_keys Extract = Table ∷ Grid ∷ Iso ∷ []
own_keys Demo = Kind ∷ Dim ∷ Size ∷ Seed ∷ []
own_keys Convert = Table ∷ []
own_keys Audit = Mesh ∷ []
own_keys Spectrum = Kind ∷ Grid ∷ From ∷ To ∷ []

-- the words of a command's keys
abbrev pub keys_of : CommandName → List (List ℕ)
keys_of name = map key_text (own_keys name)

-- a command has a key
abbrev pub has_key : CommandName → Key → Bool
has_key name key = list_any (same_list (key_text key)) (keys_of name)

-- a word is no key, =, and a value
abbrev pub HasNoKey : List ℕ → Type 0
HasNoKey word = (key : Key) → value_for (key_text key) word ≡ None

-- a word is the key, =, and the value
abbrev pub HasValue : List ℕ → Key → List ℕ → Type 0
HasValue word key value = value_for (key_text key) word ≡ Some value
