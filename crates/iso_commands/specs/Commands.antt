-- The words of the program: the right lists of words, what they ask for, and the first wrong word.
use Rattle.std.specs.Prelude.{◌≡◌, ◌≢◌, ◌⊎◌, ℕ, ◌+◌, ◌-◌, ◌^◌, ◌≤◌, ℤ, pos, neg_ℤ, ◌≤ℤ◌, ◌-ℤ◌, unsigned_abs, Bool, true, not, ◌&&◌, ◌||◌, ◌==◌, nat_eq, List, [], ◌∷◌}
use Rattle.std.specs.Prelude.{◌++◌, filter_map, length, take, drop, slice_index, Option, Some, None, IsTrue, codes, if◌then◌else◌}
use Rattle.std.specs.List.{AllPass, list_any, before_first, after_first}
use Rattle.std.specs.Str.{all_ascii_digits}
use Rattle.std.specs.Str.Parse.{starts_with_minus, signed_digits_value}
use Rattle.iso_model.specs.declared.Kind.{Kind}
use Rattle.iso_model.specs.declared.Kind.TheVariants.{Cube, Simplex, Pyramid}
use Rattle.lists.specs.Orders.{has, same_list}
use Rattle.iso_model.specs.Cells.{HasDimension}

-- ---- numbers

-- a number is an optional - and digits, without a leading zero but 0 itself, and not -0
abbrev pub is_number : List ℕ → Bool
is_number text =
    let digits = if starts_with_minus text then drop 1 text else text in
    not (length digits == 0) && all_ascii_digits digits && (length digits == 1 || not (slice_index digits 0 == 48)) && not (same_list text (codes "-0"))

-- a text spells the number
abbrev pub IsNumber : List ℕ → ℤ → Type 0
IsNumber text n = IsTrue (is_number text) × (signed_digits_value 10 text ≡ n)

-- ---- keys and values

-- the value that a word gives to the key: where what stands before the first = is the key, what stands behind it
abbrev pub value_for : List ℕ → List ℕ → Option (List ℕ)
value_for key word = if has word 61 && same_list (before_first (nat_eq 61) word) key then Some (after_first (nat_eq 61) word) else None

-- the values that the words behind the first one give to the key, in order
abbrev pub values_for : List ℕ → List (List ℕ) → List (List ℕ)
values_for key words = filter_map (value_for key) (drop 1 words)

-- the words give the key exactly once, with this value
abbrev pub Gives : List (List ℕ) → List ℕ → List ℕ → Type 0
Gives words key value = values_for key words ≡ value ∷ []

-- the words give the key exactly once, with this number
abbrev pub GivesNumber : List (List ℕ) → List ℕ → ℤ → Type 0
GivesNumber words key n = (text : List ℕ) × Gives words key text × IsNumber text n

-- the words give the key exactly once, with a file name, which has at least one character
abbrev pub GivesFile : List (List ℕ) → List ℕ → List ℕ → Type 0
GivesFile words key name = Gives words key name × (name ≢ [])

-- a word is a key of the list, =, and a value
abbrev pub has_key_of : List (List ℕ) → List ℕ → Bool
has_key_of keys word = has word 61 && list_any (same_list (before_first (nat_eq 61) word)) keys

-- the words are for the command: the first is its name, and every further one has one of its keys
pub record AreFor (words : List (List ℕ)) (name : List ℕ) (keys : List (List ℕ)) : Type 0 where
  pub named : (further : List (List ℕ)) × (words ≡ name ∷ further)
  pub keyed : AllPass (has_key_of keys) (drop 1 words)

-- ---- commands

-- what the words ask for
pub data Command : Type 0 where
  generate_command : Kind → ℕ → Command
  check_command : List ℕ → Command
  extract_command : List ℕ → List ℕ → ℤ → Command
  demo_command : Kind → ℕ → ℕ → ℕ → Command
  convert_command : List ℕ → Command
  audit_command : List ℕ → Command
  spectrum_command : Kind → List ℕ → ℤ → ℤ → Command

-- the word of a kind
abbrev pub kind_name : Kind → List ℕ
kind_name Cube = codes "cube"
kind_name Simplex = codes "simplex"
kind_name Pyramid = codes "pyramid"

-- the greatest size of a demonstration's grid
abbrev pub size_limit : ℕ → ℕ
size_limit d = if d == 2 then 256 else if d == 3 then 64 else 16

-- isovalues lie from -2^40 to 2^40
abbrev pub iso_limit : ℕ
iso_limit = 2 ^ 40

-- a range of isovalues, from one up to another that is not below it: there are at most 65,536
abbrev pub IsRange : ℤ → ℤ → Type 0
IsRange from to = (from ≤ℤ to) × (unsigned_abs (to -ℤ from) + 1 ≤ 65536)

-- each key of a command stands exactly once, in any order

-- the words of generate
pub record SayGenerate (words : List (List ℕ)) (kind : Kind) (d : ℕ) : Type 0 where
  pub are_for : AreFor words (codes "generate") (codes "kind" ∷ codes "dim" ∷ [])
  pub kind_is : Gives words (codes "kind") (kind_name kind)
  pub dim_is : GivesNumber words (codes "dim") (pos d)
  pub fits : HasDimension kind d

-- the words of check
pub record SayCheck (words : List (List ℕ)) (table : List ℕ) : Type 0 where
  pub are_for : AreFor words (codes "check") (codes "table" ∷ [])
  pub table_is : GivesFile words (codes "table") table

-- the words of extract
pub record SayExtract (words : List (List ℕ)) (table grid : List ℕ) (iso : ℤ) : Type 0 where
  pub are_for : AreFor words (codes "extract") (codes "table" ∷ codes "grid" ∷ codes "iso" ∷ [])
  pub table_is : GivesFile words (codes "table") table
  pub grid_is : GivesFile words (codes "grid") grid
  pub iso_is : GivesNumber words (codes "iso") iso
  pub iso_from : neg_ℤ (pos iso_limit) ≤ℤ iso
  pub iso_to : iso ≤ℤ pos iso_limit

-- the words of demo
pub record SayDemo (words : List (List ℕ)) (kind : Kind) (d size seed : ℕ) : Type 0 where
  pub are_for : AreFor words (codes "demo") (codes "kind" ∷ codes "dim" ∷ codes "size" ∷ codes "seed" ∷ [])
  pub kind_is : Gives words (codes "kind") (kind_name kind)
  pub dim_is : GivesNumber words (codes "dim") (pos d)
  pub fits : HasDimension kind d
  pub size_is : GivesNumber words (codes "size") (pos size)
  pub size_from : 1 ≤ size
  pub size_to : size ≤ size_limit d
  pub seed_is : GivesNumber words (codes "seed") (pos seed)
  pub seed_to : seed ≤ 4294967295

-- the words of convert
pub record SayConvert (words : List (List ℕ)) (table : List ℕ) : Type 0 where
  pub are_for : AreFor words (codes "convert") (codes "table" ∷ [])
  pub table_is : GivesFile words (codes "table") table

-- the words of audit
pub record SayAudit (words : List (List ℕ)) (mesh : List ℕ) : Type 0 where
  pub are_for : AreFor words (codes "audit") (codes "mesh" ∷ [])
  pub mesh_is : GivesFile words (codes "mesh") mesh

-- the words of spectrum
pub record SaySpectrum (words : List (List ℕ)) (kind : Kind) (grid : List ℕ) (from to : ℤ) : Type 0 where
  pub are_for : AreFor words (codes "spectrum") (codes "kind" ∷ codes "grid" ∷ codes "from" ∷ codes "to" ∷ [])
  pub kind_is : Gives words (codes "kind") (kind_name kind)
  pub grid_is : GivesFile words (codes "grid") grid
  pub from_is : GivesNumber words (codes "from") from
  pub from_low : neg_ℤ (pos iso_limit) ≤ℤ from
  pub from_high : from ≤ℤ pos iso_limit
  pub to_is : GivesNumber words (codes "to") to
  pub to_low : neg_ℤ (pos iso_limit) ≤ℤ to
  pub to_high : to ≤ℤ pos iso_limit
  pub range : IsRange from to

-- the words say the command
abbrev pub Say : List (List ℕ) → Command → Type 0
Say words (generate_command kind d) = SayGenerate words kind d
Say words (check_command table) = SayCheck words table
Say words (extract_command table grid iso) = SayExtract words table grid iso
Say words (demo_command kind d size seed) = SayDemo words kind d size seed
Say words (convert_command table) = SayConvert words table
Say words (audit_command mesh) = SayAudit words mesh
Say words (spectrum_command kind grid from to) = SaySpectrum words kind grid from to

-- ---- right lists, for a program that has some of the commands

-- a program that has every command
abbrev pub each_command : Command → Bool
each_command c = true

-- the words are a right list: they say a command that the program has
abbrev pub AreRight : (Command → Bool) → List (List ℕ) → Type 0
AreRight is_built words = (c : Command) × IsTrue (is_built c) × Say words c

-- some right list begins with these words
abbrev pub BeginRight : (Command → Bool) → List (List ℕ) → Type 0
BeginRight is_built words = (more : List (List ℕ)) × AreRight is_built (words ++ more)

-- the first word, counted from 1, such that no right list begins with the words up to it; where the list ends too early, its length plus 1
pub record IsWrongWord (is_built : Command → Bool) (words : List (List ℕ)) (n : ℕ) : Type 0 where
  pub counted : 1 ≤ n
  pub before : BeginRight is_built (take (n - 1) words)
  pub wrong : ((n ≤ length words) × ¬ BeginRight is_built (take n words)) ⊎ ((n ≡ length words + 1) × ¬ AreRight is_built words)
