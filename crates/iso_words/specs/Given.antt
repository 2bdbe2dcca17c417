-- What the words of a command gave so far.
use Rattle.std.specs.Prelude.{◌≡◌, ◌≢◌, ⊤, ℕ, ◌≤◌, ℤ, pos, neg_ℤ, ◌≤ℤ◌, List, [], ◌∷◌, filter_map, Option, Some, None, IfSome, ◌+◌, if◌then◌else◌, is_some}
use Rattle.std.specs.Prelude.{Bool, ◌++◌, not, ◌&&◌, ◌||◌, ◌==◌, length, slice_index, IsTrue}
use Rattle.std.specs.List.{AllPass, list_any}
use Rattle.std.specs.Option.{option_copied}
use Rattle.std.specs.Str.{all_ascii_digits}
use Rattle.iso_model.specs.declared.Kind.{Kind as CellKind}
use Rattle.iso_model.specs.declared.Kind.TheVariants.{Cube, Simplex, Pyramid}
use Rattle.iso_model.specs.Cells.{HasDimension}
use Rattle.iso_commands.specs.Commands.{BeginRight, Say, value_for, has_key_of, kind_name, IsNumber, IsRange, iso_limit, size_limit}
use Rattle.iso_words.specs.Built.{asked, is_built}
use Rattle.iso_words.specs.declared.Command.{Command}
use Rattle.iso_words.specs.declared.Command.TheVariants.{Generate as generate, Check as check, Extract as extract, Demo as demo}
use Rattle.iso_words.specs.declared.Command.TheVariants.{Convert as convert, Audit as audit, Spectrum as spectrum}
use Rattle.iso_words.specs.declared.keys.CommandName.TheVariants.{Generate, Check, Extract, Demo, Convert, Audit, Spectrum}
use Rattle.iso_words.specs.Keys.{key_text, own_keys, keys_of, name_text}
use Rattle.iso_words.specs.declared.keys.Key.{Key}
use Rattle.iso_words.specs.declared.keys.Key.TheVariants.{Kind, Dim, Size, Seed, Table, Grid, Iso, Mesh, From, To}
use Rattle.iso_words.specs.declared.keys.CommandName.{CommandName}
use Rattle.iso_words.specs.declared.given.Given.{Given}

-- these are digits, at least one, without a leading zero but 0 itself
abbrev pub are_digits_alone : List ℕ → Bool
are_digits_alone digits =
    not (length digits == 0) && all_ascii_digits digits && (length digits == 1 || not (slice_index digits 0 == 48))

-- the text names the kind
abbrev pub IsKind : List ℕ → CellKind → Type 0
IsKind text kind = text ≡ kind_name kind

-- the text of a dimension, which some kind has
abbrev pub IsDimension : List ℕ → ℕ → Type 0
IsDimension text d = IsNumber text (pos d) × (2 ≤ d) × (d ≤ 4)

-- the text of a size that some grid of the demonstration has, as those of two dimensions
abbrev pub IsSize : List ℕ → ℕ → Type 0
IsSize text n = IsNumber text (pos n) × (1 ≤ n) × (n ≤ 256)

-- the text of a seed
abbrev pub IsSeed : List ℕ → ℕ → Type 0
IsSeed text n = IsNumber text (pos n) × (n ≤ 4294967295)

-- the kind has the dimension, where both were given
abbrev pub HasGiven : Option CellKind → Option ℕ → Type 0
HasGiven None dim = ⊤
HasGiven (Some kind) None = ⊤
HasGiven (Some kind) (Some d) = HasDimension kind d

-- the dimension of the grids with the greatest sizes, among those of a kind, where it was given: two but for pyramids, which have three
abbrev pub widest_of : Option CellKind → ℕ
widest_of None = 2
widest_of (Some Cube) = 2
widest_of (Some Simplex) = 2
widest_of (Some Pyramid) = 3

-- the dimension of the grids with the greatest sizes, among those that go with a kind and a dimension, as far as they were given
abbrev pub widest : Option CellKind → Option ℕ → ℕ
widest kind (Some d) = d
widest kind None = widest_of kind

-- a kind, a dimension and a size go together, as far as they were given: some kind has them, and some grid of it
abbrev pub Fit : Option CellKind → Option ℕ → Option ℕ → Type 0
Fit kind dim size = HasGiven kind dim × IfSome size (λ n. n ≤ size_limit (widest kind dim))

-- the text names a kind that goes with the dimension and the size
abbrev pub IsKindBeside : Option ℕ → Option ℕ → List ℕ → CellKind → Type 0
IsKindBeside dim size text kind = IsKind text kind × Fit (Some kind) dim size

-- the text of a dimension that goes with the kind and the size
abbrev pub IsDimensionBeside : Option CellKind → Option ℕ → List ℕ → ℕ → Type 0
IsDimensionBeside kind size text d = IsDimension text d × Fit kind (Some d) size

-- the text of a size that goes with the kind and the dimension
abbrev pub IsSizeBeside : Option CellKind → Option ℕ → List ℕ → ℕ → Type 0
IsSizeBeside kind dim text n = IsSize text n × Fit kind dim (Some n)

-- a file name has at least one character
abbrev pub IsFile : List ℕ → List ℕ → Type 0
IsFile text name = (text ≡ name) × (name ≢ [])

-- the text of an isovalue within its limits
abbrev pub IsIsovalue : List ℕ → ℤ → Type 0
IsIsovalue text n = IsNumber text n × (neg_ℤ (pos iso_limit) ≤ℤ n) × (n ≤ℤ pos iso_limit)

-- two isovalues are the ends of a range, where both were given
abbrev pub InOrder : Option ℤ → Option ℤ → Type 0
InOrder None to = ⊤
InOrder (Some from) None = ⊤
InOrder (Some from) (Some to) = IsRange from to

-- the text of an isovalue that goes with the last one of a range
abbrev pub IsFirstBeside : Option ℤ → List ℕ → ℤ → Type 0
IsFirstBeside to text n = IsIsovalue text n × InOrder (Some n) to

-- the text of an isovalue that goes with the first one of a range
abbrev pub IsLastBeside : Option ℤ → List ℕ → ℤ → Type 0
IsLastBeside from text n = IsIsovalue text n × InOrder from (Some n)

-- the values of a key in words behind the first
abbrev pub values_of : List ℕ → List (List ℕ) → List (List ℕ)
values_of key further = filter_map (value_for key) further

-- a key did not stand yet, or it stood once, with a text of this value
abbrev pub Stood : {V : Type 0} → (List ℕ → V → Type 0) → Option V → List (List ℕ) → Type 0
Stood P None values = values ≡ []
Stood P (Some v) values = (text : List ℕ) × (values ≡ text ∷ []) × P text v

-- a key did not stand yet, or it stood once, with a text of the value that was given
abbrev pub StoodAt : Key → Given → List (List ℕ) → Type 0
StoodAt Kind given values = Stood IsKind given.kind values
StoodAt Dim given values = Stood IsDimension given.dim values
StoodAt Size given values = Stood IsSize given.size values
StoodAt Seed given values = Stood IsSeed given.seed values
StoodAt Table given values = Stood IsFile (option_copied given.table) values
StoodAt Grid given values = Stood IsFile (option_copied given.grid) values
StoodAt Iso given values = Stood IsIsovalue given.iso values
StoodAt Mesh given values = Stood IsFile (option_copied given.mesh) values
StoodAt From given values = Stood IsIsovalue given.from values
StoodAt To given values = Stood IsIsovalue given.to values

-- the words behind the command's name have keys of the command, none twice, and give these values, which go together
pub record Gave (name : CommandName) (further : List (List ℕ)) (given : Given) : Type 0 where
  pub keyed : AllPass (has_key_of (keys_of name)) further
  pub stood : (key : Key) → StoodAt key given (values_of (key_text key) further)
  pub fits : Fit given.kind given.dim given.size
  pub ordered : InOrder given.from given.to

-- this holds of each list of words behind the command's name that gives these values
abbrev pub EachGiving : CommandName → Given → (List (List ℕ) → Type 0) → Type 0
EachGiving name given P = (further : List (List ℕ)) → Gave name further given → P further

-- this holds of each such list with one more word at its end
abbrev pub EachLonger : CommandName → Given → List ℕ → (List (List ℕ) → Type 0) → Type 0
EachLonger name given word P = EachGiving name given (λ further. P (further ++ word ∷ []))

-- the name of a command
abbrev pub name_of : Command → CommandName
name_of (generate kind dim) = Generate
name_of (check table) = Check
name_of (extract table grid iso) = Extract
name_of (demo kind dim size seed) = Demo
name_of (convert table) = Convert
name_of (audit mesh) = Audit
name_of (spectrum kind grid from to) = Spectrum

-- the values of a command were given
abbrev pub WereGiven : Given → Command → Type 0
WereGiven given (generate kind dim) = (given.kind ≡ Some kind) × (given.dim ≡ Some dim)
WereGiven given (check table) = given.table ≡ Some table
WereGiven given (extract table grid iso) = (given.table ≡ Some table) × (given.grid ≡ Some grid) × (given.iso ≡ Some iso)
WereGiven given (demo kind dim size seed) = (given.kind ≡ Some kind) × (given.dim ≡ Some dim) × (given.size ≡ Some size) × (given.seed ≡ Some seed)
WereGiven given (convert table) = given.table ≡ Some table
WereGiven given (audit mesh) = given.mesh ≡ Some mesh
WereGiven given (spectrum kind grid from to) = (given.kind ≡ Some kind) × (given.grid ≡ Some grid) × (given.from ≡ Some from) × (given.to ≡ Some to)

-- the command of this name, with the values that were given
abbrev pub IsWhole : CommandName → Given → Command → Type 0
IsWhole name given command = (name ≡ name_of command) × WereGiven given command

-- the command's name and these words say the command
abbrev pub SayNamed : CommandName → List (List ℕ) → Command → Type 0
SayNamed name further command = Say (name_text name ∷ further) (asked command)

-- no right list begins with the command's name and these words
abbrev pub BeginsNone : CommandName → List (List ℕ) → Type 0
BeginsNone name further = ¬ BeginRight is_built (name_text name ∷ further)

-- a value of the key was given
abbrev pub is_given : Key → Given → Bool
is_given Kind given = is_some given.kind
is_given Dim given = is_some given.dim
is_given Size given = is_some given.size
is_given Seed given = is_some given.seed
is_given Table given = is_some given.table
is_given Grid given = is_some given.grid
is_given Iso given = is_some given.iso
is_given Mesh given = is_some given.mesh
is_given From given = is_some given.from
is_given To given = is_some given.to

-- a key of the command is missing
abbrev pub Lacks : CommandName → Given → Type 0
Lacks name given = IsTrue (list_any (λ key. not (is_given key given)) (own_keys name))

-- how many values were given
abbrev pub given_count : Given → ℕ
given_count given =
    (if is_some given.kind then 1 else 0)
    + (if is_some given.dim then 1 else 0)
    + (if is_some given.size then 1 else 0)
    + (if is_some given.seed then 1 else 0)
    + (if is_some given.table then 1 else 0)
    + (if is_some given.grid then 1 else 0)
    + (if is_some given.iso then 1 else 0)
    + (if is_some given.mesh then 1 else 0)
    + (if is_some given.from then 1 else 0)
    + (if is_some given.to then 1 else 0)
