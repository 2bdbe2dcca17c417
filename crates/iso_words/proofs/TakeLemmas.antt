-- One more word, by the key that it has: its value stands, or no right list goes on with it.
use Rattle.std.proofs.Common.{◌≡◌, ℕ, Bool, true, false, not, ◌&&◌, List, [], ◌∷◌, ◌++◌, Option, Some, None, refl, sym, ◌∙◌, ap, subst, Bor}
use Rattle.std.specs.Prelude.{ℤ, codes}
use Rattle.std.specs.Option.{is_some, option_copied, MatchOption}
use Rattle.iso_model.specs.declared.Kind.{Kind as CellKind}
use Rattle.iso_commands.specs.Commands.{value_for, BeginRight}
use Rattle.iso_words.specs.declared.keys.Key.{Key}
use Rattle.iso_words.specs.declared.keys.Key.TheVariants.{Kind, Dim, Size, Seed, Iso, From, To}
use Rattle.iso_words.specs.declared.keys.CommandName.{CommandName}
use Rattle.iso_words.specs.Built.{is_built}
use Rattle.iso_words.specs.Keys.{key_text, name_text, has_key}
use Rattle.iso_words.specs.Given.{IsKind, IsDimension, IsSize, IsSeed, IsFile, IsIsovalue, IsKindBeside, IsDimensionBeside, IsSizeBeside}
use Rattle.iso_words.specs.Given.{Fit, InOrder, IsFirstBeside, IsLastBeside, values_of, Stood}
use Rattle.iso_words.proofs.StoodLemmas.{never_stands, first_stands, never_beside, Stood-keeps}
use Rattle.iso_words.proofs.KindLemmas.{IsKind-one, IsDimension-one, IsSize-one, IsIsovalue-one, Fit-before, InOrder-first, InOrder-last}
use Rattle.iso_words.proofs.RightLemmas.{StandsOnce, not_begin-never}

-- ---- file names

pub copied : (o : Option (Bor (List ℕ))) → is_some (option_copied o) ≡ is_some o
copied None = refl
copied (Some x) = refl

both_copied : (o p : Option (Bor (List ℕ))) → (not (is_some (option_copied o)) && is_some (option_copied p)) ≡ (not (is_some o) && is_some p)
both_copied o p = ap (λ (b : Bool). not b && is_some (option_copied p)) (copied o) ∙ ap (λ (b : Bool). not (is_some o) && b) (copied p)

file_read : (text : List ℕ) (o : Option (Bor (List ℕ))) → MatchOption o (text ≡ []) (λ name. IsFile text name.now)
    → MatchOption (option_copied o) ((name : List ℕ) → ¬ IsFile text name) (IsFile text)
file_read text None empty = λ name f. f.1 (sym f.0 ∙ empty)
file_read text (Some x) f = f

-- a file name, where none stood
pub first_file : (key : List ℕ) (further : List (List ℕ)) (word text : List ℕ) (old new : Option (Bor (List ℕ)))
    → value_for key word ≡ Some text → Stood IsFile (option_copied old) (values_of key further)
    → MatchOption new (text ≡ []) (λ name. IsFile text name.now) → (not (is_some old) && is_some new) ≡ true
    → Stood IsFile (option_copied new) (values_of key (further ++ word ∷ []))
first_file key further word text old new e stood read t =
    first_stands IsFile (option_copied old) (option_copied new) key further word text e stood (both_copied old new ∙ t) (file_read text new read)

-- and where one stood, or the name is empty
pub never_file : (name : CommandName) (key : Key)
    → ((further : List (List ℕ)) → StandsOnce key further → (file : List ℕ) × Stood IsFile (Some file) (values_of (key_text key) further))
    → (further : List (List ℕ)) (word text : List ℕ) (old new : Option (Bor (List ℕ)))
    → has_key name key ≡ true → value_for (key_text key) word ≡ Some text → Stood IsFile (option_copied old) (values_of (key_text key) further)
    → MatchOption new (text ≡ []) (λ file. IsFile text file.now) → (not (is_some old) && is_some new) ≡ false
    → BeginRight is_built (name_text name ∷ (further ++ word ∷ [])) → ⊥
never_file name key is_file further word text old new has e stood read t =
    not_begin-never name key (further ++ word ∷ []) has (λ more s. let p = is_file ((further ++ word ∷ []) ++ more) s in
    never_stands IsFile (option_copied old) (option_copied new) (key_text key) further word text e stood (both_copied old new ∙ t)
    (file_read text new read) more p.0 p.1)

-- ---- isovalues

-- an isovalue, where one stood, or the text is none within the limits
pub never_isovalue : (name : CommandName) (further : List (List ℕ)) (word text : List ℕ) (old new : Option ℤ)
    → has_key name Iso ≡ true → value_for (codes "iso") word ≡ Some text → Stood IsIsovalue old (values_of (codes "iso") further)
    → MatchOption new ((n : ℤ) → ¬ IsIsovalue text n) (IsIsovalue text) → (not (is_some old) && is_some new) ≡ false
    → BeginRight is_built (name_text name ∷ (further ++ word ∷ [])) → ⊥
never_isovalue name further word text old new has e stood read t =
    not_begin-never name Iso (further ++ word ∷ []) has (λ more s. never_stands IsIsovalue old new (codes "iso") further word text e stood t read more s.0 s.1)

-- ---- seeds

-- a seed, where one stood, or the text is none
pub never_seed : (name : CommandName) (further : List (List ℕ)) (word text : List ℕ) (old new : Option ℕ)
    → has_key name Seed ≡ true → value_for (codes "seed") word ≡ Some text → Stood IsSeed old (values_of (codes "seed") further)
    → MatchOption new ((n : ℕ) → ¬ IsSeed text n) (IsSeed text) → (not (is_some old) && is_some new) ≡ false
    → BeginRight is_built (name_text name ∷ (further ++ word ∷ [])) → ⊥
never_seed name further word text old new has e stood read t =
    not_begin-never name Seed (further ++ word ∷ []) has (λ more s. never_stands IsSeed old new (codes "seed") further word text e stood t read more s.0 s.1)

-- ---- kinds, dimensions and sizes

-- a kind, where one stood, or the text names none that goes with the dimension and the size
pub never_kind : (name : CommandName) (further : List (List ℕ)) (word text : List ℕ) (old new : Option CellKind) (dim size : Option ℕ)
    → has_key name Kind ≡ true → value_for (codes "kind") word ≡ Some text → Stood IsKind old (values_of (codes "kind") further)
    → Stood IsDimension dim (values_of (codes "dim") further) → Stood IsSize size (values_of (codes "size") further) → Fit old dim size
    → MatchOption new ((k : CellKind) → ¬ IsKindBeside dim size text k) (IsKindBeside dim size text) → (not (is_some old) && is_some new) ≡ false
    → BeginRight is_built (name_text name ∷ (further ++ word ∷ [])) → ⊥
never_kind name further word text old new dim size has e stood dims sizes fits read t =
    not_begin-never name Kind (further ++ word ∷ []) has (λ more (k, d, last, s).
    never_beside IsKind (λ o. Fit o dim size) old new (codes "kind") further word text e stood fits t read more k s.kinds
    (Fit-before (Some k) dim size k d last refl (Stood-keeps IsDimension IsDimension-one (codes "dim") further (word ∷ []) more dim d dims s.dims)
    (Stood-keeps IsSize IsSize-one (codes "size") further (word ∷ []) more size last sizes s.sizes) s.fits))

-- a dimension, where one stood, or the text is none that goes with the kind and the size
pub never_dimension : (name : CommandName) (further : List (List ℕ)) (word text : List ℕ) (old new : Option ℕ) (kind : Option CellKind) (size : Option ℕ)
    → has_key name Dim ≡ true → value_for (codes "dim") word ≡ Some text → Stood IsDimension old (values_of (codes "dim") further)
    → Stood IsKind kind (values_of (codes "kind") further) → Stood IsSize size (values_of (codes "size") further) → Fit kind old size
    → MatchOption new ((d : ℕ) → ¬ IsDimensionBeside kind size text d) (IsDimensionBeside kind size text) → (not (is_some old) && is_some new) ≡ false
    → BeginRight is_built (name_text name ∷ (further ++ word ∷ [])) → ⊥
never_dimension name further word text old new kind size has e stood kinds sizes fits read t =
    not_begin-never name Dim (further ++ word ∷ []) has (λ more (k, d, last, s).
    never_beside IsDimension (λ o. Fit kind o size) old new (codes "dim") further word text e stood fits t read more d s.dims
    (Fit-before kind (Some d) size k (Some d) last (Stood-keeps IsKind IsKind-one (codes "kind") further (word ∷ []) more kind (Some k) kinds s.kinds) refl
    (Stood-keeps IsSize IsSize-one (codes "size") further (word ∷ []) more size last sizes s.sizes) s.fits))

-- a size, where one stood, or the text is none that goes with the kind and the dimension
pub never_size : (name : CommandName) (further : List (List ℕ)) (word text : List ℕ) (old new : Option ℕ) (kind : Option CellKind) (dim : Option ℕ)
    → has_key name Size ≡ true → value_for (codes "size") word ≡ Some text → Stood IsSize old (values_of (codes "size") further)
    → Stood IsKind kind (values_of (codes "kind") further) → Stood IsDimension dim (values_of (codes "dim") further) → Fit kind dim old
    → MatchOption new ((n : ℕ) → ¬ IsSizeBeside kind dim text n) (IsSizeBeside kind dim text) → (not (is_some old) && is_some new) ≡ false
    → BeginRight is_built (name_text name ∷ (further ++ word ∷ [])) → ⊥
never_size name further word text old new kind dim has e stood kinds dims fits read t =
    not_begin-never name Size (further ++ word ∷ []) has (λ more (k, d, n, s).
    never_beside IsSize (λ o. Fit kind dim o) old new (codes "size") further word text e stood fits t read more n s.sizes
    (Fit-before kind dim (Some n) k d (Some n) (Stood-keeps IsKind IsKind-one (codes "kind") further (word ∷ []) more kind (Some k) kinds s.kinds)
    (Stood-keeps IsDimension IsDimension-one (codes "dim") further (word ∷ []) more dim d dims s.dims) refl s.fits))

-- ---- ranges

-- a first isovalue, where one stood, or the text is none that goes with the last one
pub never_first : (name : CommandName) (further : List (List ℕ)) (word text : List ℕ) (old new to : Option ℤ)
    → has_key name From ≡ true → value_for (codes "from") word ≡ Some text → Stood IsIsovalue old (values_of (codes "from") further)
    → Stood IsIsovalue to (values_of (codes "to") further) → InOrder old to
    → MatchOption new ((n : ℤ) → ¬ IsFirstBeside to text n) (IsFirstBeside to text) → (not (is_some old) && is_some new) ≡ false
    → BeginRight is_built (name_text name ∷ (further ++ word ∷ [])) → ⊥
never_first name further word text old new to has e stood tos ordered read t =
    not_begin-never name From (further ++ word ∷ []) has (λ more (m, n, s).
    never_beside IsIsovalue (λ o. InOrder o to) old new (codes "from") further word text e stood ordered t read more m s.froms
    (InOrder-first m to n (Stood-keeps IsIsovalue IsIsovalue-one (codes "to") further (word ∷ []) more to (Some n) tos s.tos) s.range))

-- a last isovalue, where one stood, or the text is none that goes with the first one
pub never_last : (name : CommandName) (further : List (List ℕ)) (word text : List ℕ) (old new from : Option ℤ)
    → has_key name To ≡ true → value_for (codes "to") word ≡ Some text → Stood IsIsovalue old (values_of (codes "to") further)
    → Stood IsIsovalue from (values_of (codes "from") further) → InOrder from old
    → MatchOption new ((n : ℤ) → ¬ IsLastBeside from text n) (IsLastBeside from text) → (not (is_some old) && is_some new) ≡ false
    → BeginRight is_built (name_text name ∷ (further ++ word ∷ [])) → ⊥
never_last name further word text old new from has e stood froms ordered read t =
    not_begin-never name To (further ++ word ∷ []) has (λ more (m, n, s).
    never_beside IsIsovalue (λ o. InOrder from o) old new (codes "to") further word text e stood ordered t read more n s.tos
    (InOrder-last from n m (Stood-keeps IsIsovalue IsIsovalue-one (codes "from") further (word ∷ []) more from (Some m) froms s.froms) s.range))
