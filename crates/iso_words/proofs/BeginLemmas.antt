-- Words that gave right values so far go on to a right list: each missing key is given a value.
use Rattle.std.proofs.Common.{◌≡◌, ℕ, Bool, true, false, cond, ◌&&◌, List, [], ◌∷◌, ◌++◌, Option, Some, None, refl, sym, ◌∙◌, ap, subst, arith}
use Rattle.std.proofs.lemmas.Int.{ints}
use Rattle.std.specs.Prelude.{ℤ, pos, codes, ◌==◌, ◌≤◌}
use Rattle.std.specs.List.{AllPass, cons_option, list_all}
use Rattle.std.specs.Option.{is_some, option_copied}
use Rattle.std.proofs.lemmas.Bool.{and_parts}
use Rattle.std.proofs.lemmas.List.{append-nil}
use Rattle.std.proofs.lemmas.List.Elements.{All-append, All-nil}
use Rattle.std.proofs.lemmas.List.Sums.{AllPass-from_list_all}
use Rattle.iso_model.specs.declared.Kind.{Kind as CellKind}
use Rattle.iso_model.specs.declared.Kind.TheVariants.{Cube, Simplex, Pyramid}
use Rattle.iso_model.specs.Cells.{HasDimension}
use Rattle.iso_commands.specs.Commands.{value_for, generate_command, check_command, extract_command, demo_command, convert_command, audit_command}
use Rattle.iso_commands.specs.Commands.{spectrum_command, has_key_of, size_limit, BeginRight, IsRange}
use Rattle.iso_words.specs.declared.keys.CommandName.{CommandName}
use Rattle.iso_words.specs.declared.keys.CommandName.TheVariants.{Generate, Check, Extract, Demo, Convert, Audit, Spectrum}
use Rattle.iso_words.specs.declared.given.Given.{Given}
use Rattle.iso_words.specs.Built.{is_built}
use Rattle.iso_words.specs.declared.keys.Key.{Key}
use Rattle.iso_words.specs.declared.keys.Key.TheVariants.{Kind, Dim, Size, Seed, Table, Grid, Iso, Mesh, From, To}
use Rattle.iso_words.specs.Keys.{key_text, name_text, keys_of, has_key}
use Rattle.lists.specs.Orders.{same_list}
use Rattle.lists.proofs.MemberLaws.{lists_equal}
use Rattle.iso_words.proofs.KeyLemmas.{value_for-other, has_key_of-key}
use Rattle.iso_words.specs.Given.{IsKind, IsDimension, IsSize, IsSeed, IsFile, IsIsovalue, widest, Fit, InOrder, values_of, Stood, Gave}
use Rattle.iso_words.proofs.StoodLemmas.{values_of-append}
use Rattle.iso_words.proofs.RightLemmas.{SayGenerate-given, SayCheck-given, SayExtract-given, SayDemo-given, SayConvert-given, SayAudit-given, SaySpectrum-given}

-- a word for a key that is missing
abbrev fill : Bool → List ℕ → List (List ℕ)
fill true word = []
fill false word = word ∷ []

-- a key, whether it was given, and the text that it has else
abbrev Row : Type 0
Row = Key × Bool × List ℕ

-- the word of a key and a text
abbrev word_of : Key → List ℕ → List ℕ
word_of key text = key_text key ++ 61 ∷ text

-- the words for the keys that are missing
abbrev fills : List Row → List (List ℕ)
fills [] = []
fills ((key, given, text) ∷ rows) = fill given (word_of key text) ++ fills rows

-- the values that these words give to a key
abbrev filled_values : List Row → List ℕ → List (List ℕ)
filled_values [] key = []
filled_values ((k, given, text) ∷ rows) key = cond (same_list (key_text k) key) (fill given text) [] ++ filled_values rows key

-- the value that a key has then
abbrev standing : {V : Type 0} → Option V → V → V
standing None v = v
standing (Some w) v = w

word_of-value : (key : Key) (text : List ℕ) → value_for (key_text key) (word_of key text) ≡ Some text
word_of-value Kind text = refl
word_of-value Dim text = refl
word_of-value Size text = refl
word_of-value Seed text = refl
word_of-value Table text = refl
word_of-value Grid text = refl
word_of-value Iso text = refl
word_of-value Mesh text = refl
word_of-value From text = refl
word_of-value To text = refl

fill_values : (k : Key) (given : Bool) (text key : List ℕ)
    → values_of key (fill given (word_of k text)) ≡ cond (same_list (key_text k) key) (fill given text) []
fill_values k given text key = go given (same_list (key_text k) key) refl
  where
    go : (given same : Bool) → same_list (key_text k) key ≡ same → values_of key (fill given (word_of k text)) ≡ cond same (fill given text) []
    go true true e = refl
    go true false e = refl
    go false true e = ap (λ (o : Option (List ℕ)). cons_option o []) (subst (λ (t : List ℕ). value_for t (word_of k text) ≡ Some text)
        (lists_equal (key_text k) key e) (word_of-value k text))
    go false false e = ap (λ (o : Option (List ℕ)). cons_option o []) (value_for-other (key_text k) key (word_of k text) text (word_of-value k text) e)

values_of-fills : (rows : List Row) (key : List ℕ) → values_of key (fills rows) ≡ filled_values rows key
values_of-fills [] key = refl
values_of-fills ((k, given, text) ∷ rows) key =
    values_of-append key (fill given (word_of k text)) (fills rows)
    ∙ ap (λ (vs : List (List ℕ)). vs ++ values_of key (fills rows)) (fill_values k given text key)
    ∙ ap (λ (vs : List (List ℕ)). cond (same_list (key_text k) key) (fill given text) [] ++ vs) (values_of-fills rows key)

-- a key that was given keeps its value, and one that was not has the text of its row
after_fills : {V : Type 0} (P : List ℕ → V → Type 0) (o : Option V) (key : List ℕ) (rows : List Row) (further : List (List ℕ)) (text : List ℕ) (v : V)
    → P text v → filled_values rows key ≡ fill (is_some o) text → Stood P o (values_of key further)
    → Stood P (Some (standing o v)) (values_of key (further ++ fills rows))
after_fills P o key rows further text v p e s =
    let all = values_of-append key further (fills rows) ∙ ap (λ (vs : List (List ℕ)). values_of key further ++ vs) (values_of-fills rows key ∙ e) in
    subst (λ (vs : List (List ℕ)). Stood P (Some (standing o v)) vs) (sym all) (go o s)
  where
    go : (o : Option _) → Stood P o (values_of key further) → Stood P (Some (standing o v)) (values_of key further ++ fill (is_some o) text)
    go None h = (text, ap (λ (vs : List (List ℕ)). vs ++ text ∷ []) h, p)
    go (Some w) h = (h.0, append-nil (values_of key further) ∙ h.1, h.2)

-- and the words have keys of the command
fills_keyed : (name : CommandName) (rows : List Row) → list_all (λ row. has_key name row.0) rows ≡ true → AllPass (has_key_of (keys_of name)) (fills rows)
fills_keyed name [] e = All-nil (λ w. has_key_of (keys_of name) w ≡ true)
fills_keyed name ((key, given, text) ∷ rows) e =
    let p = and_parts (has_key name key) (list_all (λ row. has_key name row.0) rows) e in
    All-append (λ w. has_key_of (keys_of name) w ≡ true) (fill given (word_of key text)) (fills rows) (one given p.0) (fills_keyed name rows p.1)
  where
    one : (given : Bool) → has_key name key ≡ true → AllPass (has_key_of (keys_of name)) (fill given (word_of key text))
    one true h = All-nil (λ w. has_key_of (keys_of name) w ≡ true)
    one false h = AllPass-from_list_all (has_key_of (keys_of name)) (word_of key text ∷ [])
        (ap (λ (b : Bool). b && true) (has_key_of-key name key (word_of key text) text (word_of-value key text) ∙ h))

keyed_on : (name : CommandName) (rows : List Row) (further : List (List ℕ)) → list_all (λ row. has_key name row.0) rows ≡ true
    → AllPass (has_key_of (keys_of name)) further → AllPass (has_key_of (keys_of name)) (further ++ fills rows)
keyed_on name rows further e keyed = All-append (λ w. has_key_of (keys_of name) w ≡ true) further (fills rows) keyed (fills_keyed name rows e)

a_file : IsFile (codes "a") (codes "a")
a_file = (refl, λ e. cc)

an_isovalue : IsIsovalue (codes "0") (pos 0)
an_isovalue = ((refl, refl), omega (arith, ints), omega (arith, ints))

a_size : IsSize (codes "1") 1
a_size = ((refl, refl), omega arith, omega arith)

a_seed : IsSeed (codes "0") 0
a_seed = ((refl, refl), omega arith)

-- the text of the dimension with the greatest grids
abbrev widest_text : Option CellKind → List ℕ
widest_text None = codes "2"
widest_text (Some Cube) = codes "2"
widest_text (Some Simplex) = codes "2"
widest_text (Some Pyramid) = codes "3"

a_dimension : (kind : Option CellKind) → IsDimension (widest_text kind) (widest kind None)
a_dimension None = ((refl, refl), omega arith, omega arith)
a_dimension (Some Cube) = ((refl, refl), omega arith, omega arith)
a_dimension (Some Simplex) = ((refl, refl), omega arith, omega arith)
a_dimension (Some Pyramid) = ((refl, refl), omega arith, omega arith)

-- each dimension has cubes, each kind has the dimension with its greatest grids
standing_fit : (kind : Option CellKind) (dim size : Option ℕ) (values : List (List ℕ)) → Stood IsDimension dim values → Fit kind dim size
    → HasDimension (standing kind Cube) (standing dim (widest kind None))
standing_fit None None size values s f = (omega arith, omega arith)
standing_fit None (Some d) size values s f = (s.2.1, s.2.2)
standing_fit (Some Cube) None size values s f = (omega arith, omega arith)
standing_fit (Some Simplex) None size values s f = (omega arith, omega arith)
standing_fit (Some Pyramid) None size values s f = refl
standing_fit (Some k) (Some d) size values s f = f.0

-- and each dimension has grids of size 1
size_limit-some : (d : ℕ) → 1 ≤ size_limit d
size_limit-some d = go (d == 2) (d == 3)
  where
    go : (two three : Bool) → 1 ≤ cond two 256 (cond three 64 16)
    go true three = omega arith
    go false true = omega arith
    go false false = omega arith

standing_small : (kind : Option CellKind) (dim size : Option ℕ) → Fit kind dim size → standing size 1 ≤ size_limit (standing dim (widest kind None))
standing_small kind dim None f = size_limit-some (standing dim (widest kind None))
standing_small kind None (Some n) f = f.1
standing_small kind (Some d) (Some n) f = f.1

begin_generate : (further : List (List ℕ)) (given : Given) → Gave Generate further given → BeginRight is_built (codes "generate" ∷ further)
begin_generate further given g =
    let rows = (Kind, is_some given.kind, codes "cube") ∷ (Dim, is_some given.dim, widest_text given.kind) ∷ [] in
    let kind = standing given.kind Cube in
    let d = standing given.dim (widest given.kind None) in
    let said = SayGenerate-given (further ++ fills rows) kind d (keyed_on Generate rows further refl g.keyed)
    (after_fills IsKind given.kind (codes "kind") rows further (codes "cube") Cube refl (append-nil _) (g.stood Kind))
    (after_fills IsDimension given.dim (codes "dim") rows further (widest_text given.kind) (widest given.kind None) (a_dimension given.kind) (append-nil _)
    (g.stood Dim))
    (standing_fit given.kind given.dim given.size (values_of (codes "dim") further) (g.stood Dim) g.fits) in
    (fills rows, (generate_command kind d, refl, said))

begin_check : (further : List (List ℕ)) (given : Given) → Gave Check further given → BeginRight is_built (codes "check" ∷ further)
begin_check further given g =
    let table = option_copied given.table in
    let rows = (Table, is_some table, codes "a") ∷ [] in
    let said = SayCheck-given (further ++ fills rows) (standing table (codes "a")) (keyed_on Check rows further refl g.keyed)
    (after_fills IsFile table (codes "table") rows further (codes "a") (codes "a") a_file (append-nil _) (g.stood Table)) in
    (fills rows, (check_command (standing table (codes "a")), refl, said))

begin_extract : (further : List (List ℕ)) (given : Given) → Gave Extract further given → BeginRight is_built (codes "extract" ∷ further)
begin_extract further given g =
    let table = option_copied given.table in
    let grid = option_copied given.grid in
    let rows = (Table, is_some table, codes "a") ∷ (Grid, is_some grid, codes "a") ∷ (Iso, is_some given.iso, codes "0") ∷ [] in
    let said = SayExtract-given (further ++ fills rows) (standing table (codes "a")) (standing grid (codes "a")) (standing given.iso (pos 0))
    (keyed_on Extract rows further refl g.keyed)
    (after_fills IsFile table (codes "table") rows further (codes "a") (codes "a") a_file (append-nil _) (g.stood Table))
    (after_fills IsFile grid (codes "grid") rows further (codes "a") (codes "a") a_file (append-nil _) (g.stood Grid))
    (after_fills IsIsovalue given.iso (codes "iso") rows further (codes "0") (pos 0) an_isovalue (append-nil _) (g.stood Iso)) in
    (fills rows, (extract_command (standing table (codes "a")) (standing grid (codes "a")) (standing given.iso (pos 0)), refl, said))

begin_demo : (further : List (List ℕ)) (given : Given) → Gave Demo further given → BeginRight is_built (codes "demo" ∷ further)
begin_demo further given g =
    let rows =
    (Kind, is_some given.kind, codes "cube")
    ∷ (Dim, is_some given.dim, widest_text given.kind)
    ∷ (Size, is_some given.size, codes "1")
    ∷ (Seed, is_some given.seed, codes "0")
    ∷ [] in
    let kind = standing given.kind Cube in
    let d = standing given.dim (widest given.kind None) in
    let size = standing given.size 1 in
    let seed = standing given.seed 0 in
    let said =
    SayDemo-given (further ++ fills rows) kind d size seed (keyed_on Demo rows further refl g.keyed)
    (after_fills IsKind given.kind (codes "kind") rows further (codes "cube") Cube refl (append-nil _) (g.stood Kind))
    (after_fills IsDimension given.dim (codes "dim") rows further (widest_text given.kind) (widest given.kind None) (a_dimension given.kind) (append-nil _)
    (g.stood Dim))
    (after_fills IsSize given.size (codes "size") rows further (codes "1") 1 a_size (append-nil _) (g.stood Size))
    (after_fills IsSeed given.seed (codes "seed") rows further (codes "0") 0 a_seed (append-nil _) (g.stood Seed)) (
      standing_fit given.kind given.dim given.size (values_of (codes "dim") further) (g.stood Dim) g.fits,
      standing_small given.kind given.dim given.size g.fits,
    ) in
    (fills rows, (demo_command kind d size seed, refl, said))

begin_convert : (further : List (List ℕ)) (given : Given) → Gave Convert further given → BeginRight is_built (codes "convert" ∷ further)
begin_convert further given g =
    let table = option_copied given.table in
    let rows = (Table, is_some table, codes "a") ∷ [] in
    let said =
    SayConvert-given (further ++ fills rows) (standing table (codes "a")) (keyed_on Convert rows further refl g.keyed)
    (after_fills IsFile table (codes "table") rows further (codes "a") (codes "a") a_file (append-nil _) (g.stood Table)) in
    (fills rows, (convert_command (standing table (codes "a")), refl, said))

begin_audit : (further : List (List ℕ)) (given : Given) → Gave Audit further given → BeginRight is_built (codes "audit" ∷ further)
begin_audit further given g =
    let mesh = option_copied given.mesh in
    let rows = (Mesh, is_some mesh, codes "a") ∷ [] in
    let said =
    SayAudit-given (further ++ fills rows) (standing mesh (codes "a")) (keyed_on Audit rows further refl g.keyed)
    (after_fills IsFile mesh (codes "mesh") rows further (codes "a") (codes "a") a_file (append-nil _) (g.stood Mesh)) in
    (fills rows, (audit_command (standing mesh (codes "a")), refl, said))

-- ---- ranges

-- the end of a range whose other end has this value, or none: the same
abbrev other_end : Option ℤ → ℤ
other_end None = pos 0
other_end (Some n) = n

-- and its text
other_text : (o : Option ℤ) (values : List (List ℕ)) → Stood IsIsovalue o values → (text : List ℕ) × IsIsovalue text (other_end o)
other_text None values s = (codes "0", an_isovalue)
other_text (Some n) values s = (s.0, s.2)

-- one isovalue is a range
one_isovalue : (n : ℤ) → IsRange n n
one_isovalue n = (omega (arith, ints), omega (arith, ints))

standing_range : (from to : Option ℤ) → InOrder from to → IsRange (standing from (other_end to)) (standing to (other_end from))
standing_range None None ordered = one_isovalue (pos 0)
standing_range None (Some to) ordered = one_isovalue to
standing_range (Some from) None ordered = one_isovalue from
standing_range (Some from) (Some to) ordered = ordered

begin_spectrum : (further : List (List ℕ)) (given : Given) → Gave Spectrum further given → BeginRight is_built (codes "spectrum" ∷ further)
begin_spectrum further given g =
    let first = other_text given.to (values_of (codes "to") further) (g.stood To) in
    let last = other_text given.from (values_of (codes "from") further) (g.stood From) in
    let grid = option_copied given.grid in
    let rows =
    (Kind, is_some given.kind, codes "cube")
    ∷ (Grid, is_some grid, codes "a")
    ∷ (From, is_some given.from, first.0)
    ∷ (To, is_some given.to, last.0)
    ∷ [] in
    let kind = standing given.kind Cube in
    let from = standing given.from (other_end given.to) in
    let to = standing given.to (other_end given.from) in
    let said =
    SaySpectrum-given (further ++ fills rows) kind (standing grid (codes "a")) from to (keyed_on Spectrum rows further refl g.keyed)
    (after_fills IsKind given.kind (codes "kind") rows further (codes "cube") Cube refl (append-nil _) (g.stood Kind))
    (after_fills IsFile grid (codes "grid") rows further (codes "a") (codes "a") a_file (append-nil _) (g.stood Grid))
    (after_fills IsIsovalue given.from (codes "from") rows further first.0 (other_end given.to) first.1 (append-nil _) (g.stood From))
    (after_fills IsIsovalue given.to (codes "to") rows further last.0 (other_end given.from) last.1 (append-nil _) (g.stood To))
    (standing_range given.from given.to g.ordered) in
    (fills rows, (spectrum_command kind (standing grid (codes "a")) from to, refl, said))

-- some right list begins with the name of a command and words that gave right values
pub BeginRight-given : (name : CommandName) (further : List (List ℕ)) (given : Given) → Gave name further given → BeginRight is_built (name_text name ∷ further)
BeginRight-given Generate further given g = begin_generate further given g
BeginRight-given Check further given g = begin_check further given g
BeginRight-given Extract further given g = begin_extract further given g
BeginRight-given Demo further given g = begin_demo further given g
BeginRight-given Convert further given g = begin_convert further given g
BeginRight-given Audit further given g = begin_audit further given g
BeginRight-given Spectrum further given g = begin_spectrum further given g
