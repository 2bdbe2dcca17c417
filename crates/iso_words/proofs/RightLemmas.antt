-- What a right list of words has, by the name of its command; and a list that gave right values so far goes on to a right one.
use Rattle.std.proofs.Common.{◌≡◌, ℕ, Bool, true, false, ◌||◌, List, [], ◌∷◌, ◌++◌, map, Option, Some, None, refl, sym, ◌∙◌, ap, subst, Bor, arith}
use Rattle.std.specs.Prelude.{ℤ, codes, IsTrue}
use Rattle.std.specs.List.{AllByRecursion, AllPass, cons_option, list_all, list_any}
use Rattle.std.specs.Option.{option_copied}
use Rattle.std.proofs.lemmas.Bool.{false≢true, and_parts}
use Rattle.std.proofs.lemmas.List.Sums.{list_all-from_AllPass}
use Rattle.iso_model.specs.declared.Kind.{Kind as CellKind}
use Rattle.iso_model.specs.Cells.{HasDimension}
use Rattle.iso_commands.specs.Commands.{Command as Asked, generate_command, check_command, extract_command, demo_command, has_key_of, kind_name, Say, value_for}
use Rattle.iso_commands.specs.Commands.{convert_command, audit_command, spectrum_command}
use Rattle.iso_commands.specs.Commands.{SayGenerate, SayCheck, SayExtract, SayDemo, SayConvert, SayAudit, SaySpectrum, AreRight, BeginRight, IsRange}
use Rattle.iso_words.specs.declared.keys.Key.{Key}
use Rattle.iso_words.specs.declared.keys.Key.TheVariants.{Kind, Dim, Size, Seed, Table, Grid, Iso, Mesh, From, To}
use Rattle.iso_words.specs.declared.keys.CommandName.{CommandName}
use Rattle.iso_words.specs.declared.keys.CommandName.TheVariants.{Generate, Check, Extract, Demo, Convert, Audit, Spectrum}
use Rattle.iso_words.specs.declared.given.Given.{Given}
use Rattle.iso_words.specs.Built.{is_built}
use Rattle.iso_words.specs.Keys.{key_text, name_text, own_keys, keys_of, has_key}
use Rattle.iso_words.specs.Given.{IsKind, IsDimension, IsSize, IsSeed, IsFile, IsIsovalue, HasGiven, Fit, InOrder, values_of, Stood, Gave}
use Rattle.iso_words.specs.Given.{WereGiven, IsWhole, SayNamed, name_of}
use Rattle.iso_words.specs.declared.Command.{Command}
use Rattle.iso_words.specs.declared.Command.TheVariants.{Generate as generate, Check as check, Extract as extract, Demo as demo}
use Rattle.iso_words.specs.declared.Command.TheVariants.{Convert as convert, Audit as audit, Spectrum as spectrum}
use Rattle.iso_model.proofs.DimensionLaws.{HasDimension-limits}
use Rattle.iso_words.proofs.KindLemmas.{size_limit-most}
use Rattle.iso_words.proofs.KeyLemmas.{has_key_of-some, key_text-one, name_text-one}
use Rattle.lists.specs.Orders.{same_list}
use Rattle.lists.proofs.MemberLaws.{lists_equal, same_head}

-- a kind stands once, and so do a dimension and a size, or they do not stand; and they go together
pub record StandTogether (kind : CellKind) (dim size : Option ℕ) (further : List (List ℕ)) : Type 0 where
  pub kinds : Stood IsKind (Some kind) (values_of (codes "kind") further)
  pub dims : Stood IsDimension dim (values_of (codes "dim") further)
  pub sizes : Stood IsSize size (values_of (codes "size") further)
  pub fits : Fit (Some kind) dim size

-- both ends of a range stand once each
pub record StandAsRange (from to : ℤ) (further : List (List ℕ)) : Type 0 where
  pub froms : Stood IsIsovalue (Some from) (values_of (codes "from") further)
  pub tos : Stood IsIsovalue (Some to) (values_of (codes "to") further)
  pub range : IsRange from to

-- a key stands once, with a value that it may have
abbrev pub StandsOnce : Key → List (List ℕ) → Type 0
StandsOnce Kind further = (kind : CellKind) × (dim : Option ℕ) × (size : Option ℕ) × StandTogether kind dim size further
StandsOnce Dim further = (kind : CellKind) × (d : ℕ) × (size : Option ℕ) × StandTogether kind (Some d) size further
StandsOnce Size further = (kind : CellKind) × (dim : Option ℕ) × (n : ℕ) × StandTogether kind dim (Some n) further
StandsOnce Seed further = (n : ℕ) × Stood IsSeed (Some n) (values_of (codes "seed") further)
StandsOnce Table further = (name : List ℕ) × Stood IsFile (Some name) (values_of (codes "table") further)
StandsOnce Grid further = (name : List ℕ) × Stood IsFile (Some name) (values_of (codes "grid") further)
StandsOnce Iso further = (n : ℤ) × Stood IsIsovalue (Some n) (values_of (codes "iso") further)
StandsOnce Mesh further = (name : List ℕ) × Stood IsFile (Some name) (values_of (codes "mesh") further)
StandsOnce From further = (from : ℤ) × (to : ℤ) × StandAsRange from to further
StandsOnce To further = (from : ℤ) × (to : ℤ) × StandAsRange from to further

-- what stands behind the name of a command in a right list
pub record HasKeys (name : CommandName) (further : List (List ℕ)) : Type 0 where
  pub keyed : AllPass (has_key_of (keys_of name)) further
  pub once : AllByRecursion (λ key. StandsOnce key further) (own_keys name)

-- the values of a command
abbrev pub Values : CommandName → Type 0
Values Generate = CellKind × ℕ
Values Check = List ℕ
Values Extract = List ℕ × List ℕ × ℤ
Values Demo = CellKind × ℕ × ℕ × ℕ
Values Convert = List ℕ
Values Audit = List ℕ
Values Spectrum = CellKind × List ℕ × ℤ × ℤ

-- the command of a name with these values
abbrev pub with_values : (name : CommandName) → Values name → Asked
with_values Generate (kind, d) = generate_command kind d
with_values Check table = check_command table
with_values Extract (table, grid, iso) = extract_command table grid iso
with_values Demo (kind, d, size, seed) = demo_command kind d size seed
with_values Convert table = convert_command table
with_values Audit mesh = audit_command mesh
with_values Spectrum (kind, grid, from, to) = spectrum_command kind grid from to

-- each command that is built has a name
pub built_values : (c : Asked) → IsTrue (is_built c) → (name : CommandName) × (values : Values name) × (c ≡ with_values name values)
built_values (generate_command kind d) b = (Generate, (kind, d), refl)
built_values (check_command table) b = (Check, table, refl)
built_values (extract_command table grid iso) b = (Extract, (table, grid, iso), refl)
built_values (demo_command kind d size seed) b = (Demo, (kind, d, size, seed), refl)
built_values (convert_command table) b = (Convert, table, refl)
built_values (audit_command mesh) b = (Audit, mesh, refl)
built_values (spectrum_command kind grid from to) b = (Spectrum, (kind, grid, from, to), refl)

-- the words that say it begin with this name
pub begins_named : (name : CommandName) (values : Values name) (words : List (List ℕ)) → Say words (with_values name values)
    → (further : List (List ℕ)) × (words ≡ name_text name ∷ further)
begins_named Generate values words s = s.are_for.named
begins_named Check values words s = s.are_for.named
begins_named Extract values words s = s.are_for.named
begins_named Demo values words s = s.are_for.named
begins_named Convert values words s = s.are_for.named
begins_named Audit values words s = s.are_for.named
begins_named Spectrum values words s = s.are_for.named

pub begins-one : (m n : CommandName) (values : Values n) (words further : List (List ℕ)) → words ≡ name_text m ∷ further → Say words (with_values n values) → m ≡ n
begins-one m n values words further e s =
    let named = begins_named n values words s in
    name_text-one m n (same_head (name_text m) (name_text n) further named.0 (sym e ∙ named.1))

-- words with keys of a list give no values for another key
no_values : (keys : List (List ℕ)) (key : List ℕ) (further : List (List ℕ)) → list_any (same_list key) keys ≡ false
    → list_all (has_key_of keys) further ≡ true → values_of key further ≡ []
no_values keys key [] apart all = refl
no_values keys key (word ∷ further) apart all =
    let p = and_parts (has_key_of keys word) (list_all (has_key_of keys) further) all in
    ap (λ (o : Option (List ℕ)). cons_option o (values_of key further)) (none (value_for key word) refl p.0) ∙ no_values keys key further apart p.1
  where
    none : (o : Option (List ℕ)) → value_for key word ≡ o → has_key_of keys word ≡ true → value_for key word ≡ None
    none None e has = e
    none (Some v) e has = absurd (false≢true (sym apart ∙ sym (has_key_of-some keys key word v e) ∙ has))

-- and have each of its keys once, with a value that it may have
has_keys : (name : CommandName) (values : Values name) (further : List (List ℕ)) → Say (name_text name ∷ further) (with_values name values) → HasKeys name further
has_keys Generate (kind, d) further s =
    let limits = HasDimension-limits kind d s.fits in
    let together : StandTogether kind (Some d) None further = record {
      kinds = (kind_name kind, s.kind_is, refl);
      dims = (s.dim_is.0, s.dim_is.1, (s.dim_is.2, limits.0, limits.1));
      sizes = no_values (keys_of Generate) (codes "size") further refl (list_all-from_AllPass _ _ s.are_for.keyed);
      fits = (s.fits, tt);
    } in
    record { keyed = s.are_for.keyed; once = ((kind, Some d, None, together), ((kind, d, None, together), tt)) }
has_keys Check table further s = record { keyed = s.are_for.keyed; once = ((table, (table, s.table_is.0, (refl, s.table_is.1))), tt) }
has_keys Extract (table, grid, iso) further s =
    let table_once : StandsOnce Table further = (table, (table, s.table_is.0, (refl, s.table_is.1))) in
    let grid_once : StandsOnce Grid further = (grid, (grid, s.grid_is.0, (refl, s.grid_is.1))) in
    let iso_once : StandsOnce Iso further = (iso, (s.iso_is.0, s.iso_is.1, (s.iso_is.2, s.iso_from, s.iso_to))) in
    record { keyed = s.are_for.keyed; once = (table_once, (grid_once, (iso_once, tt))) }
has_keys Demo (kind, d, size, seed) further s =
    let limits = HasDimension-limits kind d s.fits in
    let together : StandTogether kind (Some d) (Some size) further = record {
      kinds = (kind_name kind, s.kind_is, refl);
      dims = (s.dim_is.0, s.dim_is.1, (s.dim_is.2, limits.0, limits.1));
      sizes = (s.size_is.0, s.size_is.1, (s.size_is.2, s.size_from, omega (arith, s.size_to, size_limit-most d)));
      fits = (s.fits, s.size_to);
    } in
    let seed_once : StandsOnce Seed further = (seed, (s.seed_is.0, s.seed_is.1, (s.seed_is.2, s.seed_to))) in
    record {
      keyed = s.are_for.keyed;
      once = ((kind, Some d, Some size, together), ((kind, d, Some size, together), ((kind, Some d, size, together), (seed_once, tt))));
    }
has_keys Convert table further s = record { keyed = s.are_for.keyed; once = ((table, (table, s.table_is.0, (refl, s.table_is.1))), tt) }
has_keys Audit mesh further s = record { keyed = s.are_for.keyed; once = ((mesh, (mesh, s.mesh_is.0, (refl, s.mesh_is.1))), tt) }
has_keys Spectrum (kind, grid, from, to) further s =
    let keyed = list_all-from_AllPass _ _ s.are_for.keyed in
    let together : StandTogether kind None None further = record {
      kinds = (kind_name kind, s.kind_is, refl);
      dims = no_values (keys_of Spectrum) (codes "dim") further refl keyed;
      sizes = no_values (keys_of Spectrum) (codes "size") further refl keyed;
      fits = (tt, tt);
    } in
    let grid_once : StandsOnce Grid further = (grid, (grid, s.grid_is.0, (refl, s.grid_is.1))) in
    let ends : StandAsRange from to further = record {
      froms = (s.from_is.0, s.from_is.1, (s.from_is.2, s.from_low, s.from_high));
      tos = (s.to_is.0, s.to_is.1, (s.to_is.2, s.to_low, s.to_high));
      range = s.range;
    } in
    record { keyed = s.are_for.keyed; once = ((kind, None, None, together), (grid_once, ((from, to, ends), ((from, to, ends), tt)))) }

pub HasKeys-from_right : (name : CommandName) (further : List (List ℕ)) → AreRight is_built (name_text name ∷ further) → HasKeys name further
HasKeys-from_right name further right =
    let words = name_text name ∷ further in
    let built = built_values right.0 right.1 in
    let said : Say words (with_values built.0 built.1) = subst (λ (c : Asked). Say words c) built.2 right.2 in
    subst (λ (n : CommandName). (values : Values n) → Say words (with_values n values) → HasKeys name further)
    (begins-one name built.0 built.1 words further refl said) (λ values s. has_keys name values further s) built.1 said

-- a key of the command stands once
pub stands_once : (name : CommandName) (further : List (List ℕ)) (key : Key) → HasKeys name further → has_key name key ≡ true → StandsOnce key further
stands_once name further key has e = go (own_keys name) has.once e
  where
    here : (k : Key) (keys : List Key) (b : Bool) → same_list (key_text key) (key_text k) ≡ b → StandsOnce k further
        → (list_any (same_list (key_text key)) (map key_text keys) ≡ true → StandsOnce key further)
        → (b || list_any (same_list (key_text key)) (map key_text keys)) ≡ true → StandsOnce key further
    here k keys true same s later t = subst (λ (k : Key). StandsOnce k further) (sym (key_text-one key k (lists_equal _ _ same))) s
    here k keys false same s later t = later t

    go : (keys : List Key) → AllByRecursion (λ k. StandsOnce k further) keys → list_any (same_list (key_text key)) (map key_text keys) ≡ true → StandsOnce key further
    go [] all t = absurd (false≢true t)
    go (k ∷ keys) all t = here k keys (same_list (key_text key) (key_text k)) refl all.0 (go keys all.1) t

-- what is said, where each key stood
pub SayGenerate-given : (further : List (List ℕ)) (kind : CellKind) (d : ℕ) → AllPass (has_key_of (keys_of Generate)) further
    → Stood IsKind (Some kind) (values_of (codes "kind") further) → Stood IsDimension (Some d) (values_of (codes "dim") further) → HasDimension kind d
    → SayGenerate (codes "generate" ∷ further) kind d
SayGenerate-given further kind d keyed k n fits = record {
  are_for = record { named = (further, refl); keyed = keyed };
  kind_is = k.1 ∙ ap (λ (v : List ℕ). v ∷ []) k.2;
  dim_is = (n.0, n.1, n.2.0);
  fits = fits;
}

pub SayCheck-given : (further : List (List ℕ)) (table : List ℕ) → AllPass (has_key_of (keys_of Check)) further
    → Stood IsFile (Some table) (values_of (codes "table") further) → SayCheck (codes "check" ∷ further) table
SayCheck-given further table keyed t = record {
  are_for = record { named = (further, refl); keyed = keyed };
  table_is = (t.1 ∙ ap (λ (v : List ℕ). v ∷ []) t.2.0, t.2.1);
}

pub SayExtract-given : (further : List (List ℕ)) (table grid : List ℕ) (iso : ℤ) → AllPass (has_key_of (keys_of Extract)) further
    → Stood IsFile (Some table) (values_of (codes "table") further) → Stood IsFile (Some grid) (values_of (codes "grid") further)
    → Stood IsIsovalue (Some iso) (values_of (codes "iso") further) → SayExtract (codes "extract" ∷ further) table grid iso
SayExtract-given further table grid iso keyed t g i = record {
  are_for = record { named = (further, refl); keyed = keyed };
  table_is = (t.1 ∙ ap (λ (v : List ℕ). v ∷ []) t.2.0, t.2.1);
  grid_is = (g.1 ∙ ap (λ (v : List ℕ). v ∷ []) g.2.0, g.2.1);
  iso_is = (i.0, i.1, i.2.0);
  iso_from = i.2.1;
  iso_to = i.2.2;
}

pub SayDemo-given : (further : List (List ℕ)) (kind : CellKind) (d size seed : ℕ) → AllPass (has_key_of (keys_of Demo)) further
    → Stood IsKind (Some kind) (values_of (codes "kind") further) → Stood IsDimension (Some d) (values_of (codes "dim") further)
    → Stood IsSize (Some size) (values_of (codes "size") further) → Stood IsSeed (Some seed) (values_of (codes "seed") further)
    → Fit (Some kind) (Some d) (Some size) → SayDemo (codes "demo" ∷ further) kind d size seed
SayDemo-given further kind d size seed keyed k n m x fits = record {
  are_for = record { named = (further, refl); keyed = keyed };
  kind_is = k.1 ∙ ap (λ (v : List ℕ). v ∷ []) k.2;
  dim_is = (n.0, n.1, n.2.0);
  fits = fits.0;
  size_is = (m.0, m.1, m.2.0);
  size_from = m.2.1;
  size_to = fits.1;
  seed_is = (x.0, x.1, x.2.0);
  seed_to = x.2.1;
}

pub SayConvert-given : (further : List (List ℕ)) (table : List ℕ) → AllPass (has_key_of (keys_of Convert)) further
    → Stood IsFile (Some table) (values_of (codes "table") further) → SayConvert (codes "convert" ∷ further) table
SayConvert-given further table keyed t = record {
  are_for = record { named = (further, refl); keyed = keyed };
  table_is = (t.1 ∙ ap (λ (v : List ℕ). v ∷ []) t.2.0, t.2.1);
}

pub SayAudit-given : (further : List (List ℕ)) (mesh : List ℕ) → AllPass (has_key_of (keys_of Audit)) further
    → Stood IsFile (Some mesh) (values_of (codes "mesh") further) → SayAudit (codes "audit" ∷ further) mesh
SayAudit-given further mesh keyed m = record {
  are_for = record { named = (further, refl); keyed = keyed };
  mesh_is = (m.1 ∙ ap (λ (v : List ℕ). v ∷ []) m.2.0, m.2.1);
}

pub SaySpectrum-given : (further : List (List ℕ)) (kind : CellKind) (grid : List ℕ) (from to : ℤ) → AllPass (has_key_of (keys_of Spectrum)) further
    → Stood IsKind (Some kind) (values_of (codes "kind") further) → Stood IsFile (Some grid) (values_of (codes "grid") further)
    → Stood IsIsovalue (Some from) (values_of (codes "from") further) → Stood IsIsovalue (Some to) (values_of (codes "to") further)
    → IsRange from to → SaySpectrum (codes "spectrum" ∷ further) kind grid from to
SaySpectrum-given further kind grid from to keyed k g m n range = record {
  are_for = record { named = (further, refl); keyed = keyed };
  kind_is = k.1 ∙ ap (λ (v : List ℕ). v ∷ []) k.2;
  grid_is = (g.1 ∙ ap (λ (v : List ℕ). v ∷ []) g.2.0, g.2.1);
  from_is = (m.0, m.1, m.2.0);
  from_low = m.2.1;
  from_high = m.2.2;
  to_is = (n.0, n.1, n.2.0);
  to_low = n.2.1;
  to_high = n.2.2;
  range = range;
}

-- what is said, where the values of a command were given
file_stood : (key : List ℕ) (further : List (List ℕ)) (o : Option (Bor (List ℕ))) (name : Bor (List ℕ)) → o ≡ Some name
    → Stood IsFile (option_copied o) (values_of key further) → Stood IsFile (Some name.now) (values_of key further)
file_stood key further o name e s = subst (λ (o : Option (Bor (List ℕ))). Stood IsFile (option_copied o) (values_of key further)) e s

value_stood : {V : Type 0} (P : List ℕ → V → Type 0) (values : List (List ℕ)) (o : Option V) (v : V) → o ≡ Some v → Stood P o values → Stood P (Some v) values
value_stood P values o v e s = subst (λ (o : Option _). Stood P o values) e s

say_given : (command : Command) (further : List (List ℕ)) (given : Given) → WereGiven given command → Gave (name_of command) further given
    → SayNamed (name_of command) further command
say_given (generate kind dim) further given w g =
    SayGenerate-given further kind dim g.keyed (value_stood IsKind _ given.kind kind w.0 (g.stood Kind))
    (value_stood IsDimension _ given.dim dim w.1 (g.stood Dim))
    (subst (λ (o : Option ℕ). HasGiven (Some kind) o) w.1 (subst (λ (o : Option CellKind). HasGiven o given.dim) w.0 g.fits.0))
say_given (check table) further given w g = SayCheck-given further table.now g.keyed (file_stood (codes "table") further given.table table w (g.stood Table))
say_given (extract table grid iso) further given w g =
    SayExtract-given further table.now grid.now iso g.keyed (file_stood (codes "table") further given.table table w.0 (g.stood Table))
    (file_stood (codes "grid") further given.grid grid w.1 (g.stood Grid)) (value_stood IsIsovalue _ given.iso iso w.2 (g.stood Iso))
say_given (demo kind dim size seed) further given w g =
    SayDemo-given further kind dim size seed g.keyed (value_stood IsKind _ given.kind kind w.0 (g.stood Kind))
    (value_stood IsDimension _ given.dim dim w.1 (g.stood Dim)) (value_stood IsSize _ given.size size w.2 (g.stood Size))
    (value_stood IsSeed _ given.seed seed w.3 (g.stood Seed))
    (subst (λ (o : Option ℕ). Fit (Some kind) (Some dim) o) w.2
    (subst (λ (o : Option ℕ). Fit (Some kind) o given.size) w.1 (subst (λ (o : Option CellKind). Fit o given.dim given.size) w.0 g.fits)))
say_given (convert table) further given w g = SayConvert-given further table.now g.keyed (file_stood (codes "table") further given.table table w (g.stood Table))
say_given (audit mesh) further given w g = SayAudit-given further mesh.now g.keyed (file_stood (codes "mesh") further given.mesh mesh w (g.stood Mesh))
say_given (spectrum kind grid from to) further given w g =
    SaySpectrum-given further kind grid.now from to g.keyed (value_stood IsKind _ given.kind kind w.0 (g.stood Kind))
    (file_stood (codes "grid") further given.grid grid w.1 (g.stood Grid)) (value_stood IsIsovalue _ given.from from w.2 (g.stood From))
    (value_stood IsIsovalue _ given.to to w.3 (g.stood To))
    (subst (λ (o : Option ℤ). InOrder (Some from) o) w.3 (subst (λ (o : Option ℤ). InOrder o given.to) w.2 g.ordered))

pub Say-whole : (name : CommandName) (command : Command) (further : List (List ℕ)) (given : Given) → IsWhole name given command → Gave name further given
    → SayNamed name further command
Say-whole name command further given whole =
    subst (λ (n : CommandName). Gave n further given → SayNamed n further command) (sym whole.0) (say_given command further given whole.1)

-- ---- words that begin no right list

inside : (p : List ℕ → Bool) (xs : List (List ℕ)) (word : List ℕ) (more : List (List ℕ)) → list_all p ((xs ++ word ∷ []) ++ more) ≡ true → p word ≡ true
inside p [] word more h = (and_parts (p word) _ h).0
inside p (x ∷ xs) word more h = inside p xs word more (and_parts (p x) _ h).1

-- no right list goes on with a word that has no key of the command
pub not_begin-unkeyed : (name : CommandName) (further : List (List ℕ)) (word : List ℕ) → has_key_of (keys_of name) word ≡ false
    → BeginRight is_built (name_text name ∷ (further ++ word ∷ [])) → ⊥
not_begin-unkeyed name further word e begun =
    let all = list_all-from_AllPass _ _ (HasKeys-from_right name ((further ++ word ∷ []) ++ begun.0) begun.1).keyed in
    false≢true (sym e ∙ inside (has_key_of (keys_of name)) further word begun.0 all)

-- nor with one whose key never stands once then
pub not_begin-never : (name : CommandName) (key : Key) (further : List (List ℕ)) → has_key name key ≡ true
    → ((more : List (List ℕ)) → StandsOnce key (further ++ more) → ⊥) → BeginRight is_built (name_text name ∷ further) → ⊥
not_begin-never name key further e never begun =
    never begun.0 (stands_once name (further ++ begun.0) key (HasKeys-from_right name (further ++ begun.0) begun.1) e)
