-- Words that lack a key of their command are no right list.
use Rattle.std.proofs.Common.{◌≡◌, ℕ, Bool, true, false, not, ◌||◌, List, [], ◌∷◌, Option, Some, None, refl, ◌∙◌, Bor}
use Rattle.std.specs.List.{AllByRecursion, list_any}
use Rattle.std.specs.Option.{is_some, option_copied}
use Rattle.std.proofs.lemmas.Bool.{false≢true, true≢false}
use Rattle.iso_commands.specs.Commands.{AreRight}
use Rattle.iso_words.specs.Built.{is_built}
use Rattle.iso_words.specs.declared.keys.Key.{Key}
use Rattle.iso_words.specs.declared.keys.Key.TheVariants.{Kind, Dim, Size, Seed, Table, Grid, Iso, Mesh, From, To}
use Rattle.iso_words.specs.declared.keys.CommandName.{CommandName}
use Rattle.iso_words.specs.declared.given.Given.{Given}
use Rattle.iso_words.specs.Keys.{key_text, name_text, own_keys}
use Rattle.iso_words.specs.Given.{IsKind, IsDimension, IsSize, IsSeed, IsFile, IsIsovalue, values_of, Stood, StoodAt, Gave, is_given, Lacks}
use Rattle.iso_words.proofs.RightLemmas.{StandsOnce, HasKeys-from_right}
use Rattle.iso_words.proofs.TakeLemmas.{copied}

none_stands : {V : Type 0} (P : List ℕ → V → Type 0) (o : Option V) (v : V) (values : List (List ℕ)) → Stood P o values → is_some o ≡ false
    → Stood P (Some v) values → ⊥
none_stands P (Some w) v values s e once = true≢false e
none_stands P None v values s e (text, only, p) = cc

no_file_stands : (o : Option (Bor (List ℕ))) (name : List ℕ) (values : List (List ℕ)) → Stood IsFile (option_copied o) values → is_some o ≡ false
    → Stood IsFile (Some name) values → ⊥
no_file_stands o name values s e = none_stands IsFile (option_copied o) name values s (copied o ∙ e)

-- a key that was not given does not stand
missing : (key : Key) (given : Given) (further : List (List ℕ)) → StoodAt key given (values_of (key_text key) further) → is_given key given ≡ false
    → StandsOnce key further → ⊥
missing Kind given further s e once = none_stands IsKind given.kind once.0 _ s e once.3.kinds
missing Dim given further s e once = none_stands IsDimension given.dim once.1 _ s e once.3.dims
missing Size given further s e once = none_stands IsSize given.size once.2 _ s e once.3.sizes
missing Seed given further s e once = none_stands IsSeed given.seed once.0 _ s e once.1
missing Table given further s e once = no_file_stands given.table once.0 _ s e once.1
missing Grid given further s e once = no_file_stands given.grid once.0 _ s e once.1
missing Iso given further s e once = none_stands IsIsovalue given.iso once.0 _ s e once.1
missing Mesh given further s e once = no_file_stands given.mesh once.0 _ s e once.1
missing From given further s e once = none_stands IsIsovalue given.from once.0 _ s e once.2.froms
missing To given further s e once = none_stands IsIsovalue given.to once.1 _ s e once.2.tos

pub Lacks-wrong : (name : CommandName) (further : List (List ℕ)) (given : Given) → Gave name further given → Lacks name given
    → AreRight is_built (name_text name ∷ further) → ⊥
Lacks-wrong name further given g lacks right = go (own_keys name) (HasKeys-from_right name further right).once lacks
  where
    here : (key : Key) (keys : List Key) (b : Bool) → is_given key given ≡ b → StandsOnce key further → (list_any (λ k. not (is_given k given)) keys ≡ true → ⊥)
        → (not b || list_any (λ k. not (is_given k given)) keys) ≡ true → ⊥
    here key keys true e once later t = later t
    here key keys false e once later t = missing key given further (g.stood key) e once

    go : (keys : List Key) → AllByRecursion (λ key. StandsOnce key further) keys → list_any (λ k. not (is_given k given)) keys ≡ true → ⊥
    go [] all t = false≢true t
    go (key ∷ keys) all t = here key keys (is_given key given) refl all.0 (go keys all.1) t
