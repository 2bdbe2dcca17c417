-- The generators after one more is kept.
use Rattle.std.specs.Prelude.{◌≡◌, ℕ, Bool, true, false, not, List, filter, All, if◌then◌else◌}
use Rattle.std.proofs.Common.{ap}
use Rattle.std.proofs.lemmas.List.Elements.{All-filter, All-push}
use Rattle.hull_dd.specs.declared.generators.Generator.{Generator}
use Rattle.hull_dd.specs.Generators.{is_within, is_within_some, with_new, kept_with}

pub kept_new : (d : ℕ) (new : Generator d) (gs : List (Generator d)) → false ≡ is_within_some new.tight gs → with_new new gs ≡ kept_with new gs
kept_new d new gs e = ap (λ (b : Bool). if b then gs else with_new new gs) e

-- what each old one and the new one have, each has
pub All-kept : (d : ℕ) (P : Generator d → Type 0) (new : Generator d) (gs : List (Generator d)) → P new → All P gs → All P (kept_with new gs)
All-kept d P new gs p h = by_test (is_within_some new.tight gs)
  where
    by_test : (b : Bool) → All P (if b then gs else with_new new gs)
    by_test true = h
    by_test false = All-push P (filter (λ (g : Generator d). not (is_within g.tight new.tight)) gs) new
        (All-filter (λ (g : Generator d). not (is_within g.tight new.tight)) P gs h) p
