-- Some facet has all edges of a list, or no facet has.
use Rattle.std.proofs.Common.{◌≡◌, ℕ, zero, suc, ◌<◌, Bool, true, false, List, [], ◌∷◌, refl, sym, ◌∙◌, subst, arith, inl, inr}
use Rattle.std.specs.Prelude.{◌⊎◌}
use Rattle.std.proofs.lemmas.Bool.{cases_eq}
use Rattle.glue_laws.proofs.Pieces.{Pieces, AllIn}

module _ (p : Pieces) where
  all_in_or : (f : ℕ) (es : List ℕ) → AllIn p f es ⊎ ¬ AllIn p f es
  all_in_or f [] = inl tt
  all_in_or f (e ∷ es) = all_in_case f e es (p.in_facet f e) refl (all_in_or f es)
    where
      all_in_case : (f e : ℕ) (es : List ℕ) → (b : Bool) → p.in_facet f e ≡ b → AllIn p f es ⊎ ¬ AllIn p f es → AllIn p f (e ∷ es) ⊎ ¬ AllIn p f (e ∷ es)
      all_in_case f e es true h (inl all) = inl (h, all)
      all_in_case f e es true h (inr fails) = inr (λ a. fails a.1)
      all_in_case f e es false h later = inr (λ a. let clash : false ≡ true = sym h ∙ a.0 in cc)

  -- of the facets below a bound one has all the edges, or none has
  pub some_facet_or : (n : ℕ) (es : List ℕ) → ((f : ℕ) × (f < n) × AllIn p f es) ⊎ ((f : ℕ) → f < n → ¬ AllIn p f es)
  some_facet_or zero es = inr (λ f h. absurd (omega (arith, h)))
  some_facet_or (suc n) es = elim (all_in_or n es) [
    | inl all ↦ inl (n, omega arith, all)
    | inr fails ↦ (elim (some_facet_or n es) [
      | inl s ↦ inl (s.0, omega (arith, s.1), s.2)
      | inr none ↦ inr (λ f h a. elim (cases_eq f n) [
        | inl e ↦ fails (subst (λ (v : ℕ). AllIn p v es) e a)
        | inr apart ↦ none f (omega arith) a
      ])
    ])
  ]
