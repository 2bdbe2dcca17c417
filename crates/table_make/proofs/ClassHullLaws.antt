-- The hulls that are known so far, with one more.
use Rattle.std.specs.Prelude.{◌≡◌, ◌⊎◌, ℕ, ◌+◌, ◌-◌, ◌<◌, List, [], ◌∷◌, ◌++◌, length, slice_index_or, slice_set, Option}
use Rattle.std.specs.Prelude.{None, Some}
use Rattle.std.proofs.Common.{refl, sym, ap, ◌∙◌, subst, arith, inl, inr, length-append}
use Rattle.std.proofs.lemmas.Bool.{cases_eq}
use Rattle.std.proofs.lemmas.List.{get_or_append_left, get_or-append_right, get_or-set_other, get_or-set_same}
use Rattle.iso_model.specs.declared.Kind.{Kind}
use Rattle.iso_model.specs.Entries.{label_points}
use Rattle.halfspace.specs.Choices.{AreFacetNumbers}
use Rattle.table_make.specs.ClassHulls.{KnowsHulls}

pub one_more_known : (kind : Kind) (d : ℕ) (places : List (Option ℕ)) (hulls more : List (List ℕ)) (label n : ℕ) (facets : List ℕ) → label < length places
    → KnowsHulls kind d places hulls
    → AreFacetNumbers d (label_points kind d label) facets → n ≡ length hulls → more ≡ hulls ++ facets ∷ []
    → KnowsHulls kind d (slice_set places label (Some n)) more
one_more_known kind d places hulls more label n facets inside knows are count e = record { each = λ m place at. by_place m place (cases_eq m label) at }
  where
    long : length more ≡ length hulls + 1
    long = ap length e ∙ length-append hulls (facets ∷ [])

    last : slice_index_or more n [] ≡ facets
    last =
        ap (λ (hs : List (List ℕ)). slice_index_or hs n []) e
        ∙ get_or-append_right hulls (facets ∷ []) (length hulls) n [] refl (omega arith)
        ∙ (let z : n - length hulls ≡ 0 = omega arith in ap (λ (k : ℕ). slice_index_or (facets ∷ []) k []) z)

    some_is : (a b : ℕ) → Some a ≡ Some b → a ≡ b
    some_is a b q = cc

    by_place : (m place : ℕ) → (m ≡ label) ⊎ (m ≡ label → ⊥) → slice_index_or (slice_set places label (Some n)) m None ≡ Some place
        → (place < length more) × AreFacetNumbers d (label_points kind d m) (slice_index_or more place [])
    by_place m place (inl s) at =
        let here : slice_index_or (slice_set places label (Some n)) label None ≡ Some n = get_or-set_same places label (Some n) None inside in
        let p : n ≡ place = some_is n place (sym here ∙ ap (λ (k : ℕ). slice_index_or (slice_set places label (Some n)) k None) (sym s) ∙ at) in (
          omega (arith, long, count, p),
          subst (λ (k : ℕ). AreFacetNumbers d (label_points kind d k) (slice_index_or more place [])) (sym s)
              (subst (λ (q : ℕ). AreFacetNumbers d (label_points kind d label) (slice_index_or more q [])) p
              (subst (AreFacetNumbers d (label_points kind d label)) (sym last) are)),
        )
    by_place m place (inr s) at =
        let k = knows.each m place (sym (get_or-set_other places label m (Some n) None s) ∙ at) in
        let same : slice_index_or more place [] ≡ slice_index_or hulls place [] =
        ap (λ (hs : List (List ℕ)). slice_index_or hs place []) e ∙ get_or_append_left hulls (facets ∷ []) [] place k.0 in
        (omega (arith, long, k.0), subst (AreFacetNumbers d (label_points kind d m)) (sym same) k.1)
