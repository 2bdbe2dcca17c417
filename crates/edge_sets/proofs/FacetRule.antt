-- The rule off the facets, by sets.
use Rattle.std.specs.Prelude.{◌≡◌, ℕ, suc, ◌+◌, ◌<◌, Bool, true, false, not, ◌||◌, ◌==◌, List, [], ◌∷◌, cond, filter, length, All}
use Rattle.std.specs.List.{list_all, list_any, range_with_len}
use Rattle.std.proofs.Common.{get_or, refl, sym, ap, ◌∙◌, subst, arith}
use Rattle.std.proofs.lemmas.List.Folds.{list_all_at}
use Rattle.std.proofs.lemmas.Bool.{ne_eqb, not_from_true}
use Rattle.iso_model.specs.declared.Kind.{Kind}
use Rattle.lists.specs.Orders.{numbers}
use Rattle.iso_model.specs.Cells.{edge_count, facet_count, edge_in_facet, facets_with}
use Rattle.iso_model.specs.Acceptance.{rule_inside}
use Rattle.edge_sets.specs.Sets.{SuitsFacets}
use Rattle.edge_sets.proofs.EdgeRule.{all_same}
use Rattle.lists.specs.Bits.{is_set}

-- nothing is filtered out of a list of which no member passes
none_passes : {X : Type 0} (p : X → Bool) (xs : List X) → (length (filter p xs) == 0) ≡ not (list_any p xs)
none_passes p [] = refl
none_passes {X} p (x ∷ xs) = by (p x) (none_passes p xs)
  where
    by : (b : Bool) → (length (filter p xs) == 0) ≡ not (list_any p xs) → (length (cond b (x ∷ filter p xs) (filter p xs)) == 0) ≡ not (b || list_any p xs)
    by true e = ne_eqb (suc (length (filter p xs))) 0 (λ h. omega arith)
    by false e = e

-- a test of the numbers of a list's places, and one of its members
any_places : (p q : ℕ → Bool) (a : ℕ) (xs : List ℕ) → ((k : ℕ) → k < length xs → p (a + k) ≡ q (get_or xs k 0))
    → list_any p (range_with_len a (length xs)) ≡ list_any q xs
any_places p q a [] h = refl
any_places p q a (x ∷ xs) h =
    let first : p a ≡ q x = subst (λ m. p m ≡ q x) (let e : a + 0 ≡ a = omega arith in e) (h 0 (omega arith)) in
    let others =
    any_places p q (a + 1) xs
    (λ k less. let e : a + suc k ≡ a + 1 + k = omega arith in subst (λ m. p m ≡ q (get_or xs k 0)) e (h (suc k) (omega arith))) in
    ap (λ b. b || list_any p (range_with_len (a + 1) (length xs))) first ∙ ap (λ b. q x || b) others

-- the facets in which a tuple lies
pub lies_same : (kind : Kind) (d : ℕ) (facets : List ℕ) (ws : List (List ℕ)) → SuitsFacets kind d facets ws → (w : List ℕ) → All (λ e. e < edge_count kind d) w
    → (length (facets_with kind d w) == 0) ≡ not (list_any (λ set. list_all (is_set set) w) facets)
lies_same kind d facets ws s w inside =
    let p : ℕ → Bool = λ f. list_all (edge_in_facet kind d f) w in
    let q : ℕ → Bool = λ set. list_all (is_set set) w in
    let same : list_any p (range_with_len 0 (length facets)) ≡ list_any q facets =
    any_places p q 0 facets
    (λ k h.
    let there : k < facet_count kind d = omega (arith, h, s.count) in
    let at : 0 + k ≡ k = omega arith in
    subst (λ f. p f ≡ q (get_or facets k 0)) (sym at)
    (all_same (edge_in_facet kind d k) (is_set (get_or facets k 0)) w (λ i n i_in. sym (s.members k (get_or w i n) there (inside i n i_in))))) in
    none_passes p (numbers (facet_count kind d)) ∙ ap (λ n. not (list_any p (range_with_len 0 n))) (sym s.count) ∙ ap not same

pub facet_rule : (kind : Kind) (d : ℕ) (facets : List ℕ) (ws : List (List ℕ)) → SuitsFacets kind d facets ws
    → rule_inside kind d ws ≡ list_all (λ w. not (list_any (λ set. list_all (is_set set) w) facets)) ws
facet_rule kind d facets ws s =
    all_same (λ w. length (facets_with kind d w) == 0) (λ w. not (list_any (λ set. list_all (is_set set) w) facets)) ws
    (λ k n h. lies_same kind d facets ws s (get_or ws k n) (s.tuples k n h).1)

pub facet_fails : (kind : Kind) (d : ℕ) (facets : List ℕ) (ws : List (List ℕ)) (i : ℕ) (w : List ℕ) → SuitsFacets kind d facets ws → i < length ws
    → w ≡ get_or ws i w
    → true ≡ list_any (λ set. list_all (is_set set) w) facets → false ≡ rule_inside kind d ws
facet_fails kind d facets ws i w s inside read lies =
    let test : List ℕ → Bool = λ v. not (list_any (λ set. list_all (is_set set) v) facets) in
    sym
    (facet_rule kind d facets ws s
    ∙ list_all_at test ws i w inside
    (subst (λ v. test v ≡ false) read (not_from_true (list_any (λ set. list_all (is_set set) w) facets) (sym lies))))
