-- The two facets that have an edge, by the sets of their edges.
use Rattle.std.specs.Prelude.{◌≡◌, ◌<◌, ◌≤◌, ◌+◌, ◌-◌, ℕ, zero, suc, Bool, true, false, cond, List, [], ◌∷◌, filter, length, slice_index}
use Rattle.std.specs.List.{list_any, list_all, range_with_len}
use Rattle.std.proofs.Common.{refl, sym, ap, ◌∙◌, arith, inl, inr}
use Rattle.std.proofs.lemmas.Bool.{cases_eq}
use Rattle.iso_model.specs.declared.Kind.{Kind}
use Rattle.iso_model.specs.Cells.{edge_count, facet_count, edge_in_facet, facets_with}
use Rattle.lists.specs.Orders.{orders_of}
use Rattle.iso_model.specs.Acceptance.{others_at, leads, is_path}
use Rattle.edge_sets.specs.Sets.{SuitsFacets}
use Rattle.cell_lattice.specs.CellLemmas.{two_facets}
use Rattle.path_rule.specs.PathRule.{SuitsPair}
use Rattle.path_rule.proofs.Leads.{some_leads}
use Rattle.lists.specs.Bits.{is_set}
use Rattle.lists.proofs.Tests.{and_true}

-- ---- the first numbers that pass a test

-- numbers that fail are passed over
skipped : (p : ℕ → Bool) (a n j : ℕ) → a ≤ j → j ≤ a + n → ((i : ℕ) → a ≤ i → i < j → p i ≡ false)
    → filter p (range_with_len a n) ≡ filter p (range_with_len j (a + n - j))
skipped p a zero j low high none =
    let same : a ≡ j = omega arith in
    let zero_left : 0 ≡ a + 0 - j = omega arith in
    ap (λ (b : ℕ). filter p (range_with_len b 0)) same ∙ ap (λ (m : ℕ). filter p (range_with_len j m)) zero_left
skipped p a (suc n) j low high none = elim (cases_eq a j) as (λ _. filter p (range_with_len a (suc n)) ≡ filter p (range_with_len j (a + suc n - j))) [
  | inl same ↦
      let all_left : suc n ≡ a + suc n - j = omega arith in
      ap (λ (b : ℕ). filter p (range_with_len b (suc n))) same ∙ ap (λ (m : ℕ). filter p (range_with_len j m)) all_left
  | inr other ↦
      let fails : p a ≡ false = none a (omega arith) (omega arith) in
      let shift : a + 1 + n - j ≡ a + suc n - j = omega arith in
      ap (λ b. cond b (a ∷ filter p (range_with_len (a + 1) n)) (filter p (range_with_len (a + 1) n))) fails
      ∙ skipped p (a + 1) n j (omega arith) (omega arith) (λ i h k. none i (omega arith) k)
      ∙ ap (λ (m : ℕ). filter p (range_with_len j m)) shift
]

first_passes : (p : ℕ → Bool) (a n j : ℕ) → a ≤ j → j < a + n → ((i : ℕ) → a ≤ i → i < j → p i ≡ false) → p j ≡ true
    → filter p (range_with_len a n) ≡ j ∷ filter p (range_with_len (j + 1) (a + n - (j + 1)))
first_passes p a n j low high none here =
    let more : a + n - j ≡ suc (a + n - (j + 1)) = omega arith in
    let rest = filter p (range_with_len (j + 1) (a + n - (j + 1))) in
    skipped p a n j low (omega arith) none ∙ ap (λ (m : ℕ). filter p (range_with_len j m)) more ∙ ap (λ b. cond b (j ∷ rest) rest) here

none_pass : (p : ℕ → Bool) (a n : ℕ) → ((i : ℕ) → a ≤ i → i < a + n → p i ≡ false) → filter p (range_with_len a n) ≡ []
none_pass p a n none =
    let empty : a + n - (a + n) ≡ 0 = omega arith in
    skipped p a n (a + n) (omega arith) (omega arith) none ∙ ap (λ (m : ℕ). filter p (range_with_len (a + n) m)) empty

-- ---- the facets that have an edge

member_is : (kind : Kind) (e : ℕ) (facets : List ℕ) (ws : List (List ℕ)) → SuitsFacets kind 3 facets ws → e < edge_count kind 3 → (f : ℕ)
    → f < length facets → (b : Bool)
    → is_set (slice_index facets f) e ≡ b → list_all (edge_in_facet kind 3 f) (e ∷ []) ≡ b
member_is kind e facets ws s is_edge f inside b told = and_true (edge_in_facet kind 3 f e) ∙ sym (s.members f e (omega (arith, inside, s.count)) is_edge) ∙ told

lies_is : (kind : Kind) (e : ℕ) (facets : List ℕ) (ws : List (List ℕ)) → SuitsFacets kind 3 facets ws → e < edge_count kind 3 → (f : ℕ) → f < length facets
    → is_set (slice_index facets f) e ≡ true → edge_in_facet kind 3 f e ≡ true
lies_is kind e facets ws s is_edge f inside told = sym (s.members f e (omega (arith, inside, s.count)) is_edge) ∙ told

-- an edge lies in some facet
pub some_facet : (kind : Kind) (e : ℕ) (facets : List ℕ) (ws : List (List ℕ)) → SuitsFacets kind 3 facets ws → e < edge_count kind 3
    → ((i : ℕ) → 0 ≤ i → i < length facets → is_set (slice_index facets i) e ≡ false) → ⊥
some_facet kind e facets ws s is_edge none =
    let empty : facets_with kind 3 (e ∷ []) ≡ [] =
    none_pass (λ f. list_all (edge_in_facet kind 3 f) (e ∷ [])) 0 (facet_count kind 3) (λ i low high.
    let inside : i < length facets = omega (arith, high, s.count) in
    member_is kind e facets ws s is_edge i inside false (none i low inside)) in
    let two = two_facets kind 3 refl e is_edge in
    omega (arith, two, ap (λ (l : List ℕ). length l) empty)

-- what is told of the first facet that has an edge
pub record IsFirst (facets : List ℕ) (e from f : ℕ) : Type 0 where
  pub low : from ≤ f
  pub inside : f < length facets
  pub found : is_set (slice_index facets f) e ≡ true
  pub before : (i : ℕ) → from ≤ i → i < f → is_set (slice_index facets i) e ≡ false

facets_from : (kind : Kind) (e : ℕ) (facets : List ℕ) (ws : List (List ℕ)) → SuitsFacets kind 3 facets ws → e < edge_count kind 3 → (from n f : ℕ)
    → from + n ≡ length facets
    → IsFirst facets e from f
    → filter (λ g. list_all (edge_in_facet kind 3 g) (e ∷ [])) (range_with_len from n)
    ≡ f ∷ filter (λ g. list_all (edge_in_facet kind 3 g) (e ∷ [])) (range_with_len (f + 1) (from + n - (f + 1)))
facets_from kind e facets ws s is_edge from n f all first =
    let inside = first.inside in
    first_passes (λ g. list_all (edge_in_facet kind 3 g) (e ∷ [])) from n f first.low (omega (arith, all, inside))
    (λ i low high. member_is kind e facets ws s is_edge i (omega (arith, high, inside)) false (first.before i low high))
    (member_is kind e facets ws s is_edge f inside true first.found)

-- an edge lies in two facets
pub second_facet : (kind : Kind) (e f : ℕ) (facets : List ℕ) (ws : List (List ℕ)) → SuitsFacets kind 3 facets ws → e < edge_count kind 3 → IsFirst facets e 0 f
    → ((i : ℕ) → f + 1 ≤ i → i < length facets → is_set (slice_index facets i) e ≡ false) → ⊥
second_facet kind e f facets ws s is_edge first none =
    let p : ℕ → Bool = λ g. list_all (edge_in_facet kind 3 g) (e ∷ []) in
    let n = facet_count kind 3 in
    let inside = first.inside in
    let count = s.count in
    let one = facets_from kind e facets ws s is_edge 0 n f (omega (arith, count)) first in
    let rest : filter p (range_with_len (f + 1) (0 + n - (f + 1))) ≡ [] =
    none_pass p (f + 1) (0 + n - (f + 1)) (λ i low high.
    let there : i < length facets = omega (arith, high, count, inside) in
    member_is kind e facets ws s is_edge i there false (none i low there)) in
    let two = two_facets kind 3 refl e is_edge in
    let told : facets_with kind 3 (e ∷ []) ≡ f ∷ [] = one ∙ ap (λ (l : List ℕ). f ∷ l) rest in
    omega (arith, two, ap (λ (l : List ℕ). length l) told)

pub pair_suits : (kind : Kind) (e f g : ℕ) (facets : List ℕ) (ws : List (List ℕ)) → SuitsFacets kind 3 facets ws → e < edge_count kind 3
    → IsFirst facets e 0 f → IsFirst facets e (f + 1) g
    → SuitsPair kind f g (slice_index facets f) (slice_index facets g) e
pair_suits kind e f g facets ws s is_edge first second = record {
  first_is_facet = omega (arith, first.inside, s.count);
  first_has = lies_is kind e facets ws s is_edge f first.inside first.found;
  first_members = λ x h. s.members f x (omega (arith, first.inside, s.count)) h;
  second_has = lies_is kind e facets ws s is_edge g second.inside second.found;
  second_members = λ x h. s.members g x (omega (arith, second.inside, s.count)) h;
}

pub path_of_pair : (kind : Kind) (e f g : ℕ) (facets : List ℕ) (ws : List (List ℕ)) → SuitsFacets kind 3 facets ws → e < edge_count kind 3
    → IsFirst facets e 0 f → IsFirst facets e (f + 1) g
    → some_leads kind e f g ws ≡ is_path kind 3 e ws
path_of_pair kind e f g facets ws s is_edge first second =
    let p : ℕ → Bool = λ g. list_all (edge_in_facet kind 3 g) (e ∷ []) in
    let n = facet_count kind 3 in
    let inside = first.inside in
    let count = s.count in
    let one = facets_from kind e facets ws s is_edge 0 n f (omega (arith, count)) first in
    let two = facets_from kind e facets ws s is_edge (f + 1) (0 + n - (f + 1)) g (omega (arith, count, inside)) second in
    let rest : List ℕ = filter p (range_with_len (g + 1) (f + 1 + (0 + n - (f + 1)) - (g + 1))) in
    let told : f ∷ g ∷ rest ≡ facets_with kind 3 (e ∷ []) = sym (one ∙ ap (λ (l : List ℕ). f ∷ l) two) in
    ap (λ (l : List ℕ). list_any (leads kind 3 e (slice_index l 0) (slice_index l 1)) (orders_of (length (others_at e ws)) (others_at e ws))) told
