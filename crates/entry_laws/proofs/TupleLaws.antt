-- What the rule of bipolar edges and the rule off the facets say of the tuples of an entry.
use Rattle.std.proofs.Common.{◌≡◌, ℕ, ◌<◌, ◌≤◌, Bool, true, false, not, ◌&&◌, ◌||◌, ◌==◌, List, [], length, subst, sym, arith, inl, inr}
use Rattle.std.specs.List.{list_all, list_any}
use Rattle.std.proofs.lemmas.Bool.{and_parts, false≢true}
use Rattle.iso_model.specs.declared.Kind.{Kind}
use Rattle.lists.specs.Orders.{numbers, has, is_distinct}
use Rattle.iso_model.specs.Cells.{HasDimension, edge_count, facet_count, edge_in_facet, facets_with, label_count}
use Rattle.iso_model.specs.Bipolar.{is_bipolar_in}
use Rattle.iso_model.specs.Tables.{Table, IsTable, IsTuple, IsEntry, entry_of}
use Rattle.iso_model.specs.Acceptance.{is_sound_tuple, rule_edges, rule_inside}
use Rattle.iso_model.proofs.DimensionLaws.{dimension_cases}
use Rattle.entry_laws.proofs.KeptMembers.{all_from_each, each_from_all, some_member}
use Rattle.lists.specs.Members.{In, Each, Distinct}
use Rattle.lists.proofs.Tests.{equal_of}
use Rattle.lists.proofs.Contained.{each-from_All}
use Rattle.lists.proofs.MemberLaws.{Contains_from, from_any, In_of_has, Each-In, Each-from_In, In-numbers, all_In, In-filter}
use Rattle.lists.proofs.DistinctLists.{from_distinct_test}

-- a cell has two dimensions or more
pub two_or_more : (kind : Kind) (d : ℕ) → HasDimension kind d → 2 ≤ d
two_or_more kind d h = elim (dimension_cases kind d h) as (λ _. 2 ≤ d) [
  | inl e ↦ omega (arith, e)
  | inr (inl e) ↦ omega (arith, e)
  | inr (inr e) ↦ omega (arith, e)
]

-- a tuple of a table's entry has D numbers of edges
pub tuple_of : (t : Table) (label : ℕ) → IsTable t → label < label_count t.kind t.dimension → (w : List ℕ) → In w (entry_of t label)
    → IsTuple t.kind t.dimension w
tuple_of t label table less w i =
    let entry : IsEntry t.kind t.dimension (entry_of t label) = table.sound label [] (subst (λ (n : ℕ). label < n) (sym table.whole) less) in
    each-from_All (IsTuple t.kind t.dimension) (entry_of t label) entry.1 w (Contains_from (entry_of t label) w i)

-- ---- bipolar edges

-- a tuple has D different numbers, at least two, and all of them are bipolar edges
pub record IsSound (kind : Kind) (d label : ℕ) (w : List ℕ) : Type 0 where
  pub distinct : Distinct w
  pub wide : length w ≡ d
  pub long : 2 ≤ length w
  pub edges : Each (λ e. (e < edge_count kind d) × (is_bipolar_in kind d label e ≡ true)) w

-- by the rule of bipolar edges each tuple is so
pub sound_tuple : (kind : Kind) (d label : ℕ) (ws : List (List ℕ)) (w : List ℕ) → HasDimension kind d → rule_edges kind d label ws ≡ true → In w ws
    → IsTuple kind d w → IsSound kind d label w
sound_tuple kind d label ws w has rule i tuple =
    let parts = and_parts (list_all (is_sound_tuple kind d label) ws) _ rule in
    let sound = and_parts (length w == d && is_distinct w) (list_all (is_bipolar_in kind d label) w) (all_In (is_sound_tuple kind d label) ws parts.0 w i) in
    let bipolar = each_from_all (is_bipolar_in kind d label) w sound.1 in
    record {
      distinct = from_distinct_test w (and_parts (length w == d) (is_distinct w) sound.0).1;
      wide = tuple.0;
      long = let two = two_or_more kind d has in omega (arith, two, tuple.0);
      edges = Each-from_In (λ e. (e < edge_count kind d) × (is_bipolar_in kind d label e ≡ true)) w (λ e j.
          (each-from_All (λ x. x < edge_count kind d) w tuple.1 e (Contains_from w e j), Each-In (λ x. is_bipolar_in kind d label x ≡ true) w bipolar e j));
    }

-- and each bipolar edge stands in a tuple
pub edge_covered : (kind : Kind) (d label : ℕ) (ws : List (List ℕ)) (e : ℕ) → rule_edges kind d label ws ≡ true → e < edge_count kind d
    → is_bipolar_in kind d label e ≡ true
    → (w : List ℕ) × In w ws × In e w
edge_covered kind d label ws e rule less bipolar =
    let parts = and_parts (list_all (is_sound_tuple kind d label) ws) _ rule in
    let found =
    all_In (λ k. not (is_bipolar_in kind d label k) || list_any (λ w. has w k) ws) (numbers (edge_count kind d)) parts.1 e
    (In-numbers (edge_count kind d) e less) in
    let r = from_any (λ w. has w e) ws (second (is_bipolar_in kind d label e) (list_any (λ w. has w e) ws) bipolar found) in
    (r.0, r.1, In_of_has r.0 e r.2)
  where
    second : (a b : Bool) → a ≡ true → (not a || b) ≡ true → b ≡ true
    second true b p q = q
    second false b p q = absurd (false≢true p)

-- ---- facets

-- a facet that has all edges of a list
pub facet_found : (kind : Kind) (d f : ℕ) (es : List ℕ) → f < facet_count kind d → Each (λ e. edge_in_facet kind d f e ≡ true) es → In f (facets_with kind d es)
facet_found kind d f es less all =
    In-filter (λ g. list_all (edge_in_facet kind d g) es) (numbers (facet_count kind d)) f (In-numbers (facet_count kind d) f less)
    (all_from_each (edge_in_facet kind d f) es all)

-- by the rule off the facets no tuple has all its edges in one facet
pub tuple_off_facet : (kind : Kind) (d : ℕ) (ws : List (List ℕ)) (w : List ℕ) (f : ℕ) → rule_inside kind d ws ≡ true → In w ws → f < facet_count kind d
    → ¬ Each (λ e. edge_in_facet kind d f e ≡ true) w
tuple_off_facet kind d ws w f rule i less all =
    let none = equal_of (length (facets_with kind d w)) 0 (all_In (λ v. length (facets_with kind d v) == 0) ws rule w i) in
    let some = some_member f (facets_with kind d w) (facet_found kind d f w less all) in
    omega (arith, none, some)
