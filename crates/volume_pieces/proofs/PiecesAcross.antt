-- What is found across a facet of a kept cell: another kept cell with a facet of the same points, where there is one.
use Rattle.std.proofs.Common.{◌≡◌, ℕ, ◌<◌, Bool, true, false, cond, not, ◌&&◌, List, [], ◌∷◌, length, Some, refl, ap, sym, ◌∙◌, subst, inl, inr}
use Rattle.std.specs.Prelude.{◌≢◌, ◌==◌, map, find}
use Rattle.std.proofs.lemmas.Bool.Decides.{nat_tests}
use Rattle.std.proofs.Common.{arith}
use Rattle.lists.specs.Orders.{numbers}
use Rattle.iso_model.specs.Cells.{facet_count}
use Rattle.iso_model.specs.Neighbours.{facet_points, SamePoints}
use Rattle.iso_model.specs.Values.{Volume, cells}
use Rattle.iso_model.specs.Boundary.{same_points}
use Rattle.iso_model.proofs.BoundaryLaws.{same_points-Decides}
use Rattle.volume_pieces.proofs.PiecesOf.{kept_facets, across_of}
use Rattle.lists.specs.Members.{In}
use Rattle.lists.proofs.MemberLaws.{In-numbers, from_In-numbers, In-map, from_In-map, In-flat_map, from_In-flat_map}
use Rattle.std.proofs.lemmas.Option.{same_Some}
use Rattle.lists.proofs.Tests.{and_left, and_right}
use Rattle.std.proofs.lemmas.Bool.{and_from}

-- ---- the first member that passes a test

find_some_case : {X : Type 0} (p : X → Bool) (x y : X) (xs : List X) → (find p xs ≡ Some y → In y xs × (p y ≡ true)) → (b : Bool) → p x ≡ b
    → cond b (Some x) (find p xs) ≡ Some y → In y (x ∷ xs) × (p y ≡ true)
find_some_case {X} p x y xs later true is e = let same : x ≡ y = same_Some x y e in (inl (sym same), subst (λ (z : X). p z ≡ true) same is)
find_some_case p x y xs later false is e = let r = later e in (inr r.0, r.1)

-- what is found is a member that passes
pub find_some : {X : Type 0} (p : X → Bool) (xs : List X) (y : X) → find p xs ≡ Some y → In y xs × (p y ≡ true)
find_some p [] y e = absurd (cc)
find_some p (x ∷ xs) y e = find_some_case p x y xs (find_some p xs y) (p x) refl e

find_only_case : {X : Type 0} (p : X → Bool) (x y : X) (xs : List X) → In y (x ∷ xs) → p y ≡ true → (p x ≡ true → x ≡ y)
    → (In y xs → find p xs ≡ Some y) → (b : Bool) → p x ≡ b → cond b (Some x) (find p xs) ≡ Some y
find_only_case p x y xs i h only later true is = ap Some (only is)
find_only_case {X} p x y xs (inl e) h only later false is = let clash : true ≡ false = sym h ∙ ap p e ∙ is in absurd (cc)
find_only_case p x y xs (inr i) h only later false is = later i

-- the only member that passes is found
pub find_only : {X : Type 0} (p : X → Bool) (xs : List X) (y : X) → In y xs → p y ≡ true → ((x : X) → In x xs → p x ≡ true → x ≡ y) → find p xs ≡ Some y
find_only p [] y i h only = absurd i
find_only p (x ∷ xs) y i h only = find_only_case p x y xs i h (only x (inl refl)) (λ j. find_only p xs y j h (λ z k. only z (inr k))) (p x) refl

-- ---- the facets of kept cells

abbrev pub cell_and_facet : ℕ → ℕ → ℕ × ℕ
cell_and_facet d g = (d, g)

module _ (v : Volume) where
  abbrev facet_limit : ℕ
  facet_limit = facet_count v.kind (length v.sizes)

  abbrev facets_of : ℕ → List (ℕ × ℕ)
  facets_of d = map (λ g. (d, g)) (numbers facet_limit)

  in_kept_facets : (d g : ℕ) → In d (cells v) → g < facet_limit → In (cell_and_facet d g) (kept_facets v)
  in_kept_facets d g i h =
      In-flat_map facets_of (cells v) d (cell_and_facet d g) i (In-map (cell_and_facet d) (numbers facet_limit) g (In-numbers facet_limit g h))

  from_kept_facets : (dg : ℕ × ℕ) → In dg (kept_facets v) → In dg.0 (cells v) × (dg.1 < facet_limit)
  from_kept_facets dg i =
      let d = from_In-flat_map facets_of (cells v) dg i in
      let g = from_In-map (cell_and_facet d.0) (numbers facet_limit) dg d.2 in (
        subst (λ (x : ℕ). In x (cells v)) (sym (ap (λ (p : ℕ × ℕ). p.0) g.2)) d.1,
        subst (λ (x : ℕ). x < facet_limit) (sym (ap (λ (p : ℕ × ℕ). p.1) g.2)) (from_In-numbers facet_limit g.0 g.1),
      )

-- facet g of another kept cell d has the points of facet f of c
pub record FacetsMeet (v : Volume) (c f d g : ℕ) : Type 0 where
  pub is_cell : In d (cells v)
  pub is_facet : g < facet_count v.kind (length v.sizes)
  pub differs : c ≢ d
  pub same : SamePoints (facet_points v.kind v.sizes c f) (facet_points v.kind v.sizes d g)

abbrev meets_test : Volume → ℕ → ℕ → ℕ × ℕ → Bool
meets_test v c f dg = not (dg.0 == c) && same_points (facet_points v.kind v.sizes c f) (facet_points v.kind v.sizes dg.0 dg.1)

other_cell : (a b : ℕ) → not (a == b) ≡ true → b ≢ a
other_cell a b h e = let same : (a == b) ≡ true = grind (arith, nat_tests, e) in absurd (cc)

is_other_cell : (a b : ℕ) → b ≢ a → not (a == b) ≡ true
is_other_cell a b n = grind (arith, nat_tests, n)

from_test : (v : Volume) (c f : ℕ) (dg : ℕ × ℕ) → In dg (kept_facets v) → meets_test v c f dg ≡ true → FacetsMeet v c f dg.0 dg.1
from_test v c f dg i h =
    let place = from_kept_facets v dg i in
    let a = not (dg.0 == c) in
    let b = same_points (facet_points v.kind v.sizes c f) (facet_points v.kind v.sizes dg.0 dg.1) in
    record {
      is_cell = place.0;
      is_facet = place.1;
      differs = other_cell dg.0 c (and_left a b h);
      same = (same_points-Decides (facet_points v.kind v.sizes c f) (facet_points v.kind v.sizes dg.0 dg.1)).0 (and_right a b h);
    }

-- what is found across a facet meets it
pub across_meets : (v : Volume) (c f d g : ℕ) → across_of v c f ≡ Some (d, g) → FacetsMeet v c f d g
across_meets v c f d g e =
    let found = find_some (meets_test v c f) (kept_facets v) (cell_and_facet d g) e in from_test v c f (cell_and_facet d g) found.0 found.1

-- the only facet that meets one is found
pub meets_across : (v : Volume) (c f d g : ℕ) → FacetsMeet v c f d g → ((e h : ℕ) → FacetsMeet v c f e h → (e ≡ d) × (h ≡ g)) → across_of v c f ≡ Some (d, g)
meets_across v c f d g m only =
    find_only (meets_test v c f) (kept_facets v) (cell_and_facet d g) (in_kept_facets v d g m.is_cell m.is_facet)
    (and_from (not (d == c)) (same_points (facet_points v.kind v.sizes c f) (facet_points v.kind v.sizes d g)) (is_other_cell d c m.differs)
    ((same_points-Decides (facet_points v.kind v.sizes c f) (facet_points v.kind v.sizes d g)).1 m.same))
    (λ dg i h. let s = only dg.0 dg.1 (from_test v c f dg i h) in pairs_equal dg (cell_and_facet d g) s.0 s.1)
  where
    pairs_equal : (x y : ℕ × ℕ) → x.0 ≡ y.0 → x.1 ≡ y.1 → x ≡ y
    pairs_equal x y e e' = λ i. (e i, e' i)

-- facets that meet, seen from the other one
pub meets_back : (v : Volume) (c f d g : ℕ) → In c (cells v) → f < facet_count v.kind (length v.sizes) → FacetsMeet v c f d g → FacetsMeet v d g c f
meets_back v c f d g is_cell is_facet m = record {
  is_cell = is_cell;
  is_facet = is_facet;
  differs = λ e. m.differs (sym e);
  same = λ p. ((m.same p).1, (m.same p).0);
}
