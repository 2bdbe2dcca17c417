-- A walk from spoke to spoke gives a walk from triangle to triangle: the numbers of its spokes' triangles in order are what the steps from the first
-- of them meet.
use Rattle.std.specs.Prelude.{◌≡◌, ◌+◌, ◌⊎◌, ℕ, zero, suc, List, [], ◌∷◌, length, Option, Some, None, slice_index_or, option_and_then, ⊤}
use Rattle.std.specs.List.{AllAdjacentBelow, last_or}
use Rattle.std.proofs.Common.{refl, ap, sym, ◌∙◌, subst, arith, inl, inr}
use Rattle.iso_model.specs.Walks.{next_at, next_after, triangles_at, walk_from, IsWalk}
use Rattle.iso_model.proofs.WalkLaws.{walk_from-fixed}
use Rattle.link_laws.proofs.Walks.{Chain, Walk, start_in}
use Rattle.link_laws.proofs.Links.{AreLinked, next, spokes}
use Rattle.link_laws.proofs.TrianglesAt.{number, triangles_have}
use Rattle.link_laws.proofs.TrianglesOnce.{next_number, next_nowhere, number_differs, of_spoke}
use Rattle.lists.specs.Members.{In, Distinct}
use Rattle.lists.proofs.MemberLaws.{Contains_from}
use Rattle.lists.proofs.Counts.{never_there, not_there}
use Rattle.lists.proofs.DistinctLists.{distinct_test}
use Rattle.std.proofs.lemmas.Option.{same_Some}
use Rattle.lists.proofs.Tests.{next_place}

-- ---- a list turned over, with the values of a function in place of its members

-- the values of f at the members of a list, the last member first, before others
abbrev pub turned_over : (ℕ → ℕ) → List ℕ → List ℕ → List ℕ
turned_over f [] others = others
turned_over f (x ∷ xs) others = turned_over f xs (f x ∷ others)

pub turned_over-length : (f : ℕ → ℕ) (xs others : List ℕ) → length (turned_over f xs others) ≡ length xs + length others
turned_over-length f [] others = omega arith
turned_over-length f (x ∷ xs) others = omega (arith, turned_over-length f xs (f x ∷ others))

turned_over-others : (f : ℕ → ℕ) (xs others : List ℕ) (t : ℕ) → In t others → In t (turned_over f xs others)
turned_over-others f [] others t i = i
turned_over-others f (x ∷ xs) others t i = turned_over-others f xs (f x ∷ others) t (inr i)

pub turned_over-has : (f : ℕ → ℕ) (xs others : List ℕ) (x : ℕ) → In x xs → In (f x) (turned_over f xs others)
turned_over-has f [] others x i = absurd i
turned_over-has f (y ∷ xs) others x (inl e) = turned_over-others f xs (f y ∷ others) (f x) (inl (ap f e))
turned_over-has f (y ∷ xs) others x (inr i) = turned_over-has f xs (f y ∷ others) x i

pub from_turned_over : (f : ℕ → ℕ) (xs others : List ℕ) (t : ℕ) → In t (turned_over f xs others) → ((x : ℕ) × In x xs × (t ≡ f x)) ⊎ In t others
from_turned_over f [] others t i = inr i
from_turned_over f (y ∷ xs) others t i = elim (from_turned_over f xs (f y ∷ others) t i) [
  | inl r ↦ inl (r.0, inr r.1, r.2)
  | inr (inl e) ↦ inl (y, inl refl, e)
  | inr (inr j) ↦ inr j
]

turned_over-last : (f : ℕ → ℕ) (xs : List ℕ) (t : ℕ) (others : List ℕ) → last_or None (turned_over f xs (t ∷ others)) ≡ last_or (Some t) others
turned_over-last f [] t others = refl
turned_over-last f (x ∷ xs) t others = turned_over-last f xs (f x) (t ∷ others)

turned_over-distinct : (f : ℕ → ℕ) (xs others : List ℕ) → Distinct xs → ((x y : ℕ) → In x xs → In y xs → f x ≡ f y → x ≡ y) → Distinct others
    → ((x : ℕ) → In x xs → In (f x) others → ⊥)
    → Distinct (turned_over f xs others)
turned_over-distinct f [] others d apart e new = e
turned_over-distinct f (x ∷ xs) others d apart e new =
    turned_over-distinct f xs (f x ∷ others) d.1 (λ y z i j s. apart y z (inr i) (inr j) s) (never_there (f x) others (new x (inl refl)), e)
    (λ y i j. elim j [
      | inl s ↦ not_there x xs d.0 (subst (λ (z : ℕ). In z xs) (apart y x (inr i) (inl refl) s) i)
      | inr o ↦ new y (inr i) o
    ])

-- ---- from triangle to triangle

-- from t through the others, one after another
abbrev pub Goes : List (List ℕ) → ℕ → ℕ → List ℕ → Type 0
Goes ts k t [] = ⊤
Goes ts k t (u ∷ others) = (next_at ts k t ≡ Some u) × Goes ts k u others

goes_on : (ts : List (List ℕ)) (k t : ℕ) (others : List ℕ) → Goes ts k t others
    → AllAdjacentBelow (λ u v. next_at ts k u ≡ Some v) (t ∷ others) (length (t ∷ others))
goes_on ts k t [] g i d h = absurd (omega (arith, h))
goes_on ts k t (u ∷ others) g zero d h = g.0
goes_on ts k t (u ∷ others) g (suc i) d h =
    subst (λ (n : ℕ). next_at ts k (slice_index_or (u ∷ others) i d) ≡ Some (slice_index_or (t ∷ u ∷ others) n d)) (next_place i)
    (goes_on ts k u others g.1 i d (omega (arith, h)))

module _ (ts : List (List ℕ)) (k : ℕ) (linked : AreLinked ts) where
  -- the triangle numbers of what a walk met, in order
  abbrev pub order_of : {s : ℕ} → Walk (next k ts) (spokes k ts) s → List ℕ
  order_of w = turned_over (number ts k) (w.newest ∷ w.earlier) []

  goes : (s y : ℕ) (w others : List ℕ) → Chain (next k ts) s (y ∷ w) → Goes ts k (number ts k y) others
      → (further : List ℕ) × (turned_over (number ts k) (y ∷ w) others ≡ number ts k s ∷ further) × Goes ts k (number ts k s) further
  goes s y [] others chain g = (others, ap (λ (x : ℕ). number ts k x ∷ others) chain, subst (λ (x : ℕ). Goes ts k (number ts k x) others) chain g)
  goes s y (x ∷ w) others chain g = goes s x w (number ts k y ∷ others) chain.1 (next_number ts k linked x y chain.0, g)

  module _ (s : ℕ) (w : Walk (next k ts) (spokes k ts) s) where
    -- the triangle to which the last one of the walk leads is that of its newest spoke
    pub after_order : next_after ts k (order_of w) ≡ next_at ts k (number ts k w.newest)
    after_order = ap (λ (o : Option ℕ). option_and_then (next_at ts k) o) (turned_over-last (number ts k) w.earlier (number ts k w.newest) [])

    pub order_length : length (order_of w) ≡ length (w.newest ∷ w.earlier)
    order_length = omega (arith, turned_over-length (number ts k) (w.newest ∷ w.earlier) [])

    -- the order has the triangles of the spokes that were met, and no others
    pub order_has : (x : ℕ) → In x (w.newest ∷ w.earlier) → In (number ts k x) (order_of w)
    order_has x i = turned_over-has (number ts k) (w.newest ∷ w.earlier) [] x i

    pub from_order : (t : ℕ) → In t (order_of w) → (x : ℕ) × In x (w.newest ∷ w.earlier) × (t ≡ number ts k x)
    from_order t i = elim (from_turned_over (number ts k) (w.newest ∷ w.earlier) [] t i) [ inl r ↦ r | inr n ↦ absurd n ]

    pub order_distinct : Distinct (order_of w)
    order_distinct =
        turned_over-distinct (number ts k) (w.newest ∷ w.earlier) [] w.distinct
        (λ x y i j e. number_differs ts k linked x y (w.inside x i) (w.inside y j) e) tt (λ x i n. n)

    order_ends : (u : ℕ) → next_after ts k (order_of w) ≡ Some u → In u (order_of w)
    order_ends u e = elim w.ends [
      | inl none ↦ (let stop = next_nowhere ts k linked w.newest (w.inside w.newest (inl refl)) none in absurd (clash (sym stop ∙ sym after_order ∙ e)))
      | inr back ↦ (let same : number ts k s ≡ u = same_Some (number ts k s) u (sym (next_number ts k linked w.newest s back) ∙ sym after_order ∙ e) in
          subst (λ (t : ℕ). In t (order_of w)) same (order_has s (start_in (next k ts) s w.newest w.earlier w.chain)))
    ]
      where
        clash : None ≡ Some u → ⊥
        clash h = cc

    -- they are a walk
    pub order_is_walk : IsWalk ts k (number ts k s) (order_of w)
    order_is_walk =
        let g = goes s w.newest w.earlier [] w.chain tt in
        record {
          begins = (g.0, g.1);
          goes_on = subst (λ (l : List ℕ). AllAdjacentBelow (λ u v. next_at ts k u ≡ Some v) l (length l)) (sym g.1) (goes_on ts k (number ts k s) g.0 g.2);
          once = distinct_test (order_of w) order_distinct;
          ends = λ u e. Contains_from (order_of w) u (order_ends u e);
        }

    -- so the steps from the triangle of the first spoke meet these triangles in this order
    pub walk_from_order : walk_from ts k (Some (number ts k s)) ≡ order_of w
    walk_from_order =
        let a = of_spoke ts k linked s (w.inside s (start_in (next k ts) s w.newest w.earlier w.chain)) in
        sym
        (walk_from-fixed ts k (number ts k s) (order_of w)
        (Contains_from (triangles_at ts k) (number ts k s) (triangles_have ts k (number ts k s) s a.0 a.1)) order_is_walk)
