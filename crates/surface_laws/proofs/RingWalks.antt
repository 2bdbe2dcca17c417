-- What the ring tests say: what holds of a cell and goes over each step holds of all cells of the walk.
use Rattle.std.proofs.Common.{◌≡◌, ℕ, zero, suc, ◌<◌, Bool, true, not, ◌&&◌, List, [], ◌∷◌, refl, sym, subst, inl, inr}
use Rattle.std.specs.Prelude.{◌==◌, ◌||◌}
use Rattle.std.specs.List.{list_all, list_any}
use Rattle.iso_model.specs.declared.Kind.{Kind}
use Rattle.iso_model.specs.declared.Kind.TheVariants.{Cube, Simplex, Pyramid}
use Rattle.lists.specs.Orders.{numbers}
use Rattle.iso_model.specs.Cells.{edge_count, facet_count}
use Rattle.iso_model.specs.Splits.{cells_per_cube}
use Rattle.split_checks.specs.AcrossTests.{next_across, next_at}
use Rattle.split_checks.specs.RingTests.{AtEdge, at_edge, may_meet, way_on, step, walk, goes_well, walks_well, same_state, meets_each, three_apart}
use Rattle.split_checks.specs.RingTests.{ring, is_ring, rings_of}
use Rattle.split_checks.proofs.RingsFound.{cubes_ring, tetrahedra_ring, pyramids_ring}
use Rattle.lists.specs.Members.{In}
use Rattle.lists.proofs.Tests.{not_or, not_refused, equal_of, of_equal, and_left, and_right}
use Rattle.lists.proofs.MemberLaws.{all_below, from_any}
use Rattle.std.proofs.lemmas.Bool.{and_from}

-- the tests, at each edge of each rank
abbrev pub RingsPass : Kind → ℕ → Type 0
RingsPass kind d = (r n : ℕ) → r < cells_per_cube kind d → n < edge_count kind d → is_ring kind d (next_across kind d) (at_edge r n) ≡ true

pass_from : (kind : Kind) (d : ℕ) → list_all (rings_of kind d (next_across kind d)) (numbers (cells_per_cube kind d)) ≡ true → RingsPass kind d
pass_from kind d passed r n hr hn =
    all_below (edge_count kind d) (λ m. is_ring kind d (next_across kind d) (at_edge r m))
    (all_below (cells_per_cube kind d) (rings_of kind d (next_across kind d)) passed r hr) n hn

-- each kind passes them in three dimensions
pub rings_pass : (kind : Kind) (d : ℕ) → d ≡ 3 → RingsPass kind d
rings_pass kind d three = subst (RingsPass kind) (sym three) (by_kind kind)
  where
    by_kind : (k : Kind) → RingsPass k 3
    by_kind Cube = pass_from Cube 3 cubes_ring
    by_kind Simplex = pass_from Simplex 3 tetrahedra_ring
    by_kind Pyramid = pass_from Pyramid 3 pyramids_ring

-- ---- walks

module _ (kind : Kind) (d : ℕ) (next : List (List (ℕ × ℕ))) (P : AtEdge → Type 0)
    (goes : (s : AtEdge) (f : ℕ) → goes_well kind d s f (step kind d next s f) ≡ true → P s → P (step kind d next s f)) where
  -- what goes over each step holds along the walk
  pub walk_holds : (n g : ℕ) (s : AtEdge) → walks_well kind d next n g s ≡ true → P s → (t : AtEdge) → In t (walk kind d next n g s) → P t
  walk_holds zero g s h here t (inl e) = subst P (sym e) here
  walk_holds zero g s h here t (inr i) = absurd i
  walk_holds (suc n) g s h here t (inl e) = subst P (sym e) here
  walk_holds (suc n) g s h here t (inr i) =
      let f = way_on kind d s g in
      let first = goes_well kind d s f (step kind d next s f) in
      let later = walks_well kind d next n (next_at next s.rank f).1 (step kind d next s f) in
      walk_holds n (next_at next s.rank f).1 (step kind d next s f) (and_right first later h) (goes s f (and_left first later h) here) t i

-- ---- states

-- states that are the same have the same rank and the same number
pub same_parts : (r n q m : ℕ) (s : AtEdge) → at_edge r n ≡ s → same_state (at_edge q m) s ≡ true → (r ≡ q) × (n ≡ m)
same_parts r n q m s is h =
    let same : same_state (at_edge q m) (at_edge r n) ≡ true = subst (λ (x : AtEdge). same_state (at_edge q m) x ≡ true) (sym is) h in
    (sym (equal_of q r (and_left (q == r) (m == n) same)), sym (equal_of m n (and_right (q == r) (m == n) same)))

-- different states differ in one of them
pub parts_differ : (r n q m : ℕ) (s t : AtEdge) → at_edge r n ≡ s → at_edge q m ≡ t → not (same_state s t) ≡ true → r ≡ q → n ≡ m → ⊥
parts_differ r n q m s t is is' h rank number =
    let here : not (same_state (at_edge r n) t) ≡ true = subst (λ (x : AtEdge). not (same_state x t) ≡ true) (sym is) h in
    let there : not (same_state (at_edge r n) (at_edge q m)) ≡ true = subst (λ (x : AtEdge). not (same_state (at_edge r n) x) ≡ true) (sym is') here in
    not_refused (same_state (at_edge r n) (at_edge q m)) there (and_from (r == q) (n == m) (of_equal r q rank) (of_equal n m number))

-- two further states that differ from the first one and from each other
two_others : (a : AtEdge) (xs : List AtEdge) → three_apart (a ∷ xs) ≡ true →
    (b : AtEdge) × (c : AtEdge) × In b xs × In c xs × (not (same_state a b) ≡ true) × (not (same_state a c) ≡ true) × (not (same_state b c) ≡ true)
two_others a [] h = absurd (cc)
two_others a (b ∷ []) h = absurd (cc)
two_others a (b ∷ c ∷ rest) h = (
  b,
  c,
  inl refl,
  inr (inl refl),
  and_left (not (same_state a b)) (not (same_state a c)) (and_left (not (same_state a b) && not (same_state a c)) (not (same_state b c)) h),
  and_right (not (same_state a b)) (not (same_state a c)) (and_left (not (same_state a b) && not (same_state a c)) (not (same_state b c)) h),
  and_right (not (same_state a b) && not (same_state a c)) (not (same_state b c)) h,
)

-- ---- the parts of a test

module _ (kind : Kind) (d : ℕ) (next : List (List (ℕ × ℕ))) (s : AtEdge) (passed : is_ring kind d next s ≡ true) where
  abbrev walks : Bool
  walks = walks_well kind d next 7 (facet_count kind d) s

  abbrev each : Bool
  each = meets_each kind d s (ring kind d next s)

  abbrev apart : Bool
  apart = three_apart (ring kind d next s)

  pub ring_walks : walks_well kind d next 7 (facet_count kind d) s ≡ true
  ring_walks = and_left walks each (and_left (walks && each) apart passed)

  ring_apart : three_apart (ring kind d next s) ≡ true
  ring_apart = and_right (walks && each) apart passed

  -- a cell that may meet the first one at the edge is on the walk
  pub ring_has : (r n : ℕ) → r < cells_per_cube kind d → n < edge_count kind d → may_meet kind d s (at_edge r n) ≡ true →
      (t : AtEdge) × In t (ring kind d next s) × (same_state (at_edge r n) t ≡ true)
  ring_has r n hr hn meet =
      let row = all_below (cells_per_cube kind d)
      (λ q.
      list_all (λ m. not (may_meet kind d s (at_edge q m)) || list_any (same_state (at_edge q m)) (ring kind d next s))
      (numbers (edge_count kind d)))
      (and_right walks each (and_left (walks && each) apart passed)) r hr in
      let one =
      all_below (edge_count kind d) (λ m. not (may_meet kind d s (at_edge r m)) || list_any (same_state (at_edge r m)) (ring kind d next s)) row n
      hn in
      from_any (same_state (at_edge r n)) (ring kind d next s)
      (not_or (may_meet kind d s (at_edge r n)) (list_any (same_state (at_edge r n)) (ring kind d next s)) one meet)

  -- two cells on the walk differ from the first one and from each other
  pub ring_others :
      (b : AtEdge) × (c : AtEdge) × In b (ring kind d next s) × In c (ring kind d next s) × (not (same_state s b) ≡ true)
      × (not (same_state s c) ≡ true) × (not (same_state b c) ≡ true)
  ring_others =
      let f = way_on kind d s (facet_count kind d) in
      let r = two_others s (walk kind d next 6 (next_at next s.rank f).1 (step kind d next s f)) ring_apart in
      (r.0, r.1, inr r.2, inr r.3, r.4, r.5, r.6)
