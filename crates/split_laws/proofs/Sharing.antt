-- The share law of a split, in a grid of any sizes, from the share tests.
use Rattle.std.proofs.Common.{◌≡◌, ℕ, ◌<◌, ◌≤◌, Bool, true, false, not, ◌&&◌, ◌||◌, List, [], ◌∷◌, length, refl, ap, sym, ◌∙◌, subst, arith, inl, inr}
use Rattle.std.specs.Prelude.{◌≢◌, ◌⊎◌, ◌==◌, slice_index_or, All, Contains, IsTrue, if◌then◌else◌}
use Rattle.std.specs.List.{list_all}
use Rattle.std.proofs.lemmas.Bool.{eqb-true, or_cases, and_from}
use Rattle.std.proofs.lemmas.List.Elements.{All-contains, All-nil}
use Rattle.iso_model.specs.declared.Kind.{Kind}
use Rattle.lists.specs.Orders.{numbers}
use Rattle.iso_model.specs.Points.{comes_first}
use Rattle.iso_model.specs.Cells.{corner_count, edge_count, edge_ends, facet_count, facet_corners, corner_in_facet, edge_in_facet, facets_with}
use Rattle.iso_model.specs.Splits.{cells_per_cube, corner_offset, cell_count, rank_of, corner, Edge, edge, edge_of_ends}
use Rattle.iso_model.specs.Neighbours.{facet_points, SamePoints, facet_offsets, LiesIn, HasEdge, AreShared, ShareLaw}
use Rattle.iso_model.specs.SplitLaws.{facets_over}
use Rattle.split_checks.specs.CubeShifts.{meets, move_to, stays, offsets, facet_of, same_places}
use Rattle.split_checks.specs.ShareTests.{is_common, common, lie_well, shares_at, shares_with, shares_of, all_offsets}
use Rattle.split_laws.proofs.Coordinates.{cell_fixed}
use Rattle.split_laws.proofs.Offsets.{OffsetsFit, of_facet}
use Rattle.split_laws.proofs.Placement.{facet_of_offsets, Moved, below, moved_by, meet_where_same, stands_there, same_points}
use Rattle.lists.proofs.Tests.{not_or, and_left, and_right}
use Rattle.lists.specs.Members.{In, Distinct}
use Rattle.lists.proofs.MemberLaws.{Contains_from, In-map, from_any, any_from, all_In, all_from, In-numbers, from_In-numbers, all_below, In-filter}
use Rattle.lists.proofs.MemberLaws.{from_filter, at_numbers, All-from_In}
use Rattle.lists.proofs.DistinctLists.{Distinct-range, Distinct-filter}
use Rattle.lists.proofs.Counts.{not_there}

-- corner k of the cell c is a corner of the cell e
abbrev pub IsShared : Kind → List ℕ → ℕ → ℕ → ℕ → Type 0
IsShared kind sizes c e k = (l : ℕ) × (l < corner_count kind (length sizes)) × (corner kind sizes c k ≡ corner kind sizes e l)

-- all corners that the cells share lie in the facet
abbrev pub HoldsShared : Kind → List ℕ → ℕ → ℕ → ℕ → Type 0
HoldsShared kind sizes c e f = (k : ℕ) → k < corner_count kind (length sizes) → IsShared kind sizes c e k → corner_in_facet kind f k ≡ true

-- the corners that two cells share lie in a facet; where it is the only one, the other cell has a facet of the same points
pub record ShareCorners (kind : Kind) (sizes : List ℕ) (c e : ℕ) : Type 0 where
  pub facet : ℕ
  pub is_facet : facet < facet_count kind (length sizes)
  pub holds : HoldsShared kind sizes c e facet
  pub across : (f : ℕ) → f < facet_count kind (length sizes) → ((g : ℕ) → g < facet_count kind (length sizes) → HoldsShared kind sizes c e g → g ≡ f) →
      (g : ℕ) × (g < facet_count kind (length sizes)) × SamePoints (facet_points kind sizes c f) (facet_points kind sizes e g)

-- the tests, at each rank
abbrev pub SharesPass : Kind → ℕ → Type 0
SharesPass kind d = (r : ℕ) → r < cells_per_cube kind d → shares_of kind d (all_offsets kind d) r ≡ true

module _ (kind : Kind) (sizes : List ℕ) (fit : OffsetsFit kind (length sizes)) (passed : SharesPass kind (length sizes)) where
  module _ (c e k l : ℕ) (hk : k < corner_count kind (length sizes)) (hl : l < corner_count kind (length sizes))
      (same : corner kind sizes c k ≡ corner kind sizes e l) where
    abbrev cell : List (List ℕ)
    cell = offsets kind (length sizes) (rank_of kind sizes c)

    abbrev other : List (List ℕ)
    other = offsets kind (length sizes) (rank_of kind sizes e)

    abbrev move : List ℕ
    move = move_to (corner_offset kind (length sizes) (rank_of kind sizes c) k) (corner_offset kind (length sizes) (rank_of kind sizes e) l)

    moved : Moved kind sizes c e move
    moved = moved_by kind sizes fit c e k l hk hl same

    abbrev shared : List ℕ
    shared = common kind (length sizes) cell move other

    at_ranks : shares_with kind (length sizes) (rank_of kind sizes c == rank_of kind sizes e) cell other ≡ true
    at_ranks =
        let row = all_below (cells_per_cube kind (length sizes))
        (λ r.
        shares_with kind (length sizes) (rank_of kind sizes c == r)
        (slice_index_or (all_offsets kind (length sizes)) (rank_of kind sizes c) [])
        (slice_index_or (all_offsets kind (length sizes)) r []))
        (passed (rank_of kind sizes c) (below kind sizes fit c)) (rank_of kind sizes e) (below kind sizes fit e) in
        subst (λ (x : List (List ℕ)). shares_with kind (length sizes) (rank_of kind sizes c == rank_of kind sizes e) x other ≡ true)
        (at_numbers (offsets kind (length sizes)) (cells_per_cube kind (length sizes)) (rank_of kind sizes c) [] (below kind sizes fit c))
        (subst
        (λ (y : List (List ℕ)).
        shares_with kind (length sizes) (rank_of kind sizes c == rank_of kind sizes e)
        (slice_index_or (all_offsets kind (length sizes)) (rank_of kind sizes c) []) y
        ≡ true)
        (at_numbers (offsets kind (length sizes)) (cells_per_cube kind (length sizes)) (rank_of kind sizes e) [] (below kind sizes fit e)) row)

    at_move : shares_at kind (length sizes) (rank_of kind sizes c == rank_of kind sizes e) cell other move ≡ true
    at_move =
        let mine =
        In-map (corner_offset kind (length sizes) (rank_of kind sizes c)) (numbers (corner_count kind (length sizes))) k
        (In-numbers (corner_count kind (length sizes)) k hk) in
        let theirs =
        In-map (corner_offset kind (length sizes) (rank_of kind sizes e)) (numbers (corner_count kind (length sizes))) l
        (In-numbers (corner_count kind (length sizes)) l hl) in
        let row =
        all_In
        (λ p.
        list_all
        (λ q.
        not (meets p (move_to p q) q)
        || shares_at kind (length sizes) (rank_of kind sizes c == rank_of kind sizes e) cell other (move_to p q))
        other)
        cell at_ranks (corner_offset kind (length sizes) (rank_of kind sizes c) k) mine in
        let tried =
        all_In
        (λ q.
        not
        (meets (corner_offset kind (length sizes) (rank_of kind sizes c) k)
        (move_to (corner_offset kind (length sizes) (rank_of kind sizes c) k) q) q)
        || shares_at kind (length sizes) (rank_of kind sizes c == rank_of kind sizes e) cell other
        (move_to (corner_offset kind (length sizes) (rank_of kind sizes c) k) q))
        other row (corner_offset kind (length sizes) (rank_of kind sizes e) l) theirs in
        not_or (meets (corner_offset kind (length sizes) (rank_of kind sizes c) k) move (corner_offset kind (length sizes) (rank_of kind sizes e) l))
        (shares_at kind (length sizes) (rank_of kind sizes c == rank_of kind sizes e) cell other move) tried
        (meet_where_same kind sizes fit c e move moved k l hk hl same)

    -- a corner that is shared is among the common ones
    among : (j : ℕ) → j < corner_count kind (length sizes) → IsShared kind sizes c e j → In j shared
    among j hj s =
        let there =
        In-map (corner_offset kind (length sizes) (rank_of kind sizes e)) (numbers (corner_count kind (length sizes))) s.0
        (In-numbers (corner_count kind (length sizes)) s.0 s.1) in
        let met = meet_where_same kind sizes fit c e move moved j s.0 hj s.1 s.2 in
        let test : is_common cell move other j ≡ true =
        rw (at_numbers (corner_offset kind (length sizes) (rank_of kind sizes c)) (corner_count kind (length sizes)) j [] hj)
        (any_from (λ q. meets (corner_offset kind (length sizes) (rank_of kind sizes c) j) move q) other
        (corner_offset kind (length sizes) (rank_of kind sizes e) s.0) there met) in
        In-filter (is_common cell move other) (numbers (corner_count kind (length sizes))) j (In-numbers (corner_count kind (length sizes)) j hj) test

    abbrev over : List ℕ
    over = facets_over kind (length sizes) shared

    over_holds : (f : ℕ) → In f over → (f < facet_count kind (length sizes)) × HoldsShared kind sizes c e f
    over_holds f i =
        let r = from_filter (λ g. list_all (corner_in_facet kind g) shared) (numbers (facet_count kind (length sizes))) f i in (
          from_In-numbers (facet_count kind (length sizes)) f r.0,
          λ j hj s. all_In (corner_in_facet kind f) shared r.1 j (among j hj s),
        )

    by_facets : (fs : List ℕ) → over ≡ fs → lie_well kind (length sizes) cell move other fs ≡ true → ShareCorners kind sizes c e
    by_facets [] is h = absurd (cc)
    by_facets (f ∷ []) is h =
        let f_in = over_holds f (subst (In f) (sym is) (inl refl)) in
        record {
          facet = f;
          is_facet = f_in.0;
          holds = f_in.1;
          across = λ f' hf' only.
              let same_facet : f ≡ f' = only f f_in.0 f_in.1 in
              let g =
              from_any (λ g'. same_places move (facet_of kind (length sizes) cell f) (facet_of kind (length sizes) other g'))
              (numbers (facet_count kind (length sizes))) h in
              let places : same_places move (facet_offsets kind (length sizes) (rank_of kind sizes c) f)
              (facet_offsets kind (length sizes) (rank_of kind sizes e) g.0)
              ≡ true =
              rw (← facet_of_offsets kind (length sizes) (rank_of kind sizes c) f, ← facet_of_offsets kind (length sizes) (rank_of kind sizes e) g.0) g.2 in (
                g.0,
                from_In-numbers (facet_count kind (length sizes)) g.0 g.1,
                subst (λ (x : ℕ). SamePoints (facet_points kind sizes c x) (facet_points kind sizes e g.0)) same_facet
                    (same_points kind sizes fit c e move moved f g.0 places),
              );
        }
    by_facets (f ∷ g ∷ fs) is h =
        let f_in = over_holds f (subst (In f) (sym is) (inl refl)) in
        let g_in = over_holds g (subst (In g) (sym is) (inr (inl refl))) in
        let apart =
        subst Distinct is
        (Distinct-filter (λ x. list_all (corner_in_facet kind x) shared) (numbers (facet_count kind (length sizes)))
        (Distinct-range 0 (facet_count kind (length sizes)))) in
        record {
          facet = f;
          is_facet = f_in.0;
          holds = f_in.1;
          across = λ f' hf' only. absurd (not_there f (g ∷ fs) apart.0 (inl (only f f_in.0 f_in.1 ∙ sym (only g g_in.0 g_in.1))));
        }

    same_cell : (rank_of kind sizes c == rank_of kind sizes e && stays move) ≡ true → c < cell_count kind sizes → e < cell_count kind sizes → c ≡ e
    same_cell h hc he =
        cell_fixed kind sizes c e hc he (stands_there kind sizes fit c e move moved (and_right (rank_of kind sizes c == rank_of kind sizes e) (stays move) h))
        (eqb-true (rank_of kind sizes c) (rank_of kind sizes e) (and_left (rank_of kind sizes c == rank_of kind sizes e) (stays move) h))

    pub share_corners : c < cell_count kind sizes → e < cell_count kind sizes → c ≢ e → ShareCorners kind sizes c e
    share_corners hc he differ = elim (or_cases (rank_of kind sizes c == rank_of kind sizes e && stays move)
        (lie_well kind (length sizes) cell move other over) at_move) [
          | inl home ↦ absurd (differ (same_cell home hc he))
          | inr well ↦ by_facets over refl well
        ]

-- ---- edges

abbrev ends_in_order : List ℕ → List ℕ → Edge
ends_in_order p q = record { low = p; high = q }

-- the two ends of an edge, in either order
ends_case : (p q : List ℕ) (x : Edge) (b : Bool) → (if b then ends_in_order p q else ends_in_order q p) ≡ x
    → ((p ≡ x.low) × (q ≡ x.high)) ⊎ ((q ≡ x.low) × (p ≡ x.high))
ends_case p q x true e = inl (ap (λ (y : Edge). y.low) e, ap (λ (y : Edge). y.high) e)
ends_case p q x false e = inr (ap (λ (y : Edge). y.low) e, ap (λ (y : Edge). y.high) e)

pub edge_has_ends : (p q : List ℕ) (x : Edge) → edge_of_ends p q ≡ x → ((p ≡ x.low) × (q ≡ x.high)) ⊎ ((q ≡ x.low) × (p ≡ x.high))
edge_has_ends p q x e = ends_case p q x (comes_first p q) e

-- an end of an edge is an end of it, however its ends are written
one_end : (a low high p q : List ℕ) → (a ≡ low) ⊎ (a ≡ high) → ((p ≡ low) × (q ≡ high)) ⊎ ((q ≡ low) × (p ≡ high)) → (a ≡ p) ⊎ (a ≡ q)
one_end a low high p q (inl e) (inl o) = inl (e ∙ sym o.0)
one_end a low high p q (inl e) (inr o) = inr (e ∙ sym o.0)
one_end a low high p q (inr e) (inl o) = inr (e ∙ sym o.1)
one_end a low high p q (inr e) (inr o) = inl (e ∙ sym o.1)

first_end : (p q low high : List ℕ) → ((p ≡ low) × (q ≡ high)) ⊎ ((q ≡ low) × (p ≡ high)) → (p ≡ low) ⊎ (p ≡ high)
first_end p q low high (inl o) = inl o.0
first_end p q low high (inr o) = inr o.1

second_end : (p q low high : List ℕ) → ((p ≡ low) × (q ≡ high)) ⊎ ((q ≡ low) × (p ≡ high)) → (q ≡ low) ⊎ (q ≡ high)
second_end p q low high (inl o) = inr o.1
second_end p q low high (inr o) = inl o.0

-- the ends of each edge are corners
abbrev pub EndsAreCorners : Kind → ℕ → Type 0
EndsAreCorners kind d = (n : ℕ) → n < edge_count kind d → ((edge_ends kind d n).0 < corner_count kind d) × ((edge_ends kind d n).1 < corner_count kind d)

module _ (kind : Kind) (sizes : List ℕ) (ends_in : EndsAreCorners kind (length sizes)) where
  -- the two ends of edge n of a cell
  pub ends_of_edge : (c n : ℕ) (x : Edge) → edge kind sizes c n ≡ x →
      ((corner kind sizes c (edge_ends kind (length sizes) n).0 ≡ x.low) × (corner kind sizes c (edge_ends kind (length sizes) n).1 ≡ x.high))
      ⊎ ((corner kind sizes c (edge_ends kind (length sizes) n).1 ≡ x.low) × (corner kind sizes c (edge_ends kind (length sizes) n).0 ≡ x.high))
  ends_of_edge c n x e = edge_has_ends (corner kind sizes c (edge_ends kind (length sizes) n).0) (corner kind sizes c (edge_ends kind (length sizes) n).1) x e

  shared_from : (c e k m : ℕ) → m < edge_count kind (length sizes)
      → (corner kind sizes c k ≡ corner kind sizes e (edge_ends kind (length sizes) m).0)
      ⊎ (corner kind sizes c k ≡ corner kind sizes e (edge_ends kind (length sizes) m).1)
      → IsShared kind sizes c e k
  shared_from c e k m hm (inl s) = ((edge_ends kind (length sizes) m).0, (ends_in m hm).0, s)
  shared_from c e k m hm (inr s) = ((edge_ends kind (length sizes) m).1, (ends_in m hm).1, s)

  module _ (c e n : ℕ) (has : HasEdge kind sizes e (edge kind sizes c n)) where
    abbrev x : Edge
    x = edge kind sizes c n

    pub first_shared : IsShared kind sizes c e (edge_ends kind (length sizes) n).0
    first_shared =
        let mine = ends_of_edge c n x refl in
        let theirs = ends_of_edge e has.0 x has.2 in
        shared_from c e (edge_ends kind (length sizes) n).0 has.0 has.1
        (one_end (corner kind sizes c (edge_ends kind (length sizes) n).0) x.low x.high
        (corner kind sizes e (edge_ends kind (length sizes) has.0).0) (corner kind sizes e (edge_ends kind (length sizes) has.0).1)
        (first_end (corner kind sizes c (edge_ends kind (length sizes) n).0) (corner kind sizes c (edge_ends kind (length sizes) n).1) x.low x.high
        mine) theirs)

    pub second_shared : IsShared kind sizes c e (edge_ends kind (length sizes) n).1
    second_shared =
        let mine = ends_of_edge c n x refl in
        let theirs = ends_of_edge e has.0 x has.2 in
        shared_from c e (edge_ends kind (length sizes) n).1 has.0 has.1
        (one_end (corner kind sizes c (edge_ends kind (length sizes) n).1) x.low x.high
        (corner kind sizes e (edge_ends kind (length sizes) has.0).0) (corner kind sizes e (edge_ends kind (length sizes) has.0).1)
        (second_end (corner kind sizes c (edge_ends kind (length sizes) n).0) (corner kind sizes c (edge_ends kind (length sizes) n).1) x.low x.high
        mine) theirs)

    -- where all shared corners of e lie in its facet g, the edge lies there
    pub lies_there : (g : ℕ) → HoldsShared kind sizes e c g → n < edge_count kind (length sizes) → LiesIn (edge kind sizes c n) (facet_points kind sizes e g)
    lies_there g holds hn = elim (ends_of_edge c n x refl) [
      | inl o ↦ (
        contained (edge_ends kind (length sizes) n).0 (ends_in n hn).0 first_shared x.low o.0,
        contained (edge_ends kind (length sizes) n).1 (ends_in n hn).1 second_shared x.high o.1,
      )
      | inr o ↦ (
        contained (edge_ends kind (length sizes) n).1 (ends_in n hn).1 second_shared x.low o.0,
        contained (edge_ends kind (length sizes) n).0 (ends_in n hn).0 first_shared x.high o.1,
      )
    ]
      where
        contained : (k : ℕ) → k < corner_count kind (length sizes) → IsShared kind sizes c e k → (p : List ℕ) → corner kind sizes c k ≡ p
            → Contains (facet_points kind sizes e g) p
        contained k hk s p is =
            let in_g = of_facet kind (length sizes) g s.0 s.1 (holds s.0 s.1 (k, hk, sym s.2)) in
            Contains_from (facet_points kind sizes e g) p
            (subst (λ (y : List ℕ). In y (facet_points kind sizes e g)) (sym s.2 ∙ is)
            (In-map (corner kind sizes e) (facet_corners kind (length sizes) g) s.0 in_g))

  -- an edge with and_from ends in the facet
  pub in_facet_of : (c e n f : ℕ) → HoldsShared kind sizes c e f → n < edge_count kind (length sizes) → HasEdge kind sizes e (edge kind sizes c n)
      → edge_in_facet kind (length sizes) f n ≡ true
  in_facet_of c e n f holds hn has =
      and_from (corner_in_facet kind f (edge_ends kind (length sizes) n).0) (corner_in_facet kind f (edge_ends kind (length sizes) n).1)
      (holds (edge_ends kind (length sizes) n).0 (ends_in n hn).0 (first_shared c e n has))
      (holds (edge_ends kind (length sizes) n).1 (ends_in n hn).1 (second_shared c e n has))

abbrev pub SharedEdge : Kind → List ℕ → ℕ → ℕ → ℕ → Type 0
SharedEdge kind sizes c e n = (n < edge_count kind (length sizes)) × HasEdge kind sizes e (edge kind sizes c n)

member : {X : Type 0} (P : X → Type 0) (xs : List X) → All P xs → (x : X) → In x xs → P x
member P xs all x i = All-contains P xs x all (Contains_from xs x i)

module _ (kind : Kind) (sizes : List ℕ) (fit : OffsetsFit kind (length sizes)) (passed : SharesPass kind (length sizes))
    (ends_in : EndsAreCorners kind (length sizes)) (two : 2 ≤ facet_count kind (length sizes)) where
  by_corners : (c e : ℕ) (es : List ℕ) → e < cell_count kind sizes → c ≢ e → All (SharedEdge kind sizes c e) es → ShareCorners kind sizes c e
      → ShareCorners kind sizes e c → AreShared kind sizes c e es
  by_corners c e es he differ all mine theirs = record {
    here = (
      mine.facet,
      mine.is_facet,
      All-from_In (λ n. IsTrue (edge_in_facet kind (length sizes) mine.facet n)) es
          (λ n i. let s = member (SharedEdge kind sizes c e) es all n i in in_facet_of kind sizes ends_in c e n mine.facet mine.holds s.0 s.1),
    );
    there = (
      theirs.facet,
      theirs.is_facet,
      All-from_In (λ n. LiesIn (edge kind sizes c n) (facet_points kind sizes e theirs.facet)) es
          (λ n i. let s = member (SharedEdge kind sizes c e) es all n i in lies_there kind sizes ends_in c e n s.1 theirs.facet theirs.holds s.0),
    );
    across = λ f only. (he, λ same. differ (sym same), stands f only);
  }
    where
      all_in : (g : ℕ) → HoldsShared kind sizes c e g → list_all (edge_in_facet kind (length sizes) g) es ≡ true
      all_in g holds =
          all_from (edge_in_facet kind (length sizes) g) es
          (λ n i. let s = member (SharedEdge kind sizes c e) es all n i in in_facet_of kind sizes ends_in c e n g holds s.0 s.1)

      listed : (g : ℕ) → g < facet_count kind (length sizes) → HoldsShared kind sizes c e g → In g (facets_with kind (length sizes) es)
      listed g hg holds =
          In-filter (λ f. list_all (edge_in_facet kind (length sizes) f) es) (numbers (facet_count kind (length sizes))) g
          (In-numbers (facet_count kind (length sizes)) g hg) (all_in g holds)

      the_one : (g f : ℕ) → In g (f ∷ []) → g ≡ f
      the_one g f (inl s) = s
      the_one g f (inr i) = absurd i

      stands : (f : ℕ) → facets_with kind (length sizes) es ≡ f ∷ []
          → (g : ℕ) × (g < facet_count kind (length sizes)) × SamePoints (facet_points kind sizes c f) (facet_points kind sizes e g)
      stands f only =
          let r =
          from_filter (λ g. list_all (edge_in_facet kind (length sizes) g) es) (numbers (facet_count kind (length sizes))) f
          (subst (In f) (sym only) (inl refl)) in
          mine.across f (from_In-numbers (facet_count kind (length sizes)) f r.0) (λ g hg holds. the_one g f (subst (In g) only (listed g hg holds)))

  -- no edge is in all facets, of which there are two
  of_none : (c e : ℕ) → AreShared kind sizes c e []
  of_none c e = record {
    here = (0, omega (arith, two), All-nil (λ n. IsTrue (edge_in_facet kind (length sizes) 0 n)));
    there = (0, omega (arith, two), All-nil (λ n. LiesIn (edge kind sizes c n) (facet_points kind sizes e 0)));
    across = λ f only. absurd (let zeroth = place 0 f only (omega (arith, two)) in let other = place 1 f only two in omega (arith, zeroth, other));
  }
    where
      one_of : (g f : ℕ) → In g (f ∷ []) → g ≡ f
      one_of g f (inl s) = s
      one_of g f (inr i) = absurd i

      place : (g f : ℕ) → facets_with kind (length sizes) [] ≡ f ∷ [] → g < facet_count kind (length sizes) → g ≡ f
      place g f only hg =
          one_of g f
          (subst (In g) only
          (In-filter (λ f'. list_all (edge_in_facet kind (length sizes) f') []) (numbers (facet_count kind (length sizes))) g
          (In-numbers (facet_count kind (length sizes)) g hg) refl))

  -- the share law of the grid
  pub share_law : (c e : ℕ) (es : List ℕ) → ShareLaw kind sizes c e es
  share_law c e [] hc he differ all = of_none c e
  share_law c e (n ∷ es) hc he differ all =
      let s = member (SharedEdge kind sizes c e) (n ∷ es) all n (inl refl) in
      let k = (edge_ends kind (length sizes) n).0 in
      let hk = (ends_in n s.0).0 in
      let l = first_shared kind sizes ends_in c e n s.1 in
      by_corners c e (n ∷ es) he differ all
      (share_corners kind sizes fit passed c e k l.0 hk l.1 l.2 hc he differ)
      (share_corners kind sizes fit passed e c l.0 k l.1 hk (sym l.2) he hc (λ same. differ (sym same)))
