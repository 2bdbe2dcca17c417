-- The ring law of the kept cells of a regular volume of three dimensions: where no facet at a vertex is free, the walk round its edge goes from kept
-- cell to kept cell.
use Rattle.std.proofs.Common.{◌≡◌, ℕ, ◌<◌, true, not, ◌&&◌, List, length, Option, Some, None, refl, ap, sym, ◌∙◌, subst, inl, inr}
use Rattle.std.specs.Prelude.{◌≢◌, ◌⊎◌, nat_lt}
use Rattle.std.proofs.lemmas.Bool.{ltb-true}
use Rattle.iso_model.specs.Cells.{edge_count, edge_in_facet, facet_count}
use Rattle.iso_model.specs.Splits.{edge, rank_of}
use Rattle.iso_model.specs.Values.{Volume, cells, IsRegularVolume}
use Rattle.iso_model.specs.Bipolar.{bipolar_edges, bipolar_edge}
use Rattle.iso_model.specs.Tables.{Table}
use Rattle.split_checks.specs.CubeShifts.{meets}
use Rattle.split_checks.specs.AcrossTests.{next_across}
use Rattle.split_laws.proofs.Placement.{below}
use Rattle.split_laws.proofs.Passed.{ends_are_corners}
use Rattle.glue_laws.proofs.Pieces.{Has}
use Rattle.volume_pieces.proofs.PiecesOf.{pieces_of, across_of}
use Rattle.volume_pieces.proofs.Edges.{own_edge, place_edge, has_at, bipolar_is}
use Rattle.volume_pieces.proofs.PiecesAcross.{across_meets, cell_and_facet}
use Rattle.volume_pieces.proofs.AcrossStands.{volume_dimension, fit_of, below_cells, meets_stands}
use Rattle.split_checks.specs.RingTests.{AtEdge, at_edge, first_end, second_end, ends_meet, move_over, step, goes_well, same_state, ring, is_ring}
use Rattle.surface_laws.proofs.RingWalks.{rings_pass, walk_holds, ring_walks, ring_has, ring_others, same_parts, parts_differ}
use Rattle.surface_laws.proofs.SameEdges.{may_meet_there, one_edge, one_cell}
use Rattle.link_laws.proofs.Arcs.{FacetHas, OnArc, stay, over_facet, arc_on}
use Rattle.link_laws.proofs.LinkLaw.{RingLaws}
use Rattle.lists.specs.Members.{In}
use Rattle.lists.proofs.Tests.{and_left, and_right}

pub none_or_some : (o : Option (ℕ × ℕ)) → (o ≡ None) ⊎ ((d : ℕ) × (g : ℕ) × (o ≡ Some (cell_and_facet d g)))
none_or_some None = inl refl
none_or_some (Some dg) = inr (dg.0, dg.1, refl)

module _ (v : Volume) (regular : IsRegularVolume v) (t : Table) where
  -- no facet at the vertex k is free on the arc of c
  abbrev IsClosedArc : ℕ → ℕ → Type 0
  IsClosedArc k c =
      (m : ℕ) → In m (cells v) → OnArc (pieces_of v t) k c m
      → ¬ ((f : ℕ) × (f < facet_count v.kind (length v.sizes)) × (across_of v m f ≡ None) × FacetHas (pieces_of v t) m f k)

  -- a kept cell on the arc of c has the edge of the vertex k in this way
  record Stood (k c : ℕ) (s : AtEdge) : Type 0 where
    pub cell : ℕ
    pub number : ℕ
    pub is_cell : In cell (cells v)
    pub on_arc : OnArc (pieces_of v t) k c cell
    pub is : at_edge (rank_of v.kind v.sizes cell) number ≡ s
    pub in_edges : number < edge_count v.kind (length v.sizes)
    pub has : edge v.kind v.sizes cell number ≡ bipolar_edge v k

  -- ---- a step of the walk

  module _ (k c m n f : ℕ) (hk : k < length (bipolar_edges v)) (is_cell : In m (cells v)) (hn : n < edge_count v.kind (length v.sizes))
      (has : edge v.kind v.sizes m n ≡ bipolar_edge v k) where
    abbrev s : AtEdge
    s = at_edge (rank_of v.kind v.sizes m) n

    abbrev after : AtEdge
    after = step v.kind (length v.sizes) (next_across v.kind (length v.sizes)) (at_edge (rank_of v.kind v.sizes m) n) f

    abbrev move : List ℕ
    move = move_over v.kind (length v.sizes) (at_edge (rank_of v.kind v.sizes m) n) f

    facet_has : edge_in_facet v.kind (length v.sizes) f n ≡ true → FacetHas (pieces_of v t) m f k
    facet_has in_f = let at = has_at v regular t m k n hk hn has in (n, at.0, in_f, at.1)

    goes_over : (e g : ℕ) → across_of v m f ≡ Some (cell_and_facet e g) → OnArc (pieces_of v t) k c m → f < facet_count v.kind (length v.sizes)
        → edge_in_facet v.kind (length v.sizes) f n ≡ true →
        after.edge < edge_count v.kind (length v.sizes) → ends_meet v.kind (length v.sizes) s move after ≡ true → Stood k c after
    goes_over e g is arc hf in_f ht meet =
        let found = across_meets v m f e g is in
        let there = meets_stands v regular m f is_cell hf e g found in
        let met : ends_meet v.kind (length v.sizes) s move (at_edge (rank_of v.kind v.sizes e) after.edge) ≡ true =
        subst (λ (r : ℕ). ends_meet v.kind (length v.sizes) s move (at_edge r after.edge) ≡ true) (sym there.rank) meet in
        let first = meets (first_end v.kind (length v.sizes) s) move (first_end v.kind (length v.sizes) (at_edge (rank_of v.kind v.sizes e) after.edge)) in
        let second = meets (second_end v.kind (length v.sizes) s) move (second_end v.kind (length v.sizes) (at_edge (rank_of v.kind v.sizes e) after.edge)) in
        record {
          cell = e;
          number = after.edge;
          is_cell = found.is_cell;
          on_arc = arc_on (pieces_of v t) k arc (over_facet f g hf is (facet_has in_f) stay);
          is = ap (λ (r : ℕ). at_edge r after.edge) there.rank;
          in_edges = ht;
          has =
              one_edge v.kind v.sizes (fit_of v regular) (ends_are_corners v.kind (length v.sizes) (volume_dimension v regular) regular.fits) m n e
              after.edge hn ht move there.moved (and_left first second met) (and_right first second met)
              ∙ has;
        }

    step_stands : IsClosedArc k c → OnArc (pieces_of v t) k c m → goes_well v.kind (length v.sizes) s f after ≡ true → Stood k c after
    step_stands closed arc h =
        let a = nat_lt f (facet_count v.kind (length v.sizes)) in
        let b = edge_in_facet v.kind (length v.sizes) f n in
        let x = nat_lt after.edge (edge_count v.kind (length v.sizes)) in
        let y = ends_meet v.kind (length v.sizes) s move after in
        let three = and_left (a && b && x) y h in
        let two = and_left (a && b) x three in
        let hf = ltb-true f (facet_count v.kind (length v.sizes)) (and_left a b two) in
        let in_f = and_right a b two in
        elim (none_or_some (across_of v m f)) [
          | inl none ↦ absurd (closed m is_cell arc (f, hf, none, facet_has in_f))
          | inr r ↦
              goes_over r.0 r.1 r.2 arc hf in_f (ltb-true after.edge (edge_count v.kind (length v.sizes)) (and_right (a && b) x three))
              (and_right (a && b && x) y h)
        ]

  -- ---- the whole walk

  goes : (k c : ℕ) → k < length (bipolar_edges v) → IsClosedArc k c → (s : AtEdge) (f : ℕ) →
      goes_well v.kind (length v.sizes) s f (step v.kind (length v.sizes) (next_across v.kind (length v.sizes)) s f) ≡ true → Stood k c s
      → Stood k c (step v.kind (length v.sizes) (next_across v.kind (length v.sizes)) s f)
  goes k c hk closed s f h stood =
      subst
      (λ (x : AtEdge).
      goes_well v.kind (length v.sizes) x f (step v.kind (length v.sizes) (next_across v.kind (length v.sizes)) x f) ≡ true
      → Stood k c (step v.kind (length v.sizes) (next_across v.kind (length v.sizes)) x f))
      stood.is
      (step_stands k c stood.cell stood.number f hk stood.is_cell stood.in_edges stood.has closed stood.on_arc) h

  -- the vertex of a cell, by its edge
  record AtVertex (k c : ℕ) : Type 0 where
    pub number : ℕ
    pub in_list : k < length (bipolar_edges v)
    pub in_edges : number < edge_count v.kind (length v.sizes)
    pub has : edge v.kind v.sizes c number ≡ bipolar_edge v k

  at_vertex : (k c : ℕ) → In c (cells v) → Has (pieces_of v t) c k → AtVertex k c
  at_vertex k c i has =
      let placed = place_edge v regular t c has.0 i has.1 in
      record {
        number = has.0;
        in_list = subst (λ (x : ℕ). x < length (bipolar_edges v)) has.2 placed.0;
        in_edges = (bipolar_is v regular t c has.0 has.1).0;
        has = sym placed.1 ∙ ap (bipolar_edge v) has.2;
      }

  module _ (three : length v.sizes ≡ 3) (k c : ℕ) (is_cell : In c (cells v)) (at : AtVertex k c) (closed : IsClosedArc k c) where
    abbrev start : AtEdge
    start = at_edge (rank_of v.kind v.sizes c) at.number

    passed : is_ring v.kind (length v.sizes) (next_across v.kind (length v.sizes)) start ≡ true
    passed = rings_pass v.kind (length v.sizes) three (rank_of v.kind v.sizes c) at.number (below v.kind v.sizes (fit_of v regular) c) at.in_edges

    abbrev at_start : Stood k c start
    at_start = record { cell = c; number = at.number; is_cell = is_cell; on_arc = stay; is = refl; in_edges = at.in_edges; has = at.has }

    -- each cell of the walk is a kept cell on the arc
    all_stand : (s : AtEdge) → In s (ring v.kind (length v.sizes) (next_across v.kind (length v.sizes)) start) → Stood k c s
    all_stand =
        walk_holds v.kind (length v.sizes) (next_across v.kind (length v.sizes)) (Stood k c) (goes k c at.in_list closed) 7
        (facet_count v.kind (length v.sizes)) start
        (ring_walks v.kind (length v.sizes) (next_across v.kind (length v.sizes)) start passed) at_start

    -- each kept cell at the vertex is on it
    arc_to : (d : ℕ) → In d (cells v) → AtVertex k d → OnArc (pieces_of v t) k c d
    arc_to d i there =
        let ends_in = ends_are_corners v.kind (length v.sizes) (volume_dimension v regular) regular.fits in
        let meet = may_meet_there v.kind v.sizes (fit_of v regular) ends_in c at.number d there.number at.in_edges there.in_edges (at.has ∙ sym there.has) in
        let met =
        ring_has v.kind (length v.sizes) (next_across v.kind (length v.sizes)) start passed (rank_of v.kind v.sizes d) there.number
        (below v.kind v.sizes (fit_of v regular) d) there.in_edges meet in
        let stood = all_stand met.0 met.1 in
        let same = same_parts (rank_of v.kind v.sizes stood.cell) stood.number (rank_of v.kind v.sizes d) there.number met.0 stood.is met.2 in
        let has : edge v.kind v.sizes stood.cell there.number ≡ bipolar_edge v k =
        subst (λ (n : ℕ). edge v.kind v.sizes stood.cell n ≡ bipolar_edge v k) same.1 stood.has in
        subst (OnArc (pieces_of v t) k c)
        (one_cell v.kind v.sizes (fit_of v regular) ends_in stood.cell d there.number (below_cells v regular stood.cell stood.is_cell)
        (below_cells v regular d i) same.0 (has ∙ sym there.has))
        stood.on_arc

    -- different states are those of different cells
    cells_differ : (a b : AtEdge) (x : Stood k c a) (y : Stood k c b) → not (same_state a b) ≡ true → x.cell ≢ y.cell
    cells_differ a b x y differ same =
        let rank : rank_of v.kind v.sizes x.cell ≡ rank_of v.kind v.sizes y.cell = ap (rank_of v.kind v.sizes) same in
        let has : edge v.kind v.sizes x.cell y.number ≡ bipolar_edge v k =
        subst (λ (z : ℕ). edge v.kind v.sizes z y.number ≡ bipolar_edge v k) (sym same) y.has in
        let number : x.number ≡ y.number = own_edge v.kind v.sizes regular.fits x.cell x.number y.number x.in_edges y.in_edges (x.has ∙ sym has) in
        parts_differ (rank_of v.kind v.sizes x.cell) x.number (rank_of v.kind v.sizes y.cell) y.number a b x.is y.is differ rank number

    has_vertex : (s : AtEdge) (x : Stood k c s) → Has (pieces_of v t) x.cell k
    has_vertex s x = let held = has_at v regular t x.cell k x.number at.in_list x.in_edges x.has in (x.number, held.0, held.1)

    -- two further cells
    two_more : (d : ℕ) × (e : ℕ) × In d (cells v) × In e (cells v) × Has (pieces_of v t) d k × Has (pieces_of v t) e k × (c ≢ d) × (c ≢ e) × (d ≢ e)
    two_more =
        let r = ring_others v.kind (length v.sizes) (next_across v.kind (length v.sizes)) start passed in
        let x = all_stand r.0 r.2 in
        let y = all_stand r.1 r.3 in (
          x.cell,
          y.cell,
          x.is_cell,
          y.is_cell,
          has_vertex r.0 x,
          has_vertex r.1 y,
          cells_differ start r.0 at_start x r.4,
          cells_differ start r.1 at_start y r.5,
          cells_differ r.0 r.1 x y r.6,
        )

  -- the ring law
  pub ring_laws : length v.sizes ≡ 3 → RingLaws (pieces_of v t)
  ring_laws three = record {
    one_ring = λ k c d i j has_c has_d closed. arc_to three k c i (at_vertex k c i has_c) closed d j (at_vertex k d j has_d);
    three_cells = λ k c i has closed. two_more three k c i (at_vertex k c i has) (λ m im arc. closed m im);
  }
