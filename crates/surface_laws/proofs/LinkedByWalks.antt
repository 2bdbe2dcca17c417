-- Where each cell of a regular volume of three dimensions is kept, placed triangles that are linked arc by arc are linked by walks.
use Rattle.std.proofs.Common.{◌≡◌, ℕ, ◌<◌, ◌≤◌, true, false, List, [], ◌∷◌, length, Option, Some, None, refl, ap, sym, ◌∙◌, subst, arith, inl, inr}
use Rattle.std.specs.Prelude.{◌↔◌, ◌==◌, nat_eq, find, slice_index_or, Contains}
use Rattle.std.specs.Option.{option_map_or, option_or}
use Rattle.iso_model.specs.Cells.{HasDimension}
use Rattle.iso_model.specs.Splits.{Edge}
use Rattle.iso_model.specs.Neighbours.{HasEdge, OnOuterBoundary}
use Rattle.iso_model.specs.Boundary.{LieInFreeFacet, KeepsAll, is_free_facet_over}
use Rattle.iso_model.specs.Values.{Volume, IsRegularVolume, cells}
use Rattle.iso_model.specs.Bipolar.{bipolar_edges, bipolar_edge}
use Rattle.iso_model.specs.Walks.{walk, walk_from, triangles_at, is_start, next_after, first_triangle, comes_back}
use Rattle.iso_model.specs.Surface.{IsCellAt, IsPlaced}
use Rattle.iso_model.specs.Links.{IsPath, IsLinked, StandsOnArc, ArcsAreWalks}
use Rattle.iso_model.specs.Tables.{Table}
use Rattle.iso_model.proofs.BoundaryLaws.{is_free_facet_over-Decides}
use Rattle.iso_model.proofs.WalkLaws.{length-distinct-le, walk_from-is}
use Rattle.volume_pieces.proofs.PiecesAcross.{find_only}
use Rattle.volume_pieces.proofs.AcrossStands.{below_cells}
use Rattle.link_laws.proofs.Readings.{from_turned, reading_has}
use Rattle.link_laws.proofs.TrianglesAt.{triangles_read, triangles_distinct}
use Rattle.surface_laws.proofs.LinkedArcs.{kept_cell}
use Rattle.surface_laws.proofs.OuterEdges.{boundary_is_outer}
use Rattle.surface_laws.proofs.OneArc.{one_arc}
use Rattle.lists.specs.Members.{In}
use Rattle.lists.proofs.Tests.{of_equal}
use Rattle.lists.proofs.Contained.{Contains-at, All-from_each, each-from_All}
use Rattle.lists.proofs.MemberLaws.{Contains_from, In_from}
use Rattle.lists.proofs.DistinctLists.{distinct_test}
use Rattle.std.proofs.lemmas.Bool.{cases_Bool}
use Rattle.link_laws.proofs.TrianglesLinked.{closed_from, whole_from}

-- ---- the walk along one path

-- a walk that ends does not come back
stays_open : (ts : List (List ℕ)) (k : ℕ) (order : List ℕ) → next_after ts k order ≡ None → comes_back ts k order ≡ false
stays_open ts k [] none = refl
stays_open ts k (t ∷ further) none = ap (λ (o : Option ℕ). option_map_or (nat_eq t) o false) none

-- where all triangles at a vertex form one path, the walk meets each of them, and ends
walk_of_path : (v : Volume) (ts : List (List ℕ)) (k c : ℕ) → IsPath v ts k c → ((x : ℕ) → Contains (triangles_at ts k) x → StandsOnArc v ts k c x)
    → ((walk ts k).whole ≡ true) × ((walk ts k).closed ≡ false)
walk_of_path v ts k c path all = (
  whole_from ts k ∙ ap (λ (l : List ℕ). length l == length (triangles_at ts k)) order
      ∙ of_equal (length along) (length (triangles_at ts k)) (omega (arith, most, least)),
  closed_from ts k ∙ ap (comes_back ts k) order ∙ stays_open ts k along path.ends,
)
  where
    along : List ℕ
    along = walk_from ts k (Some path.start)

    found : find (is_start ts k) (triangles_at ts k) ≡ Some path.start
    found =
        find_only (is_start ts k) (triangles_at ts k) path.start (In_from (triangles_at ts k) path.start path.stands.0) path.starts
        (λ x i e. path.only x e (all x (Contains_from (triangles_at ts k) x i)))

    order : walk_from ts k (first_triangle ts k) ≡ walk_from ts k (Some path.start)
    order = ap (λ (o : Option ℕ). walk_from ts k (option_or o (find (λ t. true) (triangles_at ts k)))) found

    most : length (walk_from ts k (Some path.start)) ≤ length (triangles_at ts k)
    most =
        length-distinct-le (walk_from ts k (Some path.start)) (triangles_at ts k) (walk_from-is ts k path.start path.stands.0).once
        (λ z m. ((path.meets z).0 m).0)

    least : length (triangles_at ts k) ≤ length (walk_from ts k (Some path.start))
    least =
        length-distinct-le (triangles_at ts k) (walk_from ts k (Some path.start)) (distinct_test (triangles_at ts k) (triangles_distinct ts k))
        (λ z m. (path.meets z).1 (all z m))

-- ---- at a vertex

-- the walk there meets each triangle once, and closes, over at least three, exactly off the outer boundary
record WalksAt (v : Volume) (ts : List (List ℕ)) (k : ℕ) : Type 0 where
  whole : (walk ts k).whole ≡ true
  closes : ((walk ts k).closed ≡ true) ↔ ¬ OnOuterBoundary v.sizes ((bipolar_edge v k).low ∷ (bipolar_edge v k).high ∷ [])
  three : (walk ts k).closed ≡ true → 3 ≤ length (walk ts k).order

module _ (v : Volume) (regular : IsRegularVolume v) (t : Table) (ts : List (List ℕ)) (fits : HasDimension v.kind (length v.sizes))
    (three : length v.sizes ≡ 3) (all : KeepsAll v) (placed : IsPlaced v ts) (linked : IsLinked v ts) where
  module _ (k : ℕ) (hk : k < length (bipolar_edges v)) where
    -- each triangle at the vertex stands on the arc of each cell there
    on_arc : (c : ℕ) → IsCellAt v (bipolar_edge v k) c → (x : ℕ) → Contains (triangles_at ts k) x → StandsOnArc v ts k c x
    on_arc c here x m =
        let r = triangles_read ts k x (In_from (triangles_at ts k) x m) in
        let w = slice_index_or ts x [] in
        let home = placed.one_cell w (Contains-at ts x [] r.2.0) in
        let has_k = (reading_has k r.0 r.1 (from_turned k r.0 r.1 w r.2.1)).0 in
        let at_edge = each-from_All (λ u. HasEdge v.kind v.sizes home.0 (bipolar_edge v u)) w home.1.1 k (Contains_from w k has_k) in
        (m, (home.0, home.1, one_arc v regular t three all k c home.0 hk here (home.1.0, at_edge)))

    -- a free facet has the edge exactly where it is on the outer boundary
    free_where : (c : ℕ) → In c (cells v) → HasEdge v.kind v.sizes c (bipolar_edge v k)
        → LieInFreeFacet v (bipolar_edge v k ∷ []) ↔ OnOuterBoundary v.sizes ((bipolar_edge v k).low ∷ (bipolar_edge v k).high ∷ [])
    free_where c i has = boundary_is_outer v regular fits all c (bipolar_edge v k ∷ []) (below_cells v regular c i)
        (All-from_each (HasEdge v.kind v.sizes c) (bipolar_edge v k ∷ []) (λ e m. one e (In_from (bipolar_edge v k ∷ []) e m)))
      where
        one : (e : Edge) → In e (bipolar_edge v k ∷ []) → HasEdge v.kind v.sizes c e
        one e (inl same) = subst (HasEdge v.kind v.sizes c) (sym same) has
        one e (inr past) = absurd past

    inside : ¬ LieInFreeFacet v (bipolar_edge v k ∷ []) → ¬ OnOuterBoundary v.sizes ((bipolar_edge v k).low ∷ (bipolar_edge v k).high ∷ []) → WalksAt v ts k
    inside closed off =
        let cycle = linked.cycles k hk closed in record { whole = cycle.whole; closes = (λ e. off, λ n. cycle.closed); three = λ e. cycle.three }

    outside : (c : ℕ) → IsCellAt v (bipolar_edge v k) c → LieInFreeFacet v (bipolar_edge v k ∷ [])
        → OnOuterBoundary v.sizes ((bipolar_edge v k).low ∷ (bipolar_edge v k).high ∷ []) → WalksAt v ts k
    outside c here free on =
        let w = walk_of_path v ts k c (linked.paths k c hk free here) (on_arc c here) in
        record { whole = w.0; closes = (λ e. absurd (never e w.1), λ off. absurd (off on)); three = λ e. absurd (never e w.1) }
      where
        never : (walk ts k).closed ≡ true → (walk ts k).closed ≡ false → ⊥
        never e f = let clash : true ≡ false = sym e ∙ f in cc

    walks_at : WalksAt v ts k
    walks_at =
        let c = kept_cell v t regular k hk in
        let e : List Edge = bipolar_edge v k ∷ [] in
        let where_free = free_where c.0 c.1 c.2 in
        let decides = is_free_facet_over-Decides v e in
        elim (cases_Bool (is_free_facet_over v e)) [
          | inl lies ↦ (let free = decides.0 lies in outside c.0 (Contains_from (cells v) c.0 c.1, c.2) free (where_free.0 free))
          | inr fails ↦
              (let closed : ¬ LieInFreeFacet v (bipolar_edge v k ∷ []) = λ free. (let clash : true ≡ false = sym (decides.1 free) ∙ fails in cc) in
              inside closed (λ on. closed (where_free.1 on)))
        ]

-- placed triangles that are linked arc by arc are linked by walks; the table is any one
pub arcs_are_walks : (v : Volume) → IsRegularVolume v → Table → (ts : List (List ℕ)) → ArcsAreWalks v ts
arcs_are_walks v regular t ts fits three all placed linked = record {
  there = linked.there;
  whole = λ k hk. (walks_at v regular t ts fits three all placed linked k hk).whole;
  closes = λ k hk. (walks_at v regular t ts fits three all placed linked k hk).closes;
  three = λ k hk. (walks_at v regular t ts fits three all placed linked k hk).three;
}
