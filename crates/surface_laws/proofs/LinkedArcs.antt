-- Arcs of kept cells in the words of the volume: a facet at a vertex is free, and two cells stand on one arc, exactly where the pieces of the volume say so.
use Rattle.std.proofs.Common.{◌≡◌, ℕ, ◌<◌, [], ◌∷◌, length, ap, sym, ◌∙◌, subst, inl, inr}
use Rattle.std.proofs.lemmas.Bool.{cases_eq}
use Rattle.iso_model.specs.Cells.{edge_count}
use Rattle.iso_model.specs.Splits.{Edge, edge}
use Rattle.iso_model.specs.Neighbours.{HasEdge, LiesIn, ShareFacetAt, facet_points}
use Rattle.iso_model.specs.Boundary.{LieInFreeFacet}
use Rattle.iso_model.specs.Values.{Volume, IsRegularVolume, cells}
use Rattle.iso_model.specs.Bipolar.{is_bipolar, cell_edges, kept_edges, bipolar_edges, bipolar_edge}
use Rattle.iso_model.specs.Surface.{IsCellAt}
use Rattle.iso_model.specs.Links.{OnOneArc, itself}
use Rattle.iso_model.specs.Links as Volumes
use Rattle.iso_model.specs.Tables.{Table}
use Rattle.lists.specs.Orders.{numbers}
use Rattle.iso_model.proofs.BipolarLaws.{bipolar_edges-are}
use Rattle.split_laws.proofs.SplitTheorems.{own_midpoints}
use Rattle.glue_laws.proofs.Pieces.{Has}
use Rattle.volume_pieces.proofs.PiecesOf.{pieces_of}
use Rattle.volume_pieces.proofs.Edges.{bipolar_is, has_at, has_edge, place_edge}
use Rattle.volume_pieces.proofs.FreeFacets.{edge_lies, edge_of_facet, on_boundary, on_free}
use Rattle.volume_pieces.proofs.PiecesAcross.{FacetsMeet, across_meets}
use Rattle.volume_pieces.proofs.AcrossStands.{volume_dimension, meets_is_across}
use Rattle.link_laws.proofs.Arcs.{FacetHas, FreeAt, OnArc, stay, over_facet}
use Rattle.lists.specs.Members.{In}
use Rattle.lists.proofs.Contained.{Contains-at}
use Rattle.lists.proofs.MemberLaws.{Contains_from, from_In-map, from_In-flat_map, from_filter, from_In-numbers, In_from}

module _ (v : Volume) (t : Table) (regular : IsRegularVolume v) where
  -- each bipolar edge is one of a kept cell
  pub kept_cell : (k : ℕ) → k < length (bipolar_edges v) → (c : ℕ) × In c (cells v) × HasEdge v.kind v.sizes c (bipolar_edge v k)
  kept_cell k hk =
      let e : Edge = bipolar_edge v k in
      let listed = (bipolar_edges-are v (own_midpoints v.kind v.sizes (volume_dimension v regular) regular.fits)).members e in
      let kept = from_filter (is_bipolar v) (kept_edges v) e (In_from _ e (listed.0 (Contains-at (bipolar_edges v) k (record { low = []; high = [] }) hk))) in
      let c = from_In-flat_map (cell_edges v) (cells v) e kept.0 in
      let n = from_In-map (edge v.kind v.sizes c.0) (numbers (edge_count v.kind (length v.sizes))) e c.2 in
      (c.0, c.1, (n.0, from_In-numbers (edge_count v.kind (length v.sizes)) n.0 n.1, sym n.2))

  module _ (k : ℕ) (hk : k < length (bipolar_edges v)) where
    -- ---- cells at the edge, and their facets

    -- a kept cell that has the vertex is one at its edge
    pub cell_at : (c : ℕ) → In c (cells v) → Has (pieces_of v t) c k → IsCellAt v (bipolar_edge v k) c
    cell_at c i has = (Contains_from (cells v) c i, (has_edge v regular t c k i hk).0 has)

    -- and the other way round
    pub from_cell_at : (c : ℕ) → IsCellAt v (bipolar_edge v k) c → In c (cells v) × Has (pieces_of v t) c k
    from_cell_at c at = let i = In_from (cells v) c at.0 in (i, (has_edge v regular t c k i hk).1 at.1)

    -- a facet that has the vertex has its edge
    facet_lies : (c f : ℕ) → In c (cells v) → FacetHas (pieces_of v t) c f k → LiesIn (bipolar_edge v k) (facet_points v.kind v.sizes c f)
    facet_lies c f i at =
        let same : bipolar_edge v k ≡ edge v.kind v.sizes c at.0 = ap (bipolar_edge v) (sym at.3) ∙ (place_edge v regular t c at.0 i at.1).1 in
        subst (λ (x : Edge). LiesIn x (facet_points v.kind v.sizes c f)) (sym same) (edge_lies v regular c f at.0 (bipolar_is v regular t c at.0 at.1).0 at.2)

    -- and the other way round
    lies_facet : (c d f : ℕ) → In c (cells v) → Has (pieces_of v t) c k → LiesIn (bipolar_edge v k) (facet_points v.kind v.sizes d f)
        → FacetHas (pieces_of v t) d f k
    lies_facet c d f i has lies =
        let same : bipolar_edge v k ≡ edge v.kind v.sizes c has.0 = ap (bipolar_edge v) (sym has.2) ∙ (place_edge v regular t c has.0 i has.1).1 in
        let n =
        edge_of_facet v regular c has.0 d f (bipolar_is v regular t c has.0 has.1).0
        (subst (λ (x : Edge). LiesIn x (facet_points v.kind v.sizes d f)) same lies) in
        let there = has_at v regular t d k n.0 hk n.1 (n.3 ∙ sym same) in
        (n.0, there.0, n.2, there.1)

    -- ---- free facets

    -- a free facet at the vertex is a free facet of the edge
    pub free_facet : (m : ℕ) → In m (cells v) → FreeAt (pieces_of v t) m k → LieInFreeFacet v (bipolar_edge v k ∷ [])
    free_facet m i free =
        on_boundary v regular t (k ∷ []) (record { cell = m; facet = free.0; is_cell = i; is_facet = free.1; none_across = free.2; lies = (free.3, tt) })

    -- and the other way round
    pub from_free_facet : (c : ℕ) → In c (cells v) → Has (pieces_of v t) c k → LieInFreeFacet v (bipolar_edge v k ∷ [])
        → (m : ℕ) × In m (cells v) × FreeAt (pieces_of v t) m k
    from_free_facet c i has free =
        let on = on_free v regular t (k ∷ []) c i (has, tt) free in
        (on.cell, on.is_cell, (on.facet, on.is_facet, on.none_across, on.lies.0))

    -- ---- arcs

    -- two cells on one arc of the pieces are on one arc of the volume
    pub to_one_arc : {c d : ℕ} → OnArc (pieces_of v t) k c d → In c (cells v) → Has (pieces_of v t) c k → OnOneArc v (bipolar_edge v k) c d
    to_one_arc (stay {c = c}) i has = itself (cell_at c i has)
    to_one_arc (over_facet {c = c} {d = d} f g hf is at arc) i has =
        let m = across_meets v c f d g is in
        let lies = facet_lies c f i at in
        let there = lies_facet c d g i has ((m.same (bipolar_edge v k).low).0 lies.0, (m.same (bipolar_edge v k).high).0 lies.1) in
        Volumes.over_facet (cell_at c i has) (f, g, hf, m.is_facet, lies, m.same) (to_one_arc arc m.is_cell (there.0, there.1, there.3))

    -- a step over a facet is one of the pieces, or no step
    one_step : (c d : ℕ) → IsCellAt v (bipolar_edge v k) c → In d (cells v) → ShareFacetAt v.kind v.sizes (bipolar_edge v k) c d → {e : ℕ}
        → OnArc (pieces_of v t) k d e → OnArc (pieces_of v t) k c e
    one_step c d at j share {e} arc = elim (cases_eq c d) [
      | inl same ↦ subst (λ (x : ℕ). OnArc (pieces_of v t) k x e) (sym same) arc
      | inr differ ↦ (let here = from_cell_at c at in
          let m : FacetsMeet v c share.0 d share.1 = record { is_cell = j; is_facet = share.3; differs = differ; same = share.5 } in
          over_facet share.0 share.1 share.2 (meets_is_across v regular c share.0 here.0 share.2 d share.1 m)
          (lies_facet c c share.0 here.0 here.1 share.4) arc)
    ]

    -- an arc begins in a kept cell
    first_kept : {c d : ℕ} → OnOneArc v (bipolar_edge v k) c d → In c (cells v)
    first_kept (itself {c = c} at) = In_from (cells v) c at.0
    first_kept (Volumes.over_facet {c = c} at share arc) = In_from (cells v) c at.0

    -- two cells on one arc of the volume are on one arc of the pieces
    pub from_one_arc : {c d : ℕ} → OnOneArc v (bipolar_edge v k) c d → OnArc (pieces_of v t) k c d
    from_one_arc (itself at) = stay
    from_one_arc (Volumes.over_facet {c = c} {d = d} at share arc) = one_step c d at (first_kept arc) share (from_one_arc arc)
