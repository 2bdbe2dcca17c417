-- The placed mesh of an accepted table in a regular volume is closed, placed and sided.
use Rattle.std.proofs.Common.{◌≡◌, ℕ, zero, suc, ◌<◌, List, [], ◌∷◌, length, refl, subst}
use Rattle.std.specs.Prelude.{All, Contains, IsTrue}
use Rattle.lists.specs.Orders.{without, is_distinct}
use Rattle.iso_model.specs.Neighbours.{HasEdge}
use Rattle.iso_model.specs.Values.{Volume, IsRegularVolume, cells}
use Rattle.iso_model.specs.Bipolar.{bipolar_edges, bipolar_edge}
use Rattle.iso_model.specs.Faces.{face_without}
use Rattle.iso_model.specs.Tables.{Table}
use Rattle.iso_model.specs.Placed.{placed_mesh}
use Rattle.iso_model.specs.Surface.{IsClosed, IsCellAt, IsCellOf, IsPlaced, IsSided}
use Rattle.mesh_laws.proofs.FaceSigns.{Each-sorted}
use Rattle.glue_laws.proofs.Pieces.{Has, Laws, piece, placed_simplices}
use Rattle.glue_laws.proofs.GluedFaces as Glued
use Rattle.glue_laws.proofs.InOneCell as One
use Rattle.volume_pieces.proofs.PiecesOf.{pieces_of}
use Rattle.volume_pieces.proofs.Edges.{place_edge, has_edge}
use Rattle.volume_pieces.proofs.FreeFacets.{on_boundary, on_free}
use Rattle.surface_laws.proofs.Sided as Side
use Rattle.surface_laws.proofs.AcceptedEntries.{Serves, cell_laws}
use Rattle.surface_laws.proofs.LawfulPieces.{label_signs, labels_below, places_hold, laws_of}
use Rattle.lists.specs.Members.{In, Each}
use Rattle.lists.proofs.Contained.{All-from_each, each-from_All}
use Rattle.lists.proofs.MemberLaws.{Contains_from, In-flat_map, Each-In, Each-from_In, In_from}

-- what holds of each number holds of each but one
Each-without : (D : ℕ → Type 0) (i : ℕ) (w : List ℕ) → Each D w → Each D (without i w)
Each-without D zero [] all = tt
Each-without D (suc i) [] all = tt
Each-without D zero (x ∷ w) all = all.1
Each-without D (suc i) (x ∷ w) all = (all.0, Each-without D i w all.1)

-- the simplices of the placed mesh are those of the pieces
pub same_mesh : (v : Volume) (t : Table) → placed_simplices (pieces_of v t) ≡ (placed_mesh v t).simplices
unfolding placed_mesh
same_mesh v t = refl

module _ (v : Volume) (t : Table) (regular : IsRegularVolume v) (serves : Serves v t) where
  laws : Laws (pieces_of v t)
  laws = laws_of v t regular serves

  abbrev simplices : List (List ℕ)
  simplices = placed_simplices (pieces_of v t)

  member : (w : List ℕ) → Contains (placed_simplices (pieces_of v t)) w → In w (placed_simplices (pieces_of v t))
  member w has = In_from simplices w has

  -- ---- cells that have edges

  -- the places of the edges of a kept cell are below their number
  place_few : (c k : ℕ) → In c (cells v) → Has (pieces_of v t) c k → k < length (bipolar_edges v)
  place_few c k i has = subst (λ (n : ℕ). n < length (bipolar_edges v)) has.2 (place_edge v regular t c has.0 i has.1).0

  -- a cell has the places of all numbers where it has the edges
  pub to_edges : (c : ℕ) (w : List ℕ) → In c (cells v) → Each (Has (pieces_of v t) c) w → All (λ k. HasEdge v.kind v.sizes c (bipolar_edge v k)) w
  to_edges c w i all =
      All-from_each (λ k. HasEdge v.kind v.sizes c (bipolar_edge v k)) w (λ k has.
      let at = Each-In (Has (pieces_of v t) c) w all k (In_from w k has) in
      (has_edge v regular t c k i (place_few c k i at)).0 at)

  -- and the other way round, for places of another cell
  pub from_edges : (c d : ℕ) (w : List ℕ) → In c (cells v) → In d (cells v) → Each (Has (pieces_of v t) d) w
      → All (λ k. HasEdge v.kind v.sizes c (bipolar_edge v k)) w → Each (Has (pieces_of v t) c) w
  from_edges c d w i j places all =
      Each-from_In (Has (pieces_of v t) c) w (λ k m.
      (has_edge v regular t c k i (place_few d k j (Each-In (Has (pieces_of v t) d) w places k m))).1
      (each-from_All (λ x. HasEdge v.kind v.sizes c (bipolar_edge v x)) w all k (Contains_from w k m)))

  -- ---- the simplices of the pieces

  long : (c : ℕ) (w : List ℕ) → In c (pieces_of v t).cells → In w ((pieces_of v t).entry c) → length w ≡ length v.sizes
  long c w is_cell i = ((cell_laws v t serves c).tuples w i).wide

  closed_pieces : IsClosed v (placed_simplices (pieces_of v t))
  closed_pieces = record {
    distinct = All-from_each (λ w. (length w ≡ length v.sizes) × IsTrue (is_distinct w)) simplices (λ w has.
        (Glued.lengths (pieces_of v t) (length v.sizes) long w (member w has), Glued.distinct (pieces_of v t) laws w (member w has)));
    inside = λ w i has h off. Glued.inside (pieces_of v t) laws w i (member w has) h (λ free. off (on_boundary v regular t (face_without w i) free));
    outside = λ w i has h on.
        let one = One.in_one_cell (pieces_of v t) laws w (member w has) in
        let places = Each-sorted (Has (pieces_of v t) one.cell) (without i w) (Each-without (Has (pieces_of v t) one.cell) i w one.has) in
        Glued.outside (pieces_of v t) laws w i (member w has) h (on_free v regular t (face_without w i) one.cell one.is_cell places on);
  }

  one_cell : (w : List ℕ) → Contains (placed_simplices (pieces_of v t)) w → (cell : ℕ) × IsCellOf v w cell × ((other : ℕ) → IsCellOf v w other → other ≡ cell)
  one_cell w has =
      let one = One.in_one_cell (pieces_of v t) laws w (member w has) in (
        one.cell,
        (Contains_from (cells v) one.cell one.is_cell, to_edges one.cell w one.is_cell one.has),
        λ other is.
            let i = In_from (cells v) other is.0 in
            one.only other i (from_edges other one.cell w i one.is_cell one.has is.1),
      )

  everywhere : (k cell : ℕ) → k < length (bipolar_edges v) → IsCellAt v (bipolar_edge v k) cell →
      (w : List ℕ) × Contains (placed_simplices (pieces_of v t)) w × IsCellOf v w cell × Contains w k
  everywhere k cell hk at =
      let i = In_from (cells v) cell at.0 in
      let s = One.everywhere (pieces_of v t) laws cell k i ((has_edge v regular t cell k i hk).1 at.1) in (
        s.0,
        Contains_from simplices s.0 (In-flat_map (piece (pieces_of v t)) (cells v) cell s.0 i s.1),
        (at.0, to_edges cell s.0 i (One.piece_has (pieces_of v t) laws cell s.0 i s.1)),
        Contains_from s.0 k s.2,
      )

  -- ---- the placed mesh

  -- each face of a simplex has two, with opposite signs, or one on the boundary
  pub closed : IsClosed v (placed_mesh v t).simplices
  closed = subst (IsClosed v) (same_mesh v t) closed_pieces

  -- each simplex is of one cell, and each cell with a bipolar edge has one at it
  pub placed : IsPlaced v (placed_mesh v t).simplices
  placed = subst (IsPlaced v) (same_mesh v t) (record { one_cell = one_cell; everywhere = everywhere })

  -- each simplex is turned to its positive side
  pub sided : IsSided v (placed_mesh v t).simplices
  sided = Side.sided v t regular (label_signs v) (places_hold v t regular) serves.kind serves.dimension serves.is_accepted (labels_below v)
