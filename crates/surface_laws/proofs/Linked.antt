-- The triangles of the placed mesh of an accepted table in a regular volume of three dimensions are linked.
use Rattle.std.proofs.Common.{◌≡◌, ℕ, ◌<◌, List, [], ◌∷◌, length, sym, subst, arith}
use Rattle.std.specs.Prelude.{All, slice_index_or}
use Rattle.iso_model.specs.Neighbours.{HasEdge}
use Rattle.iso_model.specs.Boundary.{LieInFreeFacet}
use Rattle.iso_model.specs.Values.{Volume, IsRegularVolume, cells}
use Rattle.iso_model.specs.Bipolar.{bipolar_edges, bipolar_edge}
use Rattle.iso_model.specs.Walks.{triangles_at}
use Rattle.iso_model.specs.Surface.{IsCellAt}
use Rattle.iso_model.specs.Links.{IsCycle, IsPath, IsLinked, StandsOnArc}
use Rattle.iso_model.specs.Tables.{Table}
use Rattle.iso_model.specs.Placed.{placed_mesh}
use Rattle.glue_laws.proofs.Pieces.{Has, Laws, piece, placed_simplices}
use Rattle.volume_pieces.proofs.PiecesOf.{pieces_of}
use Rattle.surface_laws.proofs.KeptRings.{ring_laws}
use Rattle.link_laws.proofs.Readings.{from_turned}
use Rattle.link_laws.proofs.Links.{AreLinked, one_leaves}
use Rattle.link_laws.proofs.Arcs.{LinkLaws, OnArc, at, are_linked}
use Rattle.link_laws.proofs.Homes.{Home, home_of, home_in, in_all, all_at, only_cell, spoke_in, spoke_of}
use Rattle.link_laws.proofs.LinkLaw as Spokes
use Rattle.link_laws.proofs.TrianglesAt.{ReadsAt, triangles_have}
use Rattle.link_laws.proofs.TrianglesOnce.{of_spoke}
use Rattle.link_laws.proofs.TrianglesLinked.{IsSpokePath, SaysOfTriangles, cycle_of_triangles, path_of_triangles, path_on_arc}
use Rattle.surface_laws.proofs.AcceptedEntries.{Serves}
use Rattle.surface_laws.proofs.LawfulPieces.{laws_of}
use Rattle.surface_laws.proofs.PathPieces.{link_laws}
use Rattle.surface_laws.proofs.LinkedArcs.{kept_cell, from_cell_at, free_facet, from_free_facet, to_one_arc, from_one_arc}
use Rattle.surface_laws.proofs.Surface.{same_mesh, to_edges, from_edges}
use Rattle.lists.specs.Members.{In, Each}
use Rattle.lists.proofs.MemberLaws.{Contains_from, from_In-flat_map, In_place, In_from}

-- a list with a member is not empty
some_there : (xs : List ℕ) (x : ℕ) → In x xs → 0 < length xs
some_there [] x i = absurd i
some_there (y ∷ xs) x i = omega arith

module _ (v : Volume) (t : Table) (regular : IsRegularVolume v) (serves : Serves v t) (three : length v.sizes ≡ 3) where
  laws : Laws (pieces_of v t)
  laws = laws_of v t regular serves

  links : LinkLaws (pieces_of v t)
  links = link_laws v t regular serves.is_table serves.is_accepted serves.kind serves.dimension three

  abbrev simplices : List (List ℕ)
  simplices = placed_simplices (pieces_of v t)

  -- the triangles follow each other one by one
  follow : AreLinked (placed_simplices (pieces_of v t))
  follow = are_linked (pieces_of v t) laws links

  module _ (k : ℕ) (hk : k < length (bipolar_edges v)) where
    -- the home of a spoke, in these pieces
    abbrev HomeOf : ℕ → Type 0
    HomeOf z = Home (pieces_of v t) laws links k z

    -- a spoke stands on the arc of the cell c
    abbrev SpokeOn : ℕ → ℕ → Type 0
    SpokeOn c z = (h : HomeOf z) × OnArc (pieces_of v t) k c h.cell

    -- each vertex has a triangle
    there : 0 < length (triangles_at (placed_simplices (pieces_of v t)) k)
    there =
        let c = kept_cell v t regular k hk in
        let here = from_cell_at v t regular k hk c.0 (Contains_from (cells v) c.0 c.1, c.2) in
        let s = spoke_in (pieces_of v t) laws links k c.0 here.0 here.1 in
        let r = of_spoke simplices k follow s.0 (spoke_of (pieces_of v t) laws links k s.0 s.1) in
        some_there (triangles_at simplices k) _ (triangles_have simplices k _ s.0 r.0 r.1)

    -- where no facet at the vertex is free its triangles form one cycle
    cycle : ¬ LieInFreeFacet v (bipolar_edge v k ∷ []) → IsCycle (placed_simplices (pieces_of v t)) k
    cycle closed = cycle_of_triangles simplices k follow there (λ s i.
        let c = Spokes.cycle_law (pieces_of v t) laws links k (ring_laws v regular t three) (λ m j free. closed (free_facet v t regular k hk m j free)) s i in
        record { round = c.round; closes = c.closes; meets_all = c.meets_all; three = c.three })

    -- ---- what is said of a spoke and of its triangle

    module _ (c : ℕ) (is_cell : In c (cells v)) (has : Has (pieces_of v t) c k) where
      -- a spoke stands on the arc where its triangle does
      to_spoke : (n p q : ℕ) → ReadsAt (placed_simplices (pieces_of v t)) k n p q → StandsOnArc v (placed_simplices (pieces_of v t)) k c n → SpokeOn c p
      to_spoke n p q reads stands =
          let w = slice_index_or simplices n [] in
          let j = from_In-flat_map (piece (pieces_of v t)) (cells v) w (In_place simplices n reads.0) in
          let r = home_in (pieces_of v t) laws links k j.0 w p q j.1 j.2 (from_turned k p q w reads.1) in
          let h = r.0 in
          let d = stands.1.0 in
          let i = In_from (cells v) d stands.1.1.0 in
          let a = at (pieces_of v t) h.cell h.tuple in
          let edges : All (λ x. HasEdge v.kind v.sizes d (bipolar_edge v x)) a =
          subst (λ (u : List ℕ). All (λ x. HasEdge v.kind v.sizes d (bipolar_edge v x)) u) (sym r.2) stands.1.1.1 in
          let all = from_edges v t regular serves d h.cell a i h.is_cell (all_at (pieces_of v t) laws links k p h) edges in
          (h, subst (OnArc (pieces_of v t) k c) (only_cell (pieces_of v t) laws links k p h d i all) (from_one_arc v t regular k hk stands.1.2))

      -- and a triangle where its spoke does
      to_triangle : (n p q : ℕ) → ReadsAt (placed_simplices (pieces_of v t)) k n p q → SpokeOn c p → StandsOnArc v (placed_simplices (pieces_of v t)) k c n
      to_triangle n p q reads on =
          let w = slice_index_or simplices n [] in
          let h = on.0 in
          let same =
          one_leaves k simplices follow (at (pieces_of v t) h.cell h.tuple) w p h.to q (in_all (pieces_of v t) laws links k p h)
          (In_place simplices n reads.0) h.reads (from_turned k p q w reads.1) in
          let all = subst (Each (Has (pieces_of v t) h.cell)) same (all_at (pieces_of v t) laws links k p h) in (
            Contains_from (triangles_at simplices k) n (triangles_have simplices k n p q reads),
            (
              h.cell,
              (Contains_from (cells v) h.cell h.is_cell, to_edges v t regular serves h.cell w h.is_cell all),
              to_one_arc v t regular k hk on.1 is_cell has,
            ),
          )

      says : SaysOfTriangles (placed_simplices (pieces_of v t)) k (SpokeOn c) (StandsOnArc v (placed_simplices (pieces_of v t)) k c)
      says = record { at_vertex = λ n stands. stands.0; to_spoke = to_spoke; to_triangle = to_triangle }

      spoke_path : LieInFreeFacet v (bipolar_edge v k ∷ []) → IsSpokePath (placed_simplices (pieces_of v t)) k (SpokeOn c)
      spoke_path free =
          let m = from_free_facet v t regular k hk c is_cell has free in
          let path = Spokes.path_law (pieces_of v t) laws links k (ring_laws v regular t three) m.0 m.1 m.2 c is_cell has in
          record {
            start = path.start;
            stands = (path.home, path.on_arc);
            begins = path.begins;
            one_start = λ z on fresh. path.one_start z on.0 on.1 fresh;
            path = path.path;
            ends = path.ends;
            meets_all = λ z on. path.meets_arc z on.0 on.1;
            meets_only = λ z i. let h = home_of (pieces_of v t) laws links k z (path.path.inside z i) in (h, path.meets_only z h i);
          }

      path_of : LieInFreeFacet v (bipolar_edge v k ∷ []) → IsPath v (placed_simplices (pieces_of v t)) k c
      path_of free = path_on_arc v simplices k c (path_of_triangles simplices k follow (SpokeOn c) (StandsOnArc v simplices k c) says (spoke_path free))

    -- where one is, those on the arc of each cell there form one path
    path : (c : ℕ) → LieInFreeFacet v (bipolar_edge v k ∷ []) → IsCellAt v (bipolar_edge v k) c → IsPath v (placed_simplices (pieces_of v t)) k c
    path c free at_edge = let here = from_cell_at v t regular k hk c at_edge in path_of c here.0 here.1 free

  linked_pieces : IsLinked v (placed_simplices (pieces_of v t))
  linked_pieces = record { there = there; cycles = λ k hk closed. cycle k hk closed; paths = λ k c hk free at_edge. path k hk c free at_edge }

  -- the triangles of the placed mesh are linked
  pub linked : IsLinked v (placed_mesh v t).simplices
  linked = subst (IsLinked v) (same_mesh v t) linked_pieces
