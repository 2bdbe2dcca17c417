-- The triangles of the cut are glued: a face has count 1 where its span is a face of the mesh with count 1, and count 2 and sum 0 everywhere else.
use Rattle.std.proofs.Common.{◌≡◌, ◌≢◌, ℕ, ◌<◌, Bool, true, ℤ, pos, List, [], ◌∷◌, length, refl, inl, inr, sym, subst, arith}
use Rattle.std.specs.Prelude.{map, Contains}
use Rattle.lists.specs.Orders.{sorted}
use Rattle.lists.specs.Members.{In, Ascends}
use Rattle.lists.proofs.Contained.{All-from_each}
use Rattle.lists.proofs.MemberLaws.{In_from, In_place, from_In-map, from_In-numbers, Each-In}
use Rattle.iso_model.specs.Faces.{Mesh, face_without, face_count, face_sum}
use Rattle.iso_model.specs.Tables.{Table}
use Rattle.mesh_laws.proofs.TakenMembers.{from_In-sorted}
use Rattle.mesh_laws.proofs.FaceLists.{face_ascends, length_face}
use Rattle.glue_laws.proofs.Pieces.{Pieces, placed_simplices}
use Rattle.glue_laws.proofs.OneFace.{bipolar_part}
use Rattle.glue_laws.proofs.GluedFaces.{lengths, distinct, source, inside, outside}
use Rattle.cut_laws.specs.declared.Link.{Link}
use Rattle.cut_laws.specs.Cuts.{is_late, links, link_at, links_below, number_in, cut_of, IsFreeSpan, IsCutGlued}
use Rattle.cut_faces.proofs.MeshSides.{simplex_at}
use Rattle.cut_faces.proofs.CutLinks.{is_linked, is_a_link}
use Rattle.cut_faces.proofs.CutPieces.{cut_pieces, label_at, placed_are_triangles}
use Rattle.cut_faces.proofs.CutEntries.{ServesInOrder, label_few, laws_at}
use Rattle.cut_faces.proofs.LawfulCut.{IsGluedMesh, laws_of}
use Rattle.cut_faces.proofs.FreeSpans.{AreNumbers, free_from_pieces, pieces_from_free}

-- a list of two numbers that ascends has two different ones
two_members : (xs : List ℕ) → length xs ≡ 2 → Ascends xs → (a : ℕ) × (b : ℕ) × In a xs × In b xs × (a ≢ b)
two_members [] l a = absurd (omega (arith, l))
two_members (x ∷ []) l a = absurd (omega (arith, l))
two_members (x ∷ y ∷ []) l a = let less : x < y = a.0 y (inl refl) in (x, y, inl refl, inr (inl refl), λ e. omega (arith, less, e))
two_members (x ∷ y ∷ z ∷ xs) l a = absurd (omega (arith, l))

module _ (n : ℕ) (late : ℕ → Bool) (S : List (List ℕ)) (t : Table) (mesh : IsGluedMesh n S) (serves : ServesInOrder t) where
  -- the numbers of a face of a triangle are those of two links
  pub face_numbers : (w : List ℕ) (i : ℕ) → In w (placed_simplices (cut_pieces n late S t)) → i < length w → AreNumbers n late S t mesh (face_without w i)
  face_numbers w i j h =
      let p = cut_pieces n late S t in
      let laws = laws_of n late S t mesh serves in
      let three : length w ≡ 3 =
      lengths p 3 (λ c v a b. ((laws_at t serves (label_at late S c) (label_few late (simplex_at S c))).tuples v b).wide) w j in
      let two : length (face_without w i) ≡ 2 = omega (arith, three, length_face w i h) in
      let m = two_members (face_without w i) two (face_ascends w i (distinct p laws w j) h) in
      record { first = m.0; second = m.1; first_in = m.2; second_in = m.3; apart = m.4; links = λ k a. link_at_number k a }
    where
      link_at_number : (k : ℕ) → In k (face_without w i) → (l : Link) × Contains (links_below n late S) l × (number_in (links_below n late S) l ≡ k)
      link_at_number k a =
          let p = cut_pieces n late S t in
          let laws = laws_of n late S t mesh serves in
          let s = source p laws w i j h in
          let c : ℕ = s.0.cell in
          let b : In k (sorted (map (p.place c) s.0.part)) = subst (λ (v : List ℕ). In k v) s.1 a in
          let e = from_In-map (p.place c) s.0.part k (from_In-sorted k (map (p.place c) s.0.part) b) in
          let linked : is_linked late (simplex_at S c) e.0 ≡ true =
          Each-In (λ x. is_linked late (simplex_at S c) x ≡ true) s.0.part (bipolar_part p laws s.0) e.0 e.1 in (
            link_at (simplex_at S c) e.0,
            is_a_link n late S mesh.simplices (simplex_at S c) e.0 (In_place S c (from_In-numbers (length S) c s.0.is_cell)) linked,
            sym e.2,
          )

module _ (m : Mesh) (t : Table) (time : ℤ) (mesh : IsGluedMesh (length m.vertices) m.simplices) (serves : ServesInOrder t) where
  abbrev pieces : Pieces
  pieces = cut_pieces (length m.vertices) (is_late m time) m.simplices t

  pieces_are_glued : IsCutGlued m time (placed_simplices (cut_pieces (length m.vertices) (is_late m time) m.simplices t))
  unfolding links
  pieces_are_glued =
      let n = length m.vertices in
      let late = is_late m time in
      let S = m.simplices in
      let laws = laws_of n late S t mesh serves in
      let triangles = placed_simplices pieces in
      record {
        free = All-from_each
            (λ w. (i : ℕ) → i < length w → IsFreeSpan m time (face_without w i) → face_count triangles (face_without w i) ≡ 1) triangles
            (λ w c i h free.
            let j = In_from triangles w c in
            outside pieces laws w i j h (pieces_from_free n late S t mesh (face_without w i) (face_numbers n late S t mesh serves w i j h) free));
        inner = All-from_each
            (λ w. (i : ℕ) → i < length w → ¬ IsFreeSpan m time (face_without w i)
            → (face_count triangles (face_without w i) ≡ 2) × (face_sum triangles (face_without w i) ≡ pos 0)) triangles
            (λ w c i h inner.
            let j = In_from triangles w c in
            inside pieces laws w i j h
            (λ on. inner (free_from_pieces n late S t mesh (face_without w i) (face_numbers n late S t mesh serves w i j h) on)));
      }

  -- the law of the cut's faces
  pub cut_is_glued : IsCutGlued m time (cut_of m t time).simplices
  unfolding cut_of links
  cut_is_glued = subst (IsCutGlued m time) (placed_are_triangles (length m.vertices) (is_late m time) m.simplices t) pieces_are_glued
