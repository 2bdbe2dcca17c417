-- Worked cuts, by computing.
use Rattle.std.specs.Prelude.{◌≡◌, ℕ, Bool, ℤ, pos, negsuc, List, [], ◌∷◌, take, IsTrue, IsFalse, ◌&&◌, ◌==◌, if◌then◌else◌}
use Rattle.std.specs.List.{list_all}
use Rattle.std.proofs.Common.{refl}
use Rattle.lists.specs.Orders.{numbers}
use Rattle.iso_model.specs.Turns.{same_int}
use Rattle.iso_model.specs.Faces.{Mesh, face_without, face_count, face_sum}
use Rattle.iso_model.specs.Tables.{Table}
use Rattle.iso_model.proofs.TableTests.{tetrahedron}
use Rattle.cut_laws.specs.Cuts.{cut_of, links, span}

abbrev one_tetrahedron : Mesh
one_tetrahedron = record {
  vertices =
      (pos 500000 ∷ pos 0 ∷ pos 0 ∷ pos 0 ∷ []) ∷ (pos 0 ∷ pos 500000 ∷ pos 0 ∷ pos 0 ∷ []) ∷ (pos 0 ∷ pos 0 ∷ pos 500000 ∷ pos 0 ∷ [])
      ∷ (pos 0 ∷ pos 0 ∷ pos 0 ∷ pos 500000 ∷ []) ∷ [];
  simplices = (0 ∷ 1 ∷ 2 ∷ 3 ∷ []) ∷ [];
}

at_a_quarter : cut_of one_tetrahedron tetrahedron (pos 250000)
    ≡ record {
      vertices = (pos 250000 ∷ pos 0 ∷ pos 0 ∷ []) ∷ (pos 0 ∷ pos 250000 ∷ pos 0 ∷ []) ∷ (pos 0 ∷ pos 0 ∷ pos 250000 ∷ []) ∷ [];
      simplices = (0 ∷ 1 ∷ 2 ∷ []) ∷ [];
    }
unfolding cut_of links
at_a_quarter = refl

-- no vertex is late
behind_all : cut_of one_tetrahedron tetrahedron (pos 500001) ≡ record { vertices = []; simplices = [] }
unfolding cut_of links
behind_all = refl

-- two tetrahedra that share a face, one of them in an odd order
abbrev two_tetrahedra : Mesh
two_tetrahedra = record {
  vertices =
      (pos 1000000 ∷ pos 0 ∷ negsuc 2 ∷ pos 3000000 ∷ [])
      ∷ (pos 0 ∷ pos 2000001 ∷ pos 7 ∷ negsuc 4999999 ∷ [])
      ∷ (negsuc 999999 ∷ negsuc 8 ∷ pos 500000 ∷ pos 2000000 ∷ [])
      ∷ (pos 3 ∷ negsuc 1000002 ∷ pos 1000000 ∷ negsuc 6999999 ∷ [])
      ∷ (pos 999999 ∷ pos 999998 ∷ negsuc 1999999 ∷ negsuc 999999 ∷ []) ∷ [];
  simplices = (0 ∷ 1 ∷ 2 ∷ 3 ∷ []) ∷ (1 ∷ 0 ∷ 2 ∷ 4 ∷ []) ∷ [];
}

at_nought : cut_of two_tetrahedra tetrahedron (pos 0)
    ≡ record {
      vertices =
          (pos 625000 ∷ pos 750000 ∷ pos 0 ∷ [])
          ∷ (pos 700000 ∷ negsuc 300000 ∷ pos 299997 ∷ [])
          ∷ (pos 999999 ∷ pos 749998 ∷ negsuc 1500000 ∷ [])
          ∷ (negsuc 714285 ∷ pos 571422 ∷ pos 357144 ∷ [])
          ∷ (negsuc 777777 ∷ negsuc 222229 ∷ pos 611111 ∷ [])
          ∷ (pos 333332 ∷ pos 666662 ∷ negsuc 1166666 ∷ []) ∷ [];
      simplices = (0 ∷ 1 ∷ 4 ∷ []) ∷ (0 ∷ 4 ∷ 3 ∷ []) ∷ (0 ∷ 5 ∷ 2 ∷ []) ∷ (0 ∷ 3 ∷ 5 ∷ []) ∷ [];
    }
unfolding cut_of links
at_nought = refl

-- a vertex at the time is late
at_a_vertex : cut_of two_tetrahedra tetrahedron (negsuc 4999999)
    ≡ record {
      vertices =
          (pos 200002 ∷ negsuc 800002 ∷ pos 799999 ∷ [])
          ∷ (pos 0 ∷ pos 2000001 ∷ pos 7 ∷ [])
          ∷ (negsuc 222219 ∷ negsuc 777782 ∷ pos 888888 ∷ []) ∷ [];
      simplices = (0 ∷ 2 ∷ 1 ∷ []) ∷ [];
    }
unfolding cut_of links
at_a_vertex = refl

-- a face of the cut has count 1 where its span is a face of the mesh with count 1, and count 2 and sum 0 everywhere else
abbrev is_face_glued : Mesh → ℤ → List (List ℕ) → List ℕ → Bool
is_face_glued m time triangles face =
    if face_count m.simplices (span (links m time) face) == 1 then face_count triangles face == 1
    else face_count triangles face == 2 && same_int (face_sum triangles face) (pos 0)

abbrev is_cut_glued : Mesh → Table → ℤ → Bool
is_cut_glued m cut time =
    let triangles = (cut_of m cut time).simplices in
    list_all (λ w. list_all (λ i. is_face_glued m time triangles (face_without w i)) (numbers 3)) triangles

glued : IsTrue (is_cut_glued two_tetrahedra tetrahedron (pos 0))
unfolding cut_of links
glued = refl

-- the sentence is not empty: without the second simplex's triangles a face inside has count 1
half : IsFalse (is_face_glued two_tetrahedra (pos 0) (take 2 (cut_of two_tetrahedra tetrahedron (pos 0)).simplices) (0 ∷ 3 ∷ []))
unfolding cut_of links
half = refl
