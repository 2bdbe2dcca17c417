-- Worked meshes: their texts, faces and walks, by computing.
use Rattle.std.specs.Prelude.{Bool, map, int_lt, slice_index_or, IsTrue, IsFalse, ℕ, ◌≡◌, true, false, List, [], ◌∷◌, ◌++◌, ℤ, pos, negsuc, codes}
use Rattle.std.specs.Prelude.{Some, None, replicate, length}
use Rattle.std.specs.List.{list_all}
use Rattle.std.proofs.Common.{refl}
use Rattle.std.specs.Fmt.{digits}
use Rattle.iso_model.specs.declared.Kind.{Kind}
use Rattle.iso_model.specs.declared.Kind.TheVariants.{Cube, Simplex, Pyramid}
use Rattle.iso_model.specs.Turns.{turn, side_rows}
use Rattle.iso_model.specs.Splits.{Edge, midpoint}
use Rattle.iso_model.specs.Surface.{towards_positive}
use Rattle.iso_model.specs.Values.{Volume, volume, label_of, cells, value_at}
use Rattle.iso_model.specs.Bipolar.{bipolar_edges}
use Rattle.iso_model.specs.Crossing.{crossing}
use Rattle.iso_model.specs.Faces.{face_count, face_sum, free_face_count}
use Rattle.iso_model.specs.Walks.{walk, walk_from, is_start}
use Rattle.iso_formats.specs.MeshText.{mesh_text, millionths}
use Rattle.iso_model.specs.Tables.{Table}
use Rattle.iso_model.specs.Placed.{placed_mesh}
use Rattle.iso_formats.specs.Demo.{demo_grid, demo_iso}

-- a volume without blank samples, from samples given as numbers
abbrev pub plain : Kind → List ℕ → List ℤ → ℤ → Volume
plain kind sizes samples iso = volume kind (record { sizes = sizes; samples = samples }) iso None

-- a positive first sample and n further ones of 0
abbrev pub spot : ℕ → List ℤ
spot n = pos 10 ∷ replicate n (pos 0)

-- tables with the entries of labels 0, 1, 2, .. as far as the meshes want them
abbrev pub square_part : Table
square_part = record {
  kind = Cube;
  dimension = 2;
  entries =
      [] ∷ ((0 ∷ 1 ∷ []) ∷ []) ∷ ((2 ∷ 0 ∷ []) ∷ []) ∷ [] ∷ [] ∷ [] ∷ ((1 ∷ 0 ∷ []) ∷ (2 ∷ 3 ∷ []) ∷ []) ∷ [] ∷ [] ∷ [] ∷ ((3 ∷ 0 ∷ []) ∷ []) ∷ [];
}

abbrev pub cube_part : Table
cube_part = record { kind = Cube; dimension = 3; entries = [] ∷ ((0 ∷ 4 ∷ 1 ∷ []) ∷ []) ∷ [] }

abbrev pub simplex_part : Table
simplex_part = record { kind = Simplex; dimension = 3; entries = [] ∷ ((0 ∷ 2 ∷ 1 ∷ []) ∷ []) ∷ [] }

abbrev pub pyramid_part : Table
pyramid_part = record { kind = Pyramid; dimension = 3; entries = [] ∷ ((0 ∷ 4 ∷ 1 ∷ []) ∷ []) ∷ ((0 ∷ 2 ∷ 5 ∷ []) ∷ []) ∷ [] ∷ ((1 ∷ 6 ∷ 3 ∷ []) ∷ []) ∷ [] }

spot_label : label_of (plain Cube (2 ∷ 2 ∷ []) (spot 3) (pos 5)) 0 ≡ 1
unfolding label_of value_at
spot_label = refl

square_spot : mesh_text 2 (placed_mesh (plain Cube (2 ∷ 2 ∷ []) (spot 3) (pos 5)) square_part)
    ≡ codes "nOFF\n2\n2 1 0\n0.500000 0.000000\n0.000000 0.500000\n2 0 1\n"
unfolding digits placed_mesh bipolar_edges cells label_of value_at crossing mesh_text
square_spot = refl

-- the two positive corners of the ambiguous square are joined
square_saddle : mesh_text 2 (placed_mesh (plain Cube (2 ∷ 2 ∷ []) (pos 0 ∷ pos 10 ∷ pos 10 ∷ pos 0 ∷ []) (pos 5)) square_part)
    ≡ codes "nOFF\n2\n4 2 0\n0.500000 0.000000\n0.000000 0.500000\n1.000000 0.500000\n0.500000 1.000000\n2 1 0\n2 2 3\n"
unfolding digits placed_mesh bipolar_edges cells label_of value_at crossing mesh_text
square_saddle = refl

-- an equal sample is positive
square_equal : mesh_text 2 (placed_mesh (plain Cube (2 ∷ 2 ∷ []) (pos 5 ∷ pos 0 ∷ pos 0 ∷ pos 0 ∷ []) (pos 5)) square_part)
    ≡ codes "nOFF\n2\n2 1 0\n0.000000 0.000000\n0.000000 0.000000\n2 0 1\n"
unfolding digits placed_mesh bipolar_edges cells label_of value_at crossing mesh_text
square_equal = refl

-- crossings are rounded down
square_thirds : mesh_text 2 (placed_mesh (plain Cube (2 ∷ 2 ∷ []) (pos 0 ∷ pos 3 ∷ pos 0 ∷ pos 3 ∷ []) (pos 1)) square_part)
    ≡ codes "nOFF\n2\n2 1 0\n0.333333 0.000000\n0.333333 1.000000\n2 1 0\n"
unfolding digits placed_mesh bipolar_edges cells label_of value_at crossing mesh_text
square_thirds = refl

no_cells : mesh_text 2 (placed_mesh (plain Cube (1 ∷ 7 ∷ []) (pos 0 ∷ pos 9 ∷ pos 0 ∷ pos 9 ∷ pos 0 ∷ pos 9 ∷ pos 0 ∷ []) (pos 5)) square_part)
    ≡ codes "nOFF\n2\n0 0 0\n"
unfolding digits placed_mesh bipolar_edges cells label_of value_at crossing mesh_text
no_cells = refl

cube_spot : mesh_text 3 (placed_mesh (plain Cube (2 ∷ 2 ∷ 2 ∷ []) (spot 7) (pos 5)) cube_part)
    ≡ codes "OFF\n3 1 0\n0.500000 0.000000 0.000000\n0.000000 0.500000 0.000000\n0.000000 0.000000 0.500000\n3 0 2 1\n"
unfolding digits placed_mesh bipolar_edges cells label_of value_at crossing mesh_text
cube_spot = refl

hypercube_spot :
    mesh_text 4
    (placed_mesh (plain Cube (2 ∷ 2 ∷ 2 ∷ 2 ∷ []) (spot 15) (pos 5))
    (record { kind = Cube; dimension = 4; entries = [] ∷ ((0 ∷ 1 ∷ 4 ∷ 12 ∷ []) ∷ []) ∷ [] }))
    ≡ codes "nOFF\n4\n4 1 0\n0.500000 0.000000 0.000000 0.000000\n0.000000 0.500000 0.000000 0.000000\n0.000000 0.000000 0.500000 0.000000\n0.000000 0.000000 0.000000 0.500000\n4 0 1 2 3\n"
unfolding digits placed_mesh bipolar_edges cells label_of value_at crossing mesh_text
hypercube_spot = refl

triangles_spot :
    mesh_text 2
    (placed_mesh (plain Simplex (2 ∷ 2 ∷ []) (spot 3) (pos 5)) (record { kind = Simplex; dimension = 2; entries = [] ∷ ((0 ∷ 1 ∷ []) ∷ []) ∷ [] }))
    ≡ codes "nOFF\n2\n3 2 0\n0.500000 0.000000\n0.000000 0.500000\n0.500000 0.500000\n2 0 2\n2 2 1\n"
unfolding digits placed_mesh bipolar_edges cells label_of value_at crossing mesh_text
triangles_spot = refl

-- simplices of odd cells are turned
abbrev pub simplex_volume : Volume
simplex_volume = plain Simplex (2 ∷ 2 ∷ 2 ∷ []) (spot 7) (pos 5)

simplex_spot : mesh_text 3 (placed_mesh simplex_volume simplex_part)
    ≡ codes "OFF\n7 6 0\n0.500000 0.000000 0.000000\n0.000000 0.500000 0.000000\n0.500000 0.500000 0.000000\n0.000000 0.000000 0.500000\n0.500000 0.000000 0.500000\n0.000000 0.500000 0.500000\n0.500000 0.500000 0.500000\n3 0 6 2\n3 0 4 6\n3 1 2 6\n3 1 6 5\n3 3 6 4\n3 3 5 6\n"
unfolding digits placed_mesh bipolar_edges cells label_of value_at crossing mesh_text
simplex_spot = refl

-- its six triangles
abbrev pub six_triangles : List (List ℕ)
six_triangles = (0 ∷ 6 ∷ 2 ∷ []) ∷ (0 ∷ 4 ∷ 6 ∷ []) ∷ (1 ∷ 2 ∷ 6 ∷ []) ∷ (1 ∷ 6 ∷ 5 ∷ []) ∷ (3 ∷ 6 ∷ 4 ∷ []) ∷ (3 ∷ 5 ∷ 6 ∷ []) ∷ []

inner_face : face_count six_triangles (0 ∷ 6 ∷ []) ≡ 2
inner_face = refl

inner_sum : face_sum six_triangles (0 ∷ 6 ∷ []) ≡ pos 0
inner_sum = refl

outer_face : face_count six_triangles (0 ∷ 2 ∷ []) ≡ 1
outer_face = refl

outer_faces : free_face_count six_triangles ≡ 6
outer_faces = refl

-- the walk round the vertex inside closes over six triangles
closed_walk : walk six_triangles 6 ≡ record { order = 0 ∷ 1 ∷ 4 ∷ 5 ∷ 3 ∷ 2 ∷ []; closed = true; whole = true }
unfolding walk
closed_walk = refl

-- one at the boundary begins at the triangle before which there is none
open_walk :
    walk ((0 ∷ 3 ∷ 1 ∷ []) ∷ (0 ∷ 2 ∷ 4 ∷ []) ∷ (0 ∷ 4 ∷ 3 ∷ []) ∷ (1 ∷ 5 ∷ 2 ∷ []) ∷ (1 ∷ 3 ∷ 5 ∷ []) ∷ (2 ∷ 5 ∷ 4 ∷ []) ∷ []) 0
    ≡ record { order = 1 ∷ 2 ∷ 0 ∷ []; closed = false; whole = true }
unfolding walk
open_walk = refl

-- a vertex without triangles
no_walk : walk six_triangles 9 ≡ record { order = []; closed = false; whole = true }
unfolding walk
no_walk = refl

-- two separate paths at one vertex are not one walk
two_paths : walk ((0 ∷ 1 ∷ 4 ∷ []) ∷ (2 ∷ 4 ∷ 3 ∷ []) ∷ []) 4 ≡ record { order = 0 ∷ []; closed = false; whole = false }
unfolding walk
two_paths = refl

-- the value at a centre is the sum of the eight corners
pyramid_spot : mesh_text 3 (placed_mesh (plain Pyramid (2 ∷ 2 ∷ 2 ∷ []) (pos 8 ∷ replicate 7 (pos 0)) (pos 5)) pyramid_part)
    ≡ codes "OFF\n4 3 0\n0.375000 0.000000 0.000000\n0.000000 0.375000 0.000000\n0.214285 0.214285 0.214285\n0.000000 0.000000 0.375000\n3 1 2 3\n3 0 3 2\n3 0 2 1\n"
unfolding digits placed_mesh bipolar_edges cells label_of value_at crossing mesh_text
pyramid_spot = refl

-- here a centre is the low end of an edge
pyramid_high : mesh_text 3 (placed_mesh (plain Pyramid (2 ∷ 2 ∷ 2 ∷ []) (replicate 4 (pos 0) ++ pos 8 ∷ replicate 3 (pos 0)) (pos 5)) pyramid_part)
    ≡ codes "OFF\n4 3 0\n0.000000 0.000000 0.625000\n0.214285 0.214285 0.785714\n0.375000 0.000000 1.000000\n0.000000 0.375000 1.000000\n3 0 1 3\n3 0 2 1\n3 2 3 1\n"
unfolding digits placed_mesh bipolar_edges cells label_of value_at crossing mesh_text
pyramid_high = refl

-- a cube with a blank sample is left out
square_blank :
    mesh_text 2
    (placed_mesh
    (volume Cube (record { sizes = 3 ∷ 2 ∷ []; samples = pos 10 ∷ pos 0 ∷ pos 255 ∷ pos 0 ∷ pos 0 ∷ pos 0 ∷ [] }) (pos 5) (Some (pos 255)))
    square_part)
    ≡ codes "nOFF\n2\n2 1 0\n0.500000 0.000000\n0.000000 0.500000\n2 0 1\n"
unfolding digits placed_mesh bipolar_edges cells label_of value_at crossing mesh_text
square_blank = refl

-- two kept cubes that share an edge alone: the vertex on it has two paths
blank_corners : mesh_text 3 (placed_mesh (volume Cube (record {
  sizes = 3 ∷ 3 ∷ 2 ∷ [];
  samples = pos 0 ∷ pos 0 ∷ pos 255 ∷ pos 0 ∷ pos 10 ∷ pos 0 ∷ pos 255 ∷ pos 0 ∷ pos 0 ∷ replicate 9 (pos 0);
}) (pos 5) (Some (pos 255)))
    (record { kind = Cube; dimension = 3; entries = [] ∷ ((0 ∷ 4 ∷ 1 ∷ []) ∷ []) ∷ [] ∷ [] ∷ [] ∷ [] ∷ [] ∷ [] ∷ ((2 ∷ 3 ∷ 7 ∷ []) ∷ []) ∷ [] }))
    ≡ codes "OFF\n5 2 0\n1.000000 0.500000 0.000000\n0.500000 1.000000 0.000000\n1.500000 1.000000 0.000000\n1.000000 1.500000 0.000000\n1.000000 1.000000 0.500000\n3 0 1 4\n3 2 4 3\n"
unfolding digits placed_mesh bipolar_edges cells label_of value_at crossing mesh_text
blank_corners = refl

both_start : map (is_start ((0 ∷ 1 ∷ 4 ∷ []) ∷ (2 ∷ 4 ∷ 3 ∷ []) ∷ []) 4) (0 ∷ 1 ∷ []) ≡ true ∷ true ∷ []
both_start = refl

each_path : map (λ t. walk_from ((0 ∷ 1 ∷ 4 ∷ []) ∷ (2 ∷ 4 ∷ 3 ∷ []) ∷ []) 4 (Some t)) (0 ∷ 1 ∷ []) ≡ (0 ∷ []) ∷ (1 ∷ []) ∷ []
each_path = refl

all_blank : cells (volume Cube (record { sizes = 2 ∷ 2 ∷ []; samples = spot 3 }) (pos 5) (Some (pos 0))) ≡ []
unfolding cells
all_blank = refl

demo_samples : (demo_grid 2 2 0).samples ≡ pos 60 ∷ pos 71 ∷ pos 209 ∷ pos 170 ∷ []
demo_samples = refl

demo_vertices : length (bipolar_edges (volume Cube (demo_grid 2 2 0) demo_iso None)) ≡ 2
unfolding bipolar_edges cells value_at
demo_vertices = refl

-- ---- the sides of placed simplices, odd cells among them

abbrev midpoint_at : List Edge → ℕ → List ℕ
midpoint_at edges k = midpoint (slice_index_or edges k (record { low = []; high = [] }))

abbrev pub is_sided : Volume → List (List ℕ) → Bool
is_sided v simplices =
    let edges = bipolar_edges v in
    list_all
    (λ w.
    list_all
    (λ k.
    int_lt (pos 0)
    (turn (side_rows (map (midpoint_at edges) w) (towards_positive v (slice_index_or edges k (record { low = []; high = [] }))))))
    w)
    simplices

simplices_sided : IsTrue (is_sided simplex_volume six_triangles)
unfolding turn bipolar_edges cells value_at
simplices_sided = refl

-- with the last two places of a triangle exchanged the side is lost
exchanged_unsided : IsFalse (is_sided simplex_volume ((0 ∷ 2 ∷ 6 ∷ []) ∷ []))
unfolding turn bipolar_edges cells value_at
exchanged_unsided = refl

pyramids_sided :
    IsTrue
    (is_sided (plain Pyramid (2 ∷ 2 ∷ 2 ∷ []) (pos 8 ∷ replicate 7 (pos 0)) (pos 5)) ((1 ∷ 2 ∷ 3 ∷ []) ∷ (0 ∷ 3 ∷ 2 ∷ []) ∷ (0 ∷ 2 ∷ 1 ∷ []) ∷ []))
unfolding turn bipolar_edges cells value_at
pyramids_sided = refl

-- ---- further texts

all_positive : mesh_text 2 (placed_mesh (plain Cube (2 ∷ 2 ∷ []) (replicate 4 (pos 9)) (pos 5)) square_part) ≡ codes "nOFF\n2\n0 0 0\n"
unfolding digits placed_mesh bipolar_edges cells label_of value_at crossing mesh_text
all_positive = refl

-- samples and an isovalue below zero
square_negative : mesh_text 2 (placed_mesh (plain Cube (2 ∷ 2 ∷ []) (negsuc 4 ∷ pos 0 ∷ negsuc 4 ∷ pos 0 ∷ []) (negsuc 2)) square_part)
    ≡ codes "nOFF\n2\n2 1 0\n0.400000 0.000000\n0.400000 1.000000\n2 1 0\n"
unfolding digits placed_mesh bipolar_edges cells label_of value_at crossing mesh_text
square_negative = refl

-- the first and the last corner of a cube
abbrev two_ends : Table
two_ends = record {
  kind = Cube;
  dimension = 3;
  entries =
      replicate 129 []
      ++ ((0 ∷ 7 ∷ 1 ∷ []) ∷ (0 ∷ 4 ∷ 10 ∷ []) ∷ (0 ∷ 10 ∷ 7 ∷ []) ∷ (1 ∷ 11 ∷ 4 ∷ []) ∷ (1 ∷ 7 ∷ 11 ∷ []) ∷ (4 ∷ 11 ∷ 10 ∷ []) ∷ []) ∷ [];
}

cube_two_ends : mesh_text 3 (placed_mesh (plain Cube (2 ∷ 2 ∷ 2 ∷ []) (pos 10 ∷ replicate 6 (pos 0) ++ pos 10 ∷ []) (pos 5)) two_ends)
    ≡ codes "OFF\n6 6 0\n0.500000 0.000000 0.000000\n0.000000 0.500000 0.000000\n0.000000 0.000000 0.500000\n1.000000 1.000000 0.500000\n1.000000 0.500000 1.000000\n0.500000 1.000000 1.000000\n3 0 3 1\n3 0 2 4\n3 0 4 3\n3 1 5 2\n3 1 3 5\n3 2 5 4\n"
unfolding digits placed_mesh bipolar_edges cells label_of value_at crossing mesh_text
cube_two_ends = refl

-- the low end of an edge is a centre, and what is added to it is rounded down
low_centre : crossing (record { low = 1 ∷ 1 ∷ 1 ∷ []; high = 0 ∷ 0 ∷ 2 ∷ [] }) (pos 8) (pos 64) (pos 5) ≡ pos 214285 ∷ pos 214285 ∷ pos 785714 ∷ []
unfolding crossing
low_centre = refl

-- a segment has two free ends
two_free_ends : free_face_count ((0 ∷ 1 ∷ []) ∷ []) ≡ 2
two_free_ends = refl

-- numbers of millionths
small_negative : (millionths (negsuc 0) ≡ codes "-0.000001") × (millionths (negsuc 1499999) ≡ codes "-1.500000") × (millionths (pos 0) ≡ codes "0.000000") × (millionths (pos 4294967295000001) ≡ codes "4294967295.000001")
unfolding digits
small_negative = (refl, refl, refl, refl)
