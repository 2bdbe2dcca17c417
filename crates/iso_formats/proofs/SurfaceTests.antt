-- The claims about meshes, as tests that compute with the functions of the definitions, on whole meshes of generated tables.
use Rattle.std.specs.Prelude.{ℕ, zero, suc, is_some, true, ◌≡◌, Bool, not, ◌&&◌, ◌||◌, ◌==◌, nat_le, List, [], ◌∷◌, pos, negsuc, Some, None, codes}
use Rattle.std.specs.Prelude.{length, map, filter, flat_map, slice_index, slice_index_or, IsTrue, IsFalse, if◌then◌else◌}
use Rattle.std.specs.List.{list_all, list_any}
use Rattle.std.specs.Fmt.{digits}
use Rattle.std.proofs.Common.{refl}
use Rattle.iso_model.specs.declared.Kind.TheVariants.{Cube, Simplex, Pyramid}
use Rattle.lists.specs.Orders.{numbers, without, has, same_list, is_distinct, sorted}
use Rattle.iso_model.specs.Turns.{turn, cofactors, dot, same_int}
use Rattle.iso_model.specs.Cells.{facet_count}
use Rattle.iso_model.specs.Neighbours.{ends_of, facet_points}
use Rattle.iso_model.specs.Values.{Volume, volume, label_of, cells, value_at}
use Rattle.iso_model.specs.Bipolar.{bipolar_edges, bipolar_edge, slice_edges, last_slice_edges, cell_edges, same_edge}
use Rattle.iso_model.specs.Crossing.{crossing}
use Rattle.iso_model.specs.Faces.{face_without, face_count, face_sum, free_face_count}
use Rattle.iso_model.specs.Walks.{walk, walk_from, next_after, triangles_at, is_start}
use Rattle.iso_formats.specs.MeshText.{mesh_text}
use Rattle.iso_model.specs.Boundary.{has_point, same_points, is_on_boundary}
use Rattle.iso_model.specs.Tables.{Table}
use Rattle.iso_model.specs.Placed.{placed_mesh}
use Rattle.iso_formats.specs.Demo.{demo_grid, demo_iso, demo_text}
use Rattle.iso_model.proofs.BoundaryTests.{is_outer}
use Rattle.iso_model.proofs.PlainHull.{entry}
use Rattle.iso_formats.proofs.MeshTests.{is_sided, plain}

-- ---- where each cell is kept

abbrev on_outer : Volume → List ℕ → Bool
on_outer v face = is_outer v.sizes (ends_of (map (bipolar_edge v) face))

abbrev is_closed : (List ℕ → Bool) → Volume → List (List ℕ) → Bool
is_closed on_boundary v s =
    list_all (λ w. (length w == length v.sizes) && is_distinct w
    && list_all (λ i. let f = face_without w i in if on_boundary f then face_count s f == 1 else (face_count s f == 2) && same_int (face_sum s f) (pos 0))
    (numbers (length w))) s

abbrev has_edge : Volume → ℕ → ℕ → Bool
has_edge v c k = list_any (same_edge (bipolar_edge v k)) (cell_edges v c)

abbrev cells_of : Volume → List ℕ → List ℕ
cells_of v w = filter (λ c. list_all (has_edge v c) w) (cells v)

abbrev is_placed : Volume → List (List ℕ) → Bool
is_placed v s =
    list_all (λ w. length (cells_of v w) == 1) s
    && list_all (λ k. list_all (λ c. not (has_edge v c k) || list_any (λ w. has w k && has (cells_of v w) c) s) (cells v)) (numbers (length (bipolar_edges v)))

abbrev is_linked_by_walks : Volume → List (List ℕ) → Bool
is_linked_by_walks v s =
    list_all (λ k.
    let t = walk s k in
    let outer = on_outer v (k ∷ []) in
    nat_le 1 (length t.order) && t.whole && (if t.closed then not outer && nat_le 3 (length t.order) else outer)) (numbers (length (bipolar_edges v)))

-- closed, placed, sided, and in three dimensions linked
abbrev is_isosurface : Volume → List (List ℕ) → Bool
is_isosurface v s = is_closed (on_outer v) v s && is_placed v s && is_sided v s && (not (length v.sizes == 3) || is_linked_by_walks v s)

-- ---- where cells are left out

abbrev facets_of : Volume → ℕ → List (List (List ℕ))
facets_of v c = map (facet_points v.kind v.sizes c) (numbers (facet_count v.kind (length v.sizes)))

-- the free facets of the kept cells
abbrev free_facets : Volume → List (List (List ℕ))
free_facets v = flat_map (λ c. filter (λ f. list_all (λ d. (d == c) || not (list_any (same_points f) (facets_of v d))) (cells v)) (facets_of v c)) (cells v)

abbrev on_free : Volume → List (List (List ℕ)) → List ℕ → Bool
on_free v free face = list_any (λ f. list_all (has_point f) (ends_of (map (bipolar_edge v) face))) free

abbrev share_at : Volume → ℕ → ℕ → ℕ → Bool
share_at v k c d = list_any (λ f. list_all (has_point f) (ends_of (bipolar_edge v k ∷ [])) && list_any (same_points f) (facets_of v d)) (facets_of v c)

-- the kept cells at an edge that n steps reach
abbrev reached : Volume → ℕ → ℕ → List ℕ → List ℕ
reached v k zero cs = cs
reached v k (suc n) cs = reached v k n (filter (λ d. has_edge v d k && (has cs d || list_any (λ c. share_at v k c d) cs)) (cells v))

abbrev triangles_on_arc : Volume → List (List ℕ) → ℕ → ℕ → List ℕ
triangles_on_arc v s k c = let arc = reached v k 8 (c ∷ []) in filter (λ t. list_any (has arc) (cells_of v (slice_index_or s t []))) (triangles_at s k)

abbrev is_path : Volume → List (List ℕ) → ℕ → ℕ → Bool
is_path v s k c =
    let ts = triangles_on_arc v s k c in
    let starts = filter (is_start s k) ts in
    let order = walk_from s k (Some (slice_index starts 0)) in
    (length starts == 1) && not (is_some (next_after s k order)) && same_list (sorted order) (sorted ts)

abbrev is_cycle : List (List ℕ) → ℕ → Bool
is_cycle s k = list_all (λ t. not (is_start s k t)) (triangles_at s k) && (walk s k).closed && (walk s k).whole && nat_le 3 (length (walk s k).order)

abbrev is_linked : Volume → List (List (List ℕ)) → List (List ℕ) → Bool
is_linked v free s =
    list_all (λ k. nat_le 1 (length (triangles_at s k))
    && (if on_free v free (k ∷ []) then list_all (λ c. not (has_edge v c k) || is_path v s k c) (cells v) else is_cycle s k))
    (numbers (length (bipolar_edges v)))

abbrev is_kept_isosurface : Volume → List (List ℕ) → Bool
is_kept_isosurface v s = let free = free_facets v in is_closed (on_free v free) v s && is_placed v s && is_sided v s && is_linked v free s

-- ---- generated tables

abbrev pub square_table : Table
square_table =
    record {
      kind = Cube;
      dimension = 2;
      entries = [] ∷ ((0 ∷ 1 ∷ []) ∷ []) ∷ ((2 ∷ 0 ∷ []) ∷ []) ∷ ((2 ∷ 1 ∷ []) ∷ []) ∷ ((1 ∷ 3 ∷ []) ∷ []) ∷ ((0 ∷ 3 ∷ []) ∷ [])
          ∷ ((1 ∷ 0 ∷ []) ∷ (2 ∷ 3 ∷ []) ∷ []) ∷ ((2 ∷ 3 ∷ []) ∷ []) ∷ ((3 ∷ 2 ∷ []) ∷ []) ∷ ((0 ∷ 2 ∷ []) ∷ (3 ∷ 1 ∷ []) ∷ [])
          ∷ ((3 ∷ 0 ∷ []) ∷ []) ∷ ((3 ∷ 1 ∷ []) ∷ []) ∷ ((1 ∷ 2 ∷ []) ∷ []) ∷ ((0 ∷ 2 ∷ []) ∷ []) ∷ ((1 ∷ 0 ∷ []) ∷ []) ∷ [] ∷ [];
    }

abbrev pub triangle_table : Table
triangle_table =
    record {
      kind = Simplex;
      dimension = 2;
      entries = [] ∷ ((0 ∷ 1 ∷ []) ∷ []) ∷ ((2 ∷ 0 ∷ []) ∷ []) ∷ ((2 ∷ 1 ∷ []) ∷ []) ∷ ((1 ∷ 2 ∷ []) ∷ []) ∷ ((0 ∷ 2 ∷ []) ∷ [])
          ∷ ((1 ∷ 0 ∷ []) ∷ []) ∷ [] ∷ [];
    }

abbrev pub tetrahedron_table : Table
tetrahedron_table =
    record {
      kind = Simplex;
      dimension = 3;
      entries = [] ∷ ((0 ∷ 2 ∷ 1 ∷ []) ∷ []) ∷ ((0 ∷ 3 ∷ 4 ∷ []) ∷ []) ∷ ((1 ∷ 4 ∷ 2 ∷ []) ∷ (1 ∷ 3 ∷ 4 ∷ []) ∷ []) ∷ ((1 ∷ 5 ∷ 3 ∷ []) ∷ [])
          ∷ ((0 ∷ 2 ∷ 5 ∷ []) ∷ (0 ∷ 5 ∷ 3 ∷ []) ∷ []) ∷ ((0 ∷ 1 ∷ 5 ∷ []) ∷ (0 ∷ 5 ∷ 4 ∷ []) ∷ []) ∷ ((2 ∷ 5 ∷ 4 ∷ []) ∷ [])
          ∷ ((2 ∷ 4 ∷ 5 ∷ []) ∷ []) ∷ ((0 ∷ 5 ∷ 1 ∷ []) ∷ (0 ∷ 4 ∷ 5 ∷ []) ∷ []) ∷ ((0 ∷ 5 ∷ 2 ∷ []) ∷ (0 ∷ 3 ∷ 5 ∷ []) ∷ [])
          ∷ ((1 ∷ 3 ∷ 5 ∷ []) ∷ []) ∷ ((1 ∷ 2 ∷ 4 ∷ []) ∷ (1 ∷ 4 ∷ 3 ∷ []) ∷ []) ∷ ((0 ∷ 4 ∷ 3 ∷ []) ∷ []) ∷ ((0 ∷ 1 ∷ 2 ∷ []) ∷ []) ∷ [] ∷ [];
    }

abbrev pub pyramid_table : Table
pyramid_table =
    record {
      kind = Pyramid;
      dimension = 3;
      entries = [] ∷ ((0 ∷ 4 ∷ 1 ∷ []) ∷ []) ∷ ((0 ∷ 2 ∷ 5 ∷ []) ∷ []) ∷ ((1 ∷ 2 ∷ 5 ∷ []) ∷ (1 ∷ 5 ∷ 4 ∷ []) ∷ []) ∷ ((1 ∷ 6 ∷ 3 ∷ []) ∷ [])
          ∷ ((0 ∷ 6 ∷ 3 ∷ []) ∷ (0 ∷ 4 ∷ 6 ∷ []) ∷ []) ∷ ((0 ∷ 1 ∷ 6 ∷ []) ∷ (0 ∷ 6 ∷ 5 ∷ []) ∷ (2 ∷ 6 ∷ 3 ∷ []) ∷ (2 ∷ 5 ∷ 6 ∷ []) ∷ [])
          ∷ ((2 ∷ 6 ∷ 3 ∷ []) ∷ (2 ∷ 5 ∷ 6 ∷ []) ∷ (4 ∷ 6 ∷ 5 ∷ []) ∷ []) ∷ ((2 ∷ 3 ∷ 7 ∷ []) ∷ [])
          ∷ ((0 ∷ 7 ∷ 2 ∷ []) ∷ (0 ∷ 4 ∷ 7 ∷ []) ∷ (1 ∷ 3 ∷ 7 ∷ []) ∷ (1 ∷ 7 ∷ 4 ∷ []) ∷ []) ∷ ((0 ∷ 3 ∷ 7 ∷ []) ∷ (0 ∷ 7 ∷ 5 ∷ []) ∷ [])
          ∷ ((1 ∷ 3 ∷ 7 ∷ []) ∷ (1 ∷ 7 ∷ 4 ∷ []) ∷ (4 ∷ 7 ∷ 5 ∷ []) ∷ []) ∷ ((1 ∷ 7 ∷ 2 ∷ []) ∷ (1 ∷ 6 ∷ 7 ∷ []) ∷ [])
          ∷ ((0 ∷ 7 ∷ 2 ∷ []) ∷ (0 ∷ 4 ∷ 7 ∷ []) ∷ (4 ∷ 6 ∷ 7 ∷ []) ∷ []) ∷ ((0 ∷ 1 ∷ 6 ∷ []) ∷ (0 ∷ 6 ∷ 5 ∷ []) ∷ (5 ∷ 6 ∷ 7 ∷ []) ∷ [])
          ∷ ((4 ∷ 7 ∷ 5 ∷ []) ∷ (4 ∷ 6 ∷ 7 ∷ []) ∷ []) ∷ ((4 ∷ 5 ∷ 7 ∷ []) ∷ (4 ∷ 7 ∷ 6 ∷ []) ∷ [])
          ∷ ((0 ∷ 7 ∷ 1 ∷ []) ∷ (0 ∷ 5 ∷ 7 ∷ []) ∷ (1 ∷ 7 ∷ 6 ∷ []) ∷ []) ∷ ((0 ∷ 2 ∷ 6 ∷ []) ∷ (0 ∷ 6 ∷ 4 ∷ []) ∷ (2 ∷ 7 ∷ 6 ∷ []) ∷ [])
          ∷ ((1 ∷ 2 ∷ 7 ∷ []) ∷ (1 ∷ 7 ∷ 6 ∷ []) ∷ []) ∷ ((1 ∷ 5 ∷ 3 ∷ []) ∷ (1 ∷ 4 ∷ 5 ∷ []) ∷ (3 ∷ 5 ∷ 7 ∷ []) ∷ [])
          ∷ ((0 ∷ 7 ∷ 3 ∷ []) ∷ (0 ∷ 5 ∷ 7 ∷ []) ∷ []) ∷ ((0 ∷ 1 ∷ 4 ∷ []) ∷ (2 ∷ 7 ∷ 3 ∷ []) ∷ []) ∷ ((2 ∷ 7 ∷ 3 ∷ []) ∷ [])
          ∷ ((2 ∷ 3 ∷ 4 ∷ []) ∷ (2 ∷ 4 ∷ 5 ∷ []) ∷ (3 ∷ 6 ∷ 4 ∷ []) ∷ []) ∷ ((0 ∷ 5 ∷ 2 ∷ []) ∷ (1 ∷ 3 ∷ 6 ∷ []) ∷ [])
          ∷ ((0 ∷ 3 ∷ 6 ∷ []) ∷ (0 ∷ 6 ∷ 4 ∷ []) ∷ []) ∷ ((1 ∷ 3 ∷ 6 ∷ []) ∷ []) ∷ ((1 ∷ 5 ∷ 2 ∷ []) ∷ (1 ∷ 4 ∷ 5 ∷ []) ∷ [])
          ∷ ((0 ∷ 5 ∷ 2 ∷ []) ∷ []) ∷ ((0 ∷ 1 ∷ 4 ∷ []) ∷ []) ∷ [] ∷ [];
    }

-- this is the table that the plain hull gives
plain_pyramids : map (entry Pyramid 3) (numbers 32) ≡ pyramid_table.entries
unfolding turn cofactors dot
plain_pyramids = refl

-- ---- meshes

abbrev squares_volume : Volume
squares_volume = volume Cube (record { sizes = (3 ∷ 2 ∷ []); samples = (negsuc 6 ∷ negsuc 2 ∷ negsuc 8 ∷ negsuc 2 ∷ pos 4 ∷ negsuc 19 ∷ []) }) (negsuc 2) None

squares : IsTrue (is_isosurface squares_volume (placed_mesh squares_volume square_table).simplices)
unfolding placed_mesh bipolar_edges cells label_of value_at crossing walk turn
squares = refl

abbrev triangles_volume : Volume
triangles_volume =
    volume Simplex (record { sizes = (3 ∷ 2 ∷ []); samples = (negsuc 6 ∷ negsuc 2 ∷ negsuc 8 ∷ negsuc 2 ∷ pos 4 ∷ negsuc 19 ∷ []) }) (negsuc 2) None

triangles : IsTrue (is_isosurface triangles_volume (placed_mesh triangles_volume triangle_table).simplices)
unfolding placed_mesh bipolar_edges cells label_of value_at crossing walk turn
triangles = refl

abbrev tetrahedra_volume : Volume
tetrahedra_volume =
    volume Simplex
    (record { sizes = (2 ∷ 2 ∷ 2 ∷ []); samples = (pos 5 ∷ negsuc 3 ∷ negsuc 4 ∷ pos 7 ∷ negsuc 3 ∷ negsuc 2 ∷ pos 2 ∷ negsuc 8 ∷ []) })
    (negsuc 3) None

tetrahedra : IsTrue (is_isosurface tetrahedra_volume (placed_mesh tetrahedra_volume tetrahedron_table).simplices)
unfolding placed_mesh bipolar_edges cells label_of value_at crossing walk turn
tetrahedra = refl

abbrev pyramids_volume : Volume
pyramids_volume =
    volume Pyramid
    (record {
      sizes = (3 ∷ 2 ∷ 2 ∷ []);
      samples = (pos 1 ∷ negsuc 1 ∷ pos 3 ∷ negsuc 3 ∷ pos 5 ∷ negsuc 5 ∷ pos 7 ∷ negsuc 7 ∷ pos 9 ∷ negsuc 9 ∷ pos 11 ∷ negsuc 12 ∷ []);
    })
    (negsuc 0) None

pyramids : IsTrue (is_isosurface pyramids_volume (placed_mesh pyramids_volume pyramid_table).simplices)
unfolding placed_mesh bipolar_edges cells label_of value_at crossing walk turn
pyramids = refl

-- bare vertices are no isosurface
no_simplices : IsFalse (is_isosurface tetrahedra_volume [])
unfolding placed_mesh bipolar_edges cells label_of value_at crossing walk turn
no_simplices = refl

-- and a mesh without one of its triangles is none
all_but_one : IsFalse (is_isosurface tetrahedra_volume (without 0 (placed_mesh tetrahedra_volume tetrahedron_table).simplices))
unfolding placed_mesh bipolar_edges cells label_of value_at crossing walk turn
all_but_one = refl

abbrev blank_tetrahedra_volume : Volume
blank_tetrahedra_volume =
    volume Simplex
    (record {
      sizes = (3 ∷ 2 ∷ 2 ∷ []);
      samples = (pos 1 ∷ negsuc 1 ∷ pos 3 ∷ negsuc 3 ∷ pos 5 ∷ negsuc 5 ∷ pos 7 ∷ negsuc 7 ∷ pos 9 ∷ negsuc 9 ∷ pos 11 ∷ negsuc 12 ∷ []);
    })
    (negsuc 0) (Some (negsuc 12))

blank_tetrahedra : IsTrue (is_kept_isosurface blank_tetrahedra_volume (placed_mesh blank_tetrahedra_volume tetrahedron_table).simplices)
unfolding placed_mesh bipolar_edges cells label_of value_at crossing walk turn
blank_tetrahedra = refl

-- two kept cubes that share an edge alone, with a path each
abbrev blank_cubes_volume : Volume
blank_cubes_volume =
    volume Cube
    (record {
      sizes = (3 ∷ 3 ∷ 2 ∷ []);
      samples =
          (pos 0 ∷ pos 0 ∷ pos 255 ∷ pos 0 ∷ pos 10 ∷ pos 0 ∷ pos 255 ∷ pos 0 ∷ pos 0 ∷ pos 0 ∷ pos 0 ∷ pos 0 ∷ pos 0 ∷ pos 0 ∷ pos 0 ∷ pos 0
          ∷ pos 0 ∷ pos 0 ∷ []);
    })
    (pos 5) (Some (pos 255))

blank_cubes : IsTrue (is_kept_isosurface blank_cubes_volume ((0 ∷ 1 ∷ 4 ∷ []) ∷ (2 ∷ 4 ∷ 3 ∷ []) ∷ []))
unfolding placed_mesh bipolar_edges cells label_of value_at crossing walk turn
blank_cubes = refl

-- each of their vertices lies on the boundary
on_boundary_there : map (λ k. is_on_boundary blank_cubes_volume (k ∷ [])) (numbers 5) ≡ true ∷ true ∷ true ∷ true ∷ true ∷ []
unfolding bipolar_edges cells value_at
on_boundary_there = refl

-- ---- the text of the demonstration

demo_squares : demo_text (placed_mesh (volume Cube (demo_grid 2 4 7) demo_iso None) square_table) ≡ codes "vertices 9\nsimplices 7\nboundary 4\n"
unfolding digits placed_mesh bipolar_edges cells label_of value_at crossing
demo_squares = refl

demo_tetrahedra : demo_text (placed_mesh (volume Simplex (demo_grid 3 2 3) demo_iso None) tetrahedron_table) ≡ codes "vertices 12\nsimplices 10\nboundary 12\n"
unfolding digits placed_mesh bipolar_edges cells label_of value_at crossing
demo_tetrahedra = refl

-- a simplex with a repeated number has no faces
counted_once : free_face_count ((0 ∷ 1 ∷ 1 ∷ []) ∷ (0 ∷ 1 ∷ 2 ∷ []) ∷ []) ≡ 3
counted_once = refl

-- ---- slices

abbrev three_slices : Volume
three_slices = plain Cube (2 ∷ 3 ∷ []) (pos 0 ∷ pos 0 ∷ pos 0 ∷ pos 0 ∷ pos 10 ∷ pos 0 ∷ []) (pos 5)

slices : length (slice_edges three_slices 0) ∷ length (slice_edges three_slices 1) ∷ length (last_slice_edges three_slices) ∷ [] ≡ 0 ∷ 1 ∷ 1 ∷ []
unfolding bipolar_edges cells value_at
slices = refl

-- the edge of slice 1 belongs to the kept square below it alone
kept_below :
    mesh_text 2
    (placed_mesh
    (volume Cube (record { sizes = 2 ∷ 3 ∷ []; samples = pos 0 ∷ pos 0 ∷ pos 10 ∷ pos 0 ∷ pos 255 ∷ pos 0 ∷ [] }) (pos 5) (Some (pos 255)))
    square_table)
    ≡ codes "nOFF\n2\n2 1 0\n0.000000 0.500000\n0.500000 1.000000\n2 0 1\n"
unfolding digits placed_mesh bipolar_edges cells label_of value_at crossing mesh_text
kept_below = refl
