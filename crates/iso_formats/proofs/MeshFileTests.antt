-- Worked mesh files, by computing.
use Rattle.std.specs.Prelude.{◌≡◌, [], ◌∷◌, codes}
use Rattle.std.proofs.Common.{refl}
use Rattle.iso_formats.specs.MeshFile.{read_mesh, mesh_read, mesh_refused, wrong_header, wrong_count, wrong_coordinate, wrong_size, wrong_index}
use Rattle.iso_formats.specs.MeshFile.{extra_word, short_of_words}

-- two equal triangles
twice : read_mesh (codes "OFF\n3 2 0\n0 0 0\n1 0 0\n0 1 0\n3 0 1 2\n3 0 1 2\n") ≡ mesh_read 3 3 ((0 ∷ 1 ∷ 2 ∷ []) ∷ (0 ∷ 1 ∷ 2 ∷ []) ∷ [])
twice = refl

-- a face of four vertices in three dimensions
face_of_four : read_mesh (codes "OFF 4 1 4\n0 0 0\n1 0 0\n1 1 0\n0 1 0\n4 0 1 2 3\n") ≡ mesh_refused (wrong_size 6)
face_of_four = refl

-- a comment, other ways to write a coordinate, and a colour behind a face
made_by_hand : read_mesh (codes "OFF 3 1 0 # made by hand\n1e-3 -.5 0\n1e-3 -.5 0\n1e-3 -.5 0\n3 0 1 2 255 0 0\n") ≡ mesh_read 3 3 ((0 ∷ 1 ∷ 2 ∷ []) ∷ [])
made_by_hand = refl

nothing : read_mesh [] ≡ mesh_refused (short_of_words 0)
nothing = refl

-- ---- places that are easily mistaken

-- a colour follows each face; of two faces on one line the second is passed over
two_on_a_line : read_mesh (codes "OFF 3 2 0\n0 0 0 0 0 0 0 0 0\n3 0 1 2 3 0 1 2\n") ≡ mesh_refused (short_of_words 3)
two_on_a_line = refl

-- with no face nothing is passed over
extra_on_the_line : read_mesh (codes "OFF 1 0 0\n0 0 0 7\n") ≡ mesh_refused (extra_word 2)
extra_on_the_line = refl

-- a face over three lines, which begins on the line of the last coordinate
over_lines : read_mesh (codes "nOFF 2\n2 1 0\n0 0 1 1 2 \n1\n\n# x\n\r\t0 red # blue") ≡ mesh_read 2 2 ((1 ∷ 0 ∷ []) ∷ [])
over_lines = refl

-- the dimension is one digit, and the numbers may have zeros before them
two_digits : read_mesh (codes "nOFF 03\n1 0 0\n0 0 0\n") ≡ mesh_refused (wrong_header 1)
two_digits = refl

zeros_before : read_mesh (codes "nOFF 3\n003 01 00\n0 0 0 0 0 0 0 0 0\n3 00 01 02\n") ≡ mesh_read 3 3 ((0 ∷ 1 ∷ 2 ∷ []) ∷ [])
zeros_before = refl

-- a count past 4294967295, and a number of edges of any length
great_count : read_mesh (codes "OFF 0 4294967296 0") ≡ mesh_refused (wrong_count 1)
great_count = refl

many_edges : read_mesh (codes "OFF 0 4294967295 99999999999999999999999\n") ≡ mesh_refused (short_of_words 1)
many_edges = refl

-- no vertex has a number here, so the first index does not fit, though no file goes on behind the number of faces
no_vertices : read_mesh (codes "OFF 0 1 0\n3\n0 0 0") ≡ mesh_refused (wrong_index 3)
no_vertices = refl

-- a sign alone is no coordinate
sign_alone : read_mesh (codes "OFF 1 0 0\n0 - 0") ≡ mesh_refused (wrong_coordinate 2)
sign_alone = refl

-- the last line without LF counts, and so do empty lines and comments
lines_counted : read_mesh (codes "\n#\nOFF") ≡ mesh_refused (short_of_words 3)
lines_counted = refl
