-- The demonstration: its grid, and what it says of a mesh.
use Rattle.std.specs.Prelude.{ℕ, zero, suc, ◌+◌, ◌*◌, ◌/◌, ◌%◌, ◌^◌, ℤ, pos, List, [], ◌∷◌, ◌++◌, replicate, map, length, codes, decimal}
use Rattle.iso_model.specs.Values.{Grid, product}
use Rattle.iso_model.specs.Faces.{Mesh, free_face_count}
use Rattle.iso_formats.specs.MeshText.{line}

-- the number after x in the sequence of the demonstration
abbrev pub next_number : ℕ → ℕ
next_number x = (1664525 * x + 1013904223) % 2 ^ 32

-- the n numbers after x, in order
abbrev pub numbers_after : ℕ → ℕ → List ℕ
numbers_after zero x = []
numbers_after (suc n) x = next_number x ∷ numbers_after n (next_number x)

-- the grid of the demonstration: d axes of one size, and as samples, axis 0 fastest, the numbers after the seed in order, each divided by 2^24 and rounded down
abbrev pub demo_grid : ℕ → ℕ → ℕ → Grid
demo_grid d size seed =
    let sizes = replicate d size in
    record { sizes = sizes; samples = map (λ x. pos (x / 2 ^ 24)) (numbers_after (product sizes) seed) }

-- the isovalue of the demonstration
abbrev pub demo_iso : ℤ
demo_iso = pos 128

-- a line of a word and a number
abbrev pub count_line : List ℕ → ℕ → List ℕ
count_line word n = line (word ∷ decimal n ∷ [])

-- what the demonstration says of a mesh, in three lines: the numbers of vertices, of simplices, and of different faces with count 1
abbrev pub demo_text : Mesh → List ℕ
demo_text m =
    count_line (codes "vertices") (length m.vertices)
    ++ count_line (codes "simplices") (length m.simplices)
    ++ count_line (codes "boundary") (free_face_count m.simplices)
