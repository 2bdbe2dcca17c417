-- The parts of a mesh's text, and the page on which text waits to be put.
use Rattle.std.specs.Prelude.{◌≡◌, ℕ, ◌==◌, List, [], ◌∷◌, ◌++◌, map, flat_map, ℤ, codes, decimal, Option, if◌then◌else◌}
use Rattle.std.specs.Io.KnownBytes.{Appends}
use Rattle.iso_base.specs.Fronts.{AppendsFront}
use Rattle.iso_formats.specs.MeshText.{line, millionths}

-- how many bytes a page holds
abbrev pub page_size : ℕ
page_size = 65536

-- OFF, or nOFF and the dimension on its own line where it is not 3
unfoldable pub format_lines : ℕ → List ℕ
format_lines d = if d == 3 then line (codes "OFF" ∷ []) else line (codes "nOFF" ∷ []) ++ line (decimal d ∷ [])

-- the first lines: the format, and then the counts of vertices and simplices and 0
unfoldable pub head : ℕ → ℕ → ℕ → List ℕ
head d vertices simplices = format_lines d ++ line (decimal vertices ∷ decimal simplices ∷ codes "0" ∷ [])

-- a line of coordinates for each vertex
unfoldable pub vertex_lines : List (List ℤ) → List ℕ
vertex_lines vertices = flat_map (λ v. line (map millionths v)) vertices

-- a line with the dimension and the numbers of vertices for each simplex
unfoldable pub simplex_lines : ℕ → List (List ℕ) → List ℕ
simplex_lines d simplices = flat_map (λ w. line (decimal d ∷ map decimal w)) simplices

-- known bytes grew by all of the text but its end, which is the page
unfoldable pub AllButPage : Option (List ℕ) → Option (List ℕ) → List ℕ → List ℕ → Type 0
AllButPage old new text page = (put : List ℕ) × Appends old new put × (put ++ page ≡ text)

-- of a page and the lines of vertices behind it all was put but the new page
abbrev pub PutsVertices : Option (List ℕ) → Option (List ℕ) → List ℕ → List (List ℤ) → List ℕ → Type 0
PutsVertices old new before vertices page = AllButPage old new (before ++ vertex_lines vertices) page

-- a front of a page and the lines of vertices behind it was put
abbrev pub PutsSomeVertices : Option (List ℕ) → Option (List ℕ) → List ℕ → List (List ℤ) → Type 0
PutsSomeVertices old new before vertices = AppendsFront old new (before ++ vertex_lines vertices)

-- of a page and the lines of simplices behind it all was put but the new page
abbrev pub PutsSimplices : ℕ → Option (List ℕ) → Option (List ℕ) → List ℕ → List (List ℕ) → List ℕ → Type 0
PutsSimplices d old new before simplices page = AllButPage old new (before ++ simplex_lines d simplices) page

-- a front of a page and the lines of simplices behind it was put
abbrev pub PutsSomeSimplices : ℕ → Option (List ℕ) → Option (List ℕ) → List ℕ → List (List ℕ) → Type 0
PutsSomeSimplices d old new before simplices = AppendsFront old new (before ++ simplex_lines d simplices)
