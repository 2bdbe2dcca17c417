-- How many vertices the mesh of a grid has at each isovalue of a range.
use Rattle.std.specs.Prelude.{ℕ, ◌+◌, List, ℤ, pos, ◌+ℤ◌, ◌-ℤ◌, unsigned_abs, None, length, map}
use Rattle.lists.specs.Orders.{numbers}
use Rattle.iso_model.specs.declared.Kind.{Kind}
use Rattle.iso_model.specs.Bipolar.{bipolar_edges}
use Rattle.iso_model.specs.Values.{Grid, volume}

-- the isovalue so many after the first
abbrev pub iso_after : ℤ → ℕ → ℤ
iso_after from i = from +ℤ pos i

-- how many isovalues there are from one up to another that is not below it
abbrev pub isovalues : ℤ → ℤ → ℕ
isovalues from to = unsigned_abs (to -ℤ from) + 1

-- how many bipolar edges a grid has at an isovalue, where no cube is left out
abbrev pub edges_at : Kind → Grid → ℤ → ℕ
edges_at kind grid iso = length (bipolar_edges (volume kind grid iso None))

-- the spectrum: this number for each isovalue from one up to another, in ascending order
abbrev pub spectrum_of : Kind → Grid → ℤ → ℤ → List ℕ
spectrum_of kind grid from to = map (λ i. edges_at kind grid (iso_after from i)) (numbers (isovalues from to))
