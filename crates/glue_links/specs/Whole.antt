-- Grids of which no cell is left out.
use Rattle.std.specs.Prelude.{ℕ, List}
use Rattle.iso_model.specs.Values.{Volume}
use Rattle.iso_model.specs.Boundary.{KeepsAll}
use Rattle.iso_model.specs.Links.{IsLinkedByWalks}

-- where each cell is kept, the triangles are linked by walks
abbrev pub WalksWhereWhole : Volume → List (List ℕ) → Type 0
WalksWhereWhole v simplices = KeepsAll v → IsLinkedByWalks v simplices
