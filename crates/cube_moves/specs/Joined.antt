-- Pairs of corners that an edge of the cube joins.
use Rattle.std.specs.Prelude.{◌≡◌, ℕ, ◌<◌}
use Rattle.iso_model.specs.declared.Kind.TheVariants.{Cube}
use Rattle.iso_model.specs.Cells.{edge_count, edge_ends}

-- the corners are the ends of some edge, the smaller first
abbrev pub IsJoined : ℕ → ℕ → ℕ → Type 0
IsJoined d a b = (e : ℕ) × (e < edge_count Cube d) × (edge_ends Cube d e ≡ (a, b))
