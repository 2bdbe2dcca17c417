-- The ends of an edge as the definitions have them.
use Rattle.std.specs.Prelude.{ℕ}
use Rattle.grid_split.specs.declared.split.Edge.{Edge}
use Rattle.iso_model.specs.Splits as Splits

-- the two ends of an edge
abbrev pub as_edge : {D : ℕ} → Edge D → Splits.Edge
as_edge e = record { low = e.low; high = e.high }
