use Rattle.std.proofs.Common.{◌≡◌, length, All}
use Rattle.std.specs.Prelude.{None}
use Rattle.table_make.proofs.classes.no_places.Given as goal

-- as many as labels so far, and none is known
abbrev pub invariant-loop-label : goal.invariant-loop-label
invariant-loop-label l = (length l.places.items ≡ l._label) × All (λ place. place ≡ None) l.places.items
