use Rattle.std.proofs.Common.{◌≡◌, ◌++◌, map}
use Rattle.table_make.proofs.parts.appended.Given as goal

-- the entries of the first list, and those of the second so far
abbrev pub invariant-loop-entry : goal.invariant-loop-entry
invariant-loop-entry g l = map (λ e. e.items) l.left.items ≡ map (λ e. e.items) l.initial.left.items ++ map (λ e. e.items) l.yielded
