use Rattle.std.proofs.Common.{◌≡◌, ◌+◌, ◌*◌, ◌≤◌, ◌∷◌, ◌++◌, length, take}
use Rattle.std.specs.Fmt.{decimal}
use Rattle.std.specs.List.{flat_map}
use Rattle.off_write.proofs.lines.push_simplex.Given as goal

abbrev pub invariant-loop-vertex : goal.invariant-loop-vertex
invariant-loop-vertex g l =
    (l.page ≡ l.initial.page ++ flat_map (λ k. 32 ∷ decimal k) (take l.vertex-index l.simplex))
    × (length l.page ≤ length l.initial.page + 21 * l.vertex-index) × (length l.simplex ≡ g.row.D)
